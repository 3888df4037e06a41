-- The writing of a text piece by piece. Only private contracts cite this file.
use Rattle.std.specs.Prelude.{◌≡◌, ℕ, List, Option, Some, None, Result, Err, IsOk}
use Rattle.std.specs.Io.KnownBytes.{append_known}
use Rattle.rpq_io.specs.Counts.{CountsFault}
use Rattle.rpq_io.specs.Writes.{WritesProperPrefix}
use Rattle.rpq_run.specs.declared.fault.TextFault.{TextFault}
use Rattle.rpq_run.specs.declared.fault.TextFault.TheVariants.{Write, Memory}
use Rattle.rpq_threads.specs.Written.{GrewByPrefix}

-- a call that was to write this text answered this: the text was written, or a proper prefix of it
-- where a write failed, or a prefix where memory ran out
pub record WritesPart {Sink : Type 0} (written : Sink → Option (List ℕ)) (faults : Sink → ℕ)
    (text : List ℕ) (old new : Sink) (result : Result (Unit {0}) TextFault) : Type 0 where
  pub whole : IsOk result → written new ≡ append_known (written old) text
  pub write : result ≡ Err Write → WritesProperPrefix text (written old) (written new)
  pub memory : result ≡ Err Memory → GrewByPrefix (λ all. all ≡ text) (written old) (written new)
  pub counted : CountsFault (result ≡ Err Write) (faults old) (faults new)

-- the same of a sink that need not be there, where there is nothing to be done without one
abbrev pub WritesIfThere : {Sink : Type 0} → (Sink → Option (List ℕ)) → (Sink → ℕ) → List ℕ
    → Option Sink → Option Sink → Result (Unit {0}) TextFault → Type 0
WritesIfThere written faults text (Some old) (Some new) result =
    WritesPart written faults text old new result
WritesIfThere written faults text (Some old) None result = ⊥
WritesIfThere written faults text None (Some new) result = ⊥
WritesIfThere written faults text None None result = IsOk result
