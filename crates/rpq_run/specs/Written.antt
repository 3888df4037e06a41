-- What a sink grew by, and what a call that was to write a text answered.
use Rattle.std.specs.Prelude.{◌≡◌, ℕ, List, Option, Result, IsOk, IsErr}
use Rattle.std.specs.Io.KnownBytes.{append_known}
use Rattle.rpq_io.specs.Counts.{Rose, CountsFault}
use Rattle.rpq_io.specs.Writes.{WritesProperPrefix}
use Rattle.rpq_threads.specs.Written.{Grew, GrewByPrefix, GrewByProperPrefix}

-- a sink grew by a text of this kind: by all of it, where no write on it failed and memory didn't
-- run out for it; by a proper prefix where a write failed; and always by a prefix. A write that
-- failed isn't told as want of memory
pub record WritesWhere (failed short : Type 0) (IsText : List ℕ → Type 0)
    (before after : Option (List ℕ)) : Type 0 where
  pub whole : (failed → ⊥) → (short → ⊥) → Grew IsText before after
  pub part : failed → GrewByProperPrefix IsText before after
  pub prefix : GrewByPrefix IsText before after
  pub apart : failed → short → ⊥

-- a call that was to write this text on a sink answered this: the text was written, or a proper
-- prefix of it with an error, which the sink's count shows
pub record Tells {Sink T E : Type 0} (written : Sink → Option (List ℕ)) (faults : Sink → ℕ)
    (text : List ℕ) (old new : Sink) (result : Result T E) : Type 0 where
  pub whole : IsOk result → written new ≡ append_known (written old) text
  pub part : IsErr result → WritesProperPrefix text (written old) (written new)
  pub counted : CountsFault (IsErr result) (faults old) (faults new)

-- these lines were written on a sink, or a prefix of them where its count rose
pub record TellsLines {K : Type 0} (written : K → Option (List ℕ)) (faults : K → ℕ)
    (lines : List ℕ) (old new : K) : Type 0 where
  pub prefix : GrewByPrefix (λ text. text ≡ lines) (written old) (written new)
  pub whole : ¬ Rose (faults old) (faults new) → written new ≡ append_known (written old) lines
