-- The calls of an object in memory, and which of them fail.
use Rattle.std.specs.Prelude.{ℕ, ◌==◌, Bool, List}
use Rattle.std.specs.List.{list_any}
use Rattle.rpq_io.specs.Counts.{raised}

-- the numbers of the calls that are to fail, and how many calls there were
pub record CallScript : Type 0 where
  pub fails : List ℕ
  pub call_count : ℕ

-- no call yet
abbrev pub new_script : List ℕ → CallScript
new_script fails = record { fails = fails; call_count = 0 }

-- the number of the next call: calls are counted from 1, up to the limit of a count
abbrev pub next_number : CallScript → ℕ
next_number script = raised script.call_count

-- whether the next call is to fail: its number is listed
abbrev pub next_fails : CallScript → Bool
next_fails script = list_any (λ number. number == next_number script) script.fails

-- the script after one more call
abbrev pub after_call : CallScript → CallScript
after_call script = record { fails = script.fails; call_count = next_number script }
