-- Entries that are made one after another. Only private contracts cite this file.
use Rattle.std.specs.Prelude.{◌≡◌, ℕ, ◌+◌, ◌^◌, ◌<◌, ◌≤◌, List, length}
use Rattle.rpq_base.specs.declared.data.Entry.{Entry}
use Rattle.tuple_generator.specs.Generator.{generated_history, seed_before}

-- how many entries were made, how many of them before the last front, and how many are wanted
pub record MadeValue : Type 0 where
  pub count : ℕ
  pub before : ℕ
  pub wanted : ℕ

-- the entries are those of the first generated tuples, the next tuple is made with this seed, and
-- there aren't more than are wanted
pub record AreMade (entries : List Entry) (seed before wanted : ℕ) : Type 0 where
  pub first : entries ≡ generated_history (length entries)
  pub next : seed ≡ seed_before (length entries + 1)
  pub below : seed < 2 ^ 31
  pub last : before ≤ length entries
  pub within : length entries ≤ wanted
  pub few : wanted ≤ 1000000
