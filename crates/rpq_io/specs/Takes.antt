-- Taking bytes from a source.
use Rattle.std.specs.Prelude.{◌≡◌, ℕ, ◌<◌, ◌≤◌, List, [], length, Option, IfSome}
use Rattle.std.specs.Io.KnownBytes.{prepend_known}

-- bytes were taken, this many: what was left before is they, and then what is left now
pub record Takes (count : ℕ) (before after : Option (List ℕ)) : Type 0 where
  pub bytes : List ℕ
  pub counted : length bytes ≡ count
  pub taken : before ≡ prepend_known bytes after

-- at most this many bytes were taken
abbrev pub TakesAtMost : ℕ → Option (List ℕ) → Option (List ℕ) → Type 0
TakesAtMost limit before after = (count : ℕ) × (count ≤ limit) × Takes count before after

-- all bytes were taken, fewer than may be: they are what was left before, and nothing is left now
pub record TakesAll (limit : ℕ) (before after : Option (List ℕ)) (bytes : List ℕ) : Type 0 where
  pub taken : before ≡ prepend_known bytes after
  pub none_left : IfSome after (λ rest. rest ≡ [])
  pub few : length bytes < limit
  pub whole : IfSome before (λ left. bytes ≡ left)

-- as many bytes were taken as may be, and there were no fewer
pub record IsTooMuch (limit : ℕ) (before after : Option (List ℕ)) : Type 0 where
  pub all : Takes limit before after
  pub enough : IfSome before (λ left. limit ≤ length left)
