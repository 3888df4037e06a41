-- Lists of lines that only grow, each line by one pass.
use Rattle.std.specs.Prelude.{◌≡◌, ◌==◌, ℕ, List, ◌++◌, Option, Some}
use Rattle.std.specs.List.{All, filter}

-- the lines begin with those that were seen
abbrev pub StartsWith : {L : Type 0} → List L → List L → Type 0
StartsWith {L} lines seen = (rest : List L) × (lines ≡ seen ++ rest)

module _ {L : Type 0} (author : L → ℕ) where
  -- the lines of the pass with this number, in order
  abbrev pub own : ℕ → List L → List L
  own number lines = filter (λ line. author line == number) lines

  -- the lines are those found, and then some of the pass with this number
  abbrev pub Adds : ℕ → List L → List L → Type 0
  Adds number found lines =
      (added : List L) × (lines ≡ found ++ added) × All (λ line. author line ≡ number) added

  -- what the pass with this number knows of a value with these lines is so
  pub record Agrees {F : Type 0} (kept : F) (lines : List L) (number : ℕ) (seen mine : List L)
      (fixed : Option F) : Type 0 where
    pub fixed_is : fixed ≡ Some kept
    pub seen_begins : StartsWith lines seen
    pub mine_is : own number lines ≡ mine
