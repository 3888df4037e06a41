-- The names that have numbers, in the order of their first sight.
use Rattle.std.specs.Prelude.{◌≡◌, ◌+◌, ◌^◌, ◌<◌, ℕ, List, [], ◌∷◌, ◌++◌, Option, Some, is_some, if◌then◌else◌, slice_index_or}
use Rattle.std.specs.List.{position}
use Rattle.rpq_base.specs.Same.{same_name}

-- the number of a name: its place
abbrev pub number_of : List (List ℕ) → List ℕ → Option ℕ
number_of names name = position (λ each. same_name name each) names

-- the names after a sight of one: a new name comes last
abbrev pub with_name : List (List ℕ) → List ℕ → List (List ℕ)
with_name names name = if is_some (number_of names name) then names else names ++ name ∷ []

-- each name that had a number has it still
abbrev pub KeepsNumbers : List (List ℕ) → List (List ℕ) → Type 0
KeepsNumbers old new = (name : List ℕ) (number : ℕ) →
    number_of old name ≡ Some number → number_of new name ≡ Some number

-- the numbers of the names are below the greatest of 32 bits
abbrev pub AreSmall : List (List ℕ) → Type 0
AreSmall names = (name : List ℕ) (number : ℕ) →
    number_of names name ≡ Some number → number + 1 < 2 ^ 32

-- the name that has this number; where none has it, no bytes
abbrev pub name_at : List (List ℕ) → ℕ → List ℕ
name_at names number = slice_index_or names number []
