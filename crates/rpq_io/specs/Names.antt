-- Lists of names, each as its bytes.
use Rattle.std.specs.Prelude.{ℕ, Bool, true, false, List, [], ◌∷◌, ◌++◌, bytes_eq, count_by}
use Rattle.std.specs.List.{list_any}

-- names in order, and how many more can be noted without new memory
pub record NameRoom : Type 0 where
  pub names : List (List ℕ)
  pub room : ℕ

-- how often a name stands among these
abbrev pub times : List ℕ → List (List ℕ) → ℕ
times name names = count_by (λ other. bytes_eq other name) names

-- whether a name stands among these
abbrev pub is_noted : List ℕ → List (List ℕ) → Bool
is_noted name names = list_any (λ other. bytes_eq other name) names

-- these names, and then one more where it is to be noted
abbrev pub noted_if : Bool → List ℕ → List (List ℕ) → List (List ℕ)
noted_if true name names = names ++ name ∷ []
noted_if false name names = names
