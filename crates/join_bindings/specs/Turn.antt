-- The order in which the search takes the atoms of a join. Private contracts alone cite this.
use Rattle.std.specs.Prelude.{ℕ, ◌+◌, ◌≤◌, ◌==◌, ◌||◌, Bool, true, false, List, [], ◌∷◌, ◌++◌}
use Rattle.std.specs.Prelude.{Contains}
use Rattle.std.specs.Prelude.{if◌then◌else◌}
use Rattle.std.specs.List.{list_any}
use Rattle.join_file.specs.declared.data.Term.{Term}
use Rattle.join_file.specs.declared.data.Term.TheVariants.{Variable, Vertex}
use Rattle.join_file.specs.declared.data.JoinAtom.{JoinAtom}

-- the term is the variable with this number
abbrev pub is_variable : ℕ → Term → Bool
is_variable number (Variable other) = other == number
is_variable number (Vertex name) = false

-- an end of the atom is the variable with this number
abbrev pub mentions : ℕ → JoinAtom → Bool
mentions number atom = is_variable number atom.from || is_variable number atom.to

-- where these atoms are taken, the term is known: it is a vertex, or a variable of one of them
abbrev pub is_known : List JoinAtom → Term → Bool
is_known taken (Vertex name) = true
is_known taken (Variable number) = list_any (mentions number) taken

-- one where the end isn't known
abbrev pub open_end : List JoinAtom → Term → ℕ
open_end taken term = if is_known taken term then 0 else 1

-- how many ends of the atom aren't known
abbrev pub open_ends : List JoinAtom → JoinAtom → ℕ
open_ends taken atom = open_end taken atom.from + open_end taken atom.to

-- an atom that has no more open ends than any of the others
abbrev pub IsNext : List JoinAtom → JoinAtom → List JoinAtom → Type 0
IsNext taken atom others =
    (other : JoinAtom) → Contains others other → open_ends taken atom ≤ open_ends taken other

-- where these atoms are taken, the plan takes the next ones in turn, each before all behind it and
-- all that are left
abbrev pub AreInTurn : List JoinAtom → List JoinAtom → List JoinAtom → Type 0
AreInTurn taken [] left = Unit {0}
AreInTurn taken (atom ∷ plan) left =
    IsNext taken atom (plan ++ left) × AreInTurn (taken ++ atom ∷ []) plan left
