-- Some changes of bindings with their lines.
use Rattle.std.specs.Prelude.{◌≡◌, ℕ, Bool, false, true, List, [], ◌∷◌, codes}
use Rattle.join_bindings.specs.declared.event.JoinEvent.{JoinEvent}
use Rattle.join_file.specs.Joins.{JoinValue}
use Rattle.join_bindings.specs.JoinText.{join_lines}

-- an event of the only join
abbrev pub event : Bool → List (List ℕ) → JoinEvent
event added names = record { join = 0; added = added; binding = names }

-- the lines of a join of the name j
pub record TextExamples : Type 0 where
  pub none : (joins : List JoinValue) → join_lines joins [] ≡ []
  pub lost_and_gained : (join : JoinValue) → join.name ≡ codes "j" →
      join_lines (join ∷ []) (event false (codes "x" ∷ codes "y" ∷ [])
      ∷ event true (codes "z" ∷ codes "y" ∷ []) ∷ [])
      ≡ codes "-- j x y\n++ j z y\n"
