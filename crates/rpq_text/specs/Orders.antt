-- The orders in which changes of bindings stand, and by which one of several marks and some of many
-- words are told, each without the comparison that the code makes.
use Rattle.std.specs.Prelude.{◌≡◌, ℕ, ◌<◌, ◌≤◌, ◌⊎◌, true, false, List, [], ◌∷◌, length, codes}
use Rattle.std.specs.Prelude.{Some, slice_get}
use Rattle.std.specs.declared.cmp.Ordering.TheVariants.{Less}
use Rattle.rpq_base.specs.Order.{word_cmp}
use Rattle.rpq_base.specs.declared.data.Edge.{Edge}
use Rattle.rpq_base.specs.declared.data.Entry.{Entry}
use Rattle.rpq_base.specs.declared.data.Label.{Label}
use Rattle.containment_test.specs.Containment.{Shows, IsLeastTriple}
use Rattle.join_bindings.specs.declared.event.JoinEvent.{JoinEvent}
use Rattle.join_bindings.specs.Bindings.{Family, binding_cmp}
use Rattle.join_bindings.specs.Events.{AreJoinEvents}
use Rattle.join_file.specs.Joins.{JoinValue}
use Rattle.path_witness.specs.declared.mark.Mark.{Mark}
use Rattle.path_witness.specs.Found.{IsFound, IsLiveMark}
use Rattle.rpq_model.specs.Window.{WindowValue}
use Rattle.rpq_text.specs.Examples.{label_named}

-- of two changes of one join the first is a loss and the second a gain; or both are of one kind,
-- and the binding of the first is less
abbrev pub IsBeforeOfOne : JoinEvent → JoinEvent → Type 0
IsBeforeOfOne first second =
    ((first.added ≡ false) × (second.added ≡ true))
    ⊎ ((first.added ≡ second.added) × (binding_cmp first.binding second.binding ≡ Less))

-- of two changes the first is of a join that stands earlier in the joins file; or both are of one
abbrev pub IsBefore : JoinEvent → JoinEvent → Type 0
IsBefore first second =
    (first.join < second.join)
    ⊎ ((first.join ≡ second.join) × IsBeforeOfOne first second)

-- of the changes from one family of pairs to another, each stands behind those that are before it
abbrev pub ChangesAreInOrder : Type 0
ChangesAreInOrder = (joins : List JoinValue) (before after : Family) (events : List JoinEvent) →
    AreJoinEvents joins before after events →
    (place later : ℕ) (first second : JoinEvent) → place < later →
    slice_get events place ≡ Some first → slice_get events later ≡ Some second →
    IsBefore first second

-- no live entry of the edge lasts longer than the one that is found, and of those that last as long
-- none came later
pub record LastsLongest (window : WindowValue) (history : List Entry) (edge : Edge)
    (found : Mark) : Type 0 where
  pub longest : (other : Mark) → IsLiveMark window history edge other →
      other.deadline ≤ found.deadline
  pub latest : (other : Mark) → IsLiveMark window history edge other →
      other.deadline ≡ found.deadline → other.position ≤ found.position

-- of entries that last as long the latest one is found
abbrev pub LatestIsFound : Type 0
LatestIsFound = (window : WindowValue) (history : List Entry) (edge : Edge) (found : Mark) →
    IsFound window history edge (Some found) → LastsLongest window history edge found

-- of the words that show that a language doesn't have the property of containment none has a
-- shorter first one; of those with this first one none has a shorter second one; and of those with
-- these two none has a shorter third one
pub record AreShortest (language : List Label → Type 0) (p q w : List Label) : Type 0 where
  pub first : (other second third : List Label) → Shows language other second third →
      length p ≤ length other
  pub second : (other third : List Label) → Shows language p other third →
      length q ≤ length other
  pub third : (other : List Label) → Shows language p q other → length w ≤ length other

-- the least words are the shortest
abbrev pub LeastAreShortest : (List Label → Type 0) → Type 0
LeastAreShortest language = (p q w : List Label) → IsLeastTriple language p q w →
    AreShortest language p q w

-- a word comes before a longer one, whatever its labels are; and before one of its length with a
-- later label in the first place in which they differ
pub record WordOrderExamples : Type 0 where
  pub shorter : word_cmp (label_named (codes "b") ∷ [])
      (label_named (codes "a") ∷ label_named (codes "a") ∷ []) ≡ Less
  pub of_one_length : word_cmp (label_named (codes "a") ∷ label_named (codes "b") ∷ [])
      (label_named (codes "b") ∷ label_named (codes "a") ∷ []) ≡ Less
