-- From the ends of the vertices to the events of a query.
use Rattle.std.specs.Prelude.{◌≡◌, ◌≢◌, ◌↔◌, ◌<◌, ◌==◌, ℕ, Bool, true, false, not, List, ◌++◌}
use Rattle.std.specs.Prelude.{length, map, All, Contains, Option, None, Some, IsSome}
use Rattle.std.specs.List.Sorted.{IsStrictlySortedBy}
use Rattle.rpq_base.specs.declared.data.Pair.{Pair}
use Rattle.rpq_base.specs.declared.data.Event.{Event}
use Rattle.rpq_base.specs.Order.{pair_cmp}
use Rattle.rpq_model.specs.declared.mode.Mode.{Mode}
use Rattle.rpq_model.specs.declared.mode.Mode.TheVariants.{Arbitrary, Simple}
use Rattle.rpq_model.specs.Events.{event}
use Rattle.name_table.specs.Names.{number_of}
use Rattle.source_tree.specs.declared.change.EndChange.{EndChange}
use Rattle.source_tree.specs.Ends.{HasOutcome}

-- the ends of vertices, as seen from roots, by numbers
abbrev pub Ends : Type 0
Ends = ℕ → ℕ → Option ℕ

-- the list has exactly the ends that went or came between these
abbrev pub AreChangesOf : Ends → Ends → List EndChange → Type 0
AreChangesOf before after log = (each : EndChange) → Contains log each
    ↔ HasOutcome each.outcome (before each.root each.vertex) (after each.root each.vertex)

-- the numbers in the list are those of names
abbrev pub AreNamed : List (List ℕ) → List EndChange → Type 0
AreNamed names log = All (λ (each : EndChange).
    (each.root < length names) × (each.vertex < length names)) log

-- whether a pair of these vertices counts in a query of this mode
abbrev pub counts : Mode → ℕ → ℕ → Bool
counts Arbitrary root vertex = true
counts Simple root vertex = not (root == vertex)

-- the pair has an end at first and none at last, and counts: no simple path ends where it begins
pub record IsLoss (mode : Mode) (names : List (List ℕ)) (first last : Ends) (pair : Pair)
    : Type 0 where
  pub root : ℕ
  pub vertex : ℕ
  pub from : number_of names pair.from ≡ Some root
  pub to : number_of names pair.to ≡ Some vertex
  pub apart : mode ≡ Simple → pair.from ≢ pair.to
  pub had : IsSome (first root vertex)
  pub gone : last root vertex ≡ None

-- the pairs are exactly the losses, sorted, each once
pub record AreLosses (mode : Mode) (names : List (List ℕ)) (first last : Ends)
    (pairs : List Pair) : Type 0 where
  pub sorted : IsStrictlySortedBy pair_cmp pairs
  pub exact : (pair : Pair) → Contains pairs pair ↔ IsLoss mode names first last pair

-- the events under a query's number from the first ends to the last: the pairs that are lost, then
-- those that are gained, which are lost the other way round
pub record AreEventsBetween (query : ℕ) (mode : Mode) (names : List (List ℕ)) (first last : Ends)
    (events : List Event) : Type 0 where
  pub lost : List Pair
  pub gained : List Pair
  pub losses : AreLosses mode names first last lost
  pub gains : AreLosses mode names last first gained
  pub are : events ≡ map (event query false) lost ++ map (event query true) gained
