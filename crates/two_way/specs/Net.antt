-- What two steps, one after the other, change in all.
use Rattle.std.specs.Prelude.{◌≡◌, not, ◌↔◌, ◌⊎◌, List, [], ◌∷◌, Contains, length, take, drop}
use Rattle.std.specs.List.Sorted.{IsStrictlySortedBy}
use Rattle.rpq_base.specs.declared.data.Entry.{Entry}
use Rattle.rpq_base.specs.declared.data.Event.{Event}
use Rattle.two_way.specs.Doubled.{doubled_by}
use Rattle.two_way.specs.Differences.{event_cmp}

-- the event that undoes another
abbrev pub opposite : Event → Event
opposite each = record { query = each.query; added = not each.added; pair = each.pair }

-- the event is one of these, and none of the others undoes it
abbrev pub Stays : List Event → List Event → Event → Type 0
Stays events others each = Contains events each × (Contains others (opposite each) → ⊥)

-- the events of two lists without those that undo one another, in their order, each once
pub record AreNet (first second events : List Event) : Type 0 where
  pub sorted : IsStrictlySortedBy event_cmp events
  pub exact : (each : Event) →
      Contains events each ↔ (Stays first second each ⊎ Stays second first each)

-- the net of the events of an entry, which are one list, or of an entry and its inverse, two lists
abbrev pub IsNetOf : List (List Event) → List Event → Type 0
IsNetOf [] events = events ≡ []
IsNetOf (only ∷ []) events = AreNet only [] events
IsNetOf (first ∷ second ∷ others) events = AreNet first second events

-- of the lists of events of some entries and their inverses, in the order of the doubled entries,
-- the net of each entry
abbrev pub AreAllNet : List Entry → List (List Event) → List (List Event) → Type 0
AreAllNet [] lists netted = netted ≡ []
AreAllNet (entry ∷ later) lists [] = ⊥
AreAllNet (entry ∷ later) lists (events ∷ rest) =
    IsNetOf (take (length (doubled_by entry)) lists) events
    × AreAllNet later (drop (length (doubled_by entry)) lists) rest
