-- A circle of objects that is told of events.
use Rattle.std.specs.Prelude.{◌≡◌, Bool, ◌&&◌, not, List, [], ◌∷◌, ◌++◌, filter, map}
use Rattle.std.specs.List.{AllZip}
use Rattle.rpq_base.specs.declared.data.Event.{Event}
use Rattle.standing.specs.Objects.{ObjectValue, wants}
use Rattle.standing.specs.Told.{HasHeard}

-- the objects that are still told of events, and those that left
pub record Parts (S : Type 0) : Type 0 where
  pub members : List S
  pub left : List S

-- a circle as contracts see it: each object as it is seen
abbrev pub CircleValue : Type 0
CircleValue = Parts ObjectValue

-- the circle of these objects
abbrev pub circle_value : List ObjectValue → List ObjectValue → CircleValue
circle_value members left = record { members = members; left = left }

-- a circle with each object as it is seen
abbrev pub as_seen : {S : Type 0} → (S → ObjectValue) → Parts S → CircleValue
as_seen seen parts = circle_value (map seen parts.members) (map seen parts.left)

-- whether an object leaves at an event, as it is after it: it was told of it, and is gone
abbrev pub leaves : Event → ObjectValue → Bool
leaves event object = wants object.wanted event.query && object.gone

-- and whether it stays
abbrev pub stays : Event → ObjectValue → Bool
stays event object = not (leaves event object)

-- all members but the last ones, `untold`, hear the event; those who leave at it go behind those
-- who left before, and the others keep their order
pub record TellsAllBut (untold : List ObjectValue) (event : Event) (old new : CircleValue) :
    Type 0 where
  pub first : List ObjectValue
  pub told : List ObjectValue
  pub split : old.members ≡ first ++ untold
  pub heard : AllZip (HasHeard (event ∷ [])) first told
  pub stayed : new.members ≡ filter (stays event) told ++ untold
  pub gone : new.left ≡ old.left ++ filter (leaves event) told

-- all members hear the event
abbrev pub Tells : Event → CircleValue → CircleValue → Type 0
Tells event old new = TellsAllBut [] event old new

-- the members up to some one hear the event
abbrev pub TellsSome : Event → CircleValue → CircleValue → Type 0
TellsSome event old new = (untold : List ObjectValue) × TellsAllBut untold event old new

-- all members hear the events, one after another
abbrev pub TellsEach : List Event → CircleValue → CircleValue → Type 0
TellsEach [] old new = new ≡ old
TellsEach (event ∷ events) old new =
    (between : CircleValue) × Tells event old between × TellsEach events between new

-- all members hear a front of the events, and then some members hear the event behind it
pub record TellsFront (events : List Event) (old new : CircleValue) : Type 0 where
  pub front : List Event
  pub event : Event
  pub rest : List Event
  pub between : CircleValue
  pub split : events ≡ front ++ event ∷ rest
  pub each : TellsEach front old between
  pub some : TellsSome event between new
