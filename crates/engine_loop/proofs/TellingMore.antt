-- Objects that are told of events, and then of more.
use Rattle.std.proofs.Common.{◌≡◌, List, [], ◌∷◌, ◌++◌, map, refl, ap, sym, subst, append_assoc}
use Rattle.std.specs.Prelude.{⊤}
use Rattle.std.proofs.lemmas.List.{append-nil}
use Rattle.rpq_base.specs.declared.data.Event.{Event}
use Rattle.standing.specs.Objects.{ObjectValue}
use Rattle.standing.specs.Circles.{CircleValue, Parts, TellsEach, as_seen, circle_value}
use Rattle.standing.specs.Stood.{HaveStood}
use Rattle.standing.proofs.HavingStood.{stood_weaker, told_each, stood_longer}
use Rattle.engine_loop.specs.Telling.{TellsOn}

-- no event is told
pub tells_nothing : (whole : Type 0) (circle : CircleValue) → TellsOn [] whole circle circle
tells_nothing whole circle objects before stood =
    stood_weaker objects (before ++ []) ⊤ whole circle.members circle.left (λ _. tt)
    (subst (λ (events : List Event). HaveStood objects events ⊤ circle.members circle.left)
    (sym (append-nil before)) stood)

-- where none of some events is told, a front of them was told
pub tells_no_more : (circle : CircleValue) (events : List Event) → TellsOn events ⊥ circle circle
tells_no_more circle events = λ objects before stood.
    stood_longer objects before events ⊤ circle.members circle.left stood

-- some events are told, and then others
pub tells_more : (first second : List Event) (whole : Type 0) (old between new : CircleValue) →
    TellsOn first ⊤ old between → TellsOn second whole between new →
    TellsOn (first ++ second) whole old new
tells_more first second whole old between new begins goes_on objects before stood =
    subst (λ (events : List Event). HaveStood objects events whole new.members new.left)
    (append_assoc before first second)
    (goes_on objects (before ++ first) (begins objects before stood))

-- less is said of what was told
pub tells_weaker : (events : List Event) (whole weaker : Type 0) (old new : CircleValue) →
    (weaker → whole) → TellsOn events whole old new → TellsOn events weaker old new
tells_weaker events whole weaker old new less tells objects before stood =
    stood_weaker objects (before ++ events) whole weaker new.members new.left less
    (tells objects before stood)

-- a front of some events is one of more events
pub tells_front_of_more : (first later : List Event) (whole weaker : Type 0)
    (old new : CircleValue) → (weaker → ⊥) → TellsOn first whole old new →
    TellsOn (first ++ later) weaker old new
tells_front_of_more first later whole weaker old new never tells objects before stood =
    stood_weaker objects (before ++ (first ++ later)) ⊥ weaker new.members new.left never
    (subst (λ (events : List Event). HaveStood objects events ⊥ new.members new.left)
    (append_assoc before first later)
    (stood_longer objects (before ++ first) later whole new.members new.left
    (tells objects before stood)))

-- nobody hears of any event where there are no members
none_hear : (events : List Event) (left : List ObjectValue) →
    TellsEach events (circle_value [] left) (circle_value [] left)
none_hear [] left = refl
none_hear (event ∷ events) left = (
  circle_value [] left,
  record {
    first = [];
    told = [];
    split = refl;
    heard = tt;
    stayed = refl;
    gone = sym (append-nil left);
  },
  none_hear events left,
)

-- objects that have all left are told of whatever comes
pub tells_nobody : {S : Type 0} (seen : S → ObjectValue) (circle : Parts S) (events : List Event)
    (whole : Type 0) → circle.members ≡ [] →
    TellsOn events whole (as_seen seen circle) (as_seen seen circle)
tells_nobody seen circle events whole none = λ objects before stood.
    let left = map seen circle.left in
    let nobody : map seen circle.members ≡ [] = ap (map seen) none in
    subst (λ (members : List ObjectValue). HaveStood objects (before ++ events) whole members left)
    (sym nobody)
    (stood_weaker objects (before ++ events) ⊤ whole [] left (λ _. tt)
    (told_each objects before events (circle_value [] left) (circle_value [] left)
    (subst (λ (members : List ObjectValue). HaveStood objects before ⊤ members left) nobody stood)
    (none_hear events left)))
