-- Objects that have stood while events were told.
use Rattle.std.proofs.Common.{◌≡◌, ℕ, zero, suc, All, ◌+◌, true, false, List, [], ◌∷◌, ◌++◌, length, filter, Option, Some, None, slice_get, IsSomeAnd, map, refl, sym, ap, subst, subst₂, ◌∙◌, ◌⊎◌, inl, inr, ⊎_elim, append_assoc, append-nil, arith}
use Rattle.std.specs.List.{AllZip, AllByRecursion, range_with_len}
use Rattle.std.specs.Prelude.{⊤}
use Rattle.std.proofs.lemmas.Bool.{cases_Bool, and_parts}
use Rattle.std.proofs.lemmas.List.Elements.{All-from_recursion, recursion_from_All}
use Rattle.rpq_base.specs.declared.data.Event.{Event}
use Rattle.standing.specs.Objects.{ObjectValue, wants}
use Rattle.standing.specs.Told.{HasHeard, wanted_events}
use Rattle.standing.specs.Circles.{CircleValue, Parts, leaves, stays, TellsAllBut, Tells, TellsSome, TellsEach, TellsFront}
use Rattle.standing.specs.Stood.{HasStayed, HasLeft, HaveStood}
use Rattle.standing.proofs.Hearing.{heard_further, heard_nothing, wanted_one, unwanted_one, rest_of_none, some_isnt_none, some_isnt_any, wanted_events-append}
use Rattle.standing.proofs.Parting.{PartsAt, parted}
use Rattle.standing.proofs.Zips.{zip_so, zip-append}
use Rattle.standing.proofs.Places.{rises_from_increasing, increasing_from_rises, times-append, all_apart}

-- ---- one object

-- an object that stayed and heard all
stayed_whole : (events : List Event) (old new : ObjectValue) → HasStayed events ⊤ old new → HasHeard events old new
stayed_whole events old new stayed =
    subst (λ (front : List Event). HasHeard front old new)
    (sym (append-nil stayed.front) ∙ ap (λ (rest : List Event). stayed.front ++ rest) (sym (stayed.all tt)) ∙ sym stayed.split) stayed.heard

-- an object that doesn't leave at an event is as it was, or isn't gone
still_here : (event : Event) (old new : ObjectValue) → HasHeard (event ∷ []) old new → leaves event new ≡ false → (new ≡ old) ⊎ (new.gone ≡ false)
still_here event old new heard stays = elim (cases_Bool (wants old.wanted event.query)) [
  | inl wanted ↦ inr (sym (rw (ap (λ (list : List ℕ). wants list event.query) heard.told.wanted ∙ wanted) refl) ∙ stays)
  | inr unwanted ↦ inl (heard.untold (unwanted_one old.wanted event unwanted))
]

still_further : (old between new : ObjectValue) → (between ≡ old) ⊎ (between.gone ≡ false) → (new ≡ between) ⊎ (new.gone ≡ false) →
    (new ≡ old) ⊎ (new.gone ≡ false)
still_further old between new first (inr here) = inr here
still_further old between new (inl same) (inl still) = inl (still ∙ same)
still_further old between new (inr here) (inl still) = inr (ap (λ (object : ObjectValue). object.gone) still ∙ here)

-- an object hears one event more and stays
stays_further : (events : List Event) (event : Event) (whole : Type 0) (old between new : ObjectValue) → HasStayed events ⊤ old between →
    HasHeard (event ∷ []) between new → leaves event new ≡ false → HasStayed (events ++ event ∷ []) whole old new
stays_further events event whole old between new stayed heard stays = record {
  front = events ++ event ∷ [];
  rest = [];
  split = sym (append-nil (events ++ event ∷ []));
  all = λ _. refl;
  heard = heard_further events (event ∷ []) old between new (stayed_whole events old between stayed) heard;
  still = still_further old between new stayed.still (still_here event between new heard stays);
}

-- or leaves at it
leaves_further : (events : List Event) (event : Event) (old between new : ObjectValue) → HasStayed events ⊤ old between →
    HasHeard (event ∷ []) between new → leaves event new ≡ true → HasLeft (events ++ event ∷ []) old new
leaves_further events event old between new stayed heard leave =
    let before = stayed_whole events old between stayed in
    let both = and_parts (wants new.wanted event.query) new.gone leave in
    let wanted : wants old.wanted event.query ≡ true =
    ap (λ (list : List ℕ). wants list event.query) (sym (heard.told.wanted ∙ before.told.wanted)) ∙ both.0 in
    record {
      front = events ++ event ∷ [];
      rest = [];
      split = sym (append-nil (events ++ event ∷ []));
      some = λ none. some_isnt_none event (sym (wanted_one old.wanted event wanted)
          ∙ rest_of_none (wanted_events old.wanted events) (wanted_events old.wanted (event ∷ []))
          (sym (wanted_events-append old.wanted events (event ∷ [])) ∙ none));
      heard = heard_further events (event ∷ []) old between new before heard;
      gone = both.1;
    }

-- an object that isn't told more has heard a front of more events
stayed_longer : (events more : List Event) (whole longer : Type 0) (old new : ObjectValue) → (longer → ⊥) → HasStayed events whole old new →
    HasStayed (events ++ more) longer old new
stayed_longer events more whole longer old new never stayed = record {
  front = stayed.front;
  rest = stayed.rest ++ more;
  split = ap (λ (list : List Event). list ++ more) stayed.split ∙ append_assoc stayed.front stayed.rest more;
  all = λ fact. absurd (never fact);
  heard = stayed.heard;
  still = stayed.still;
}

left_longer : (events more : List Event) (old new : ObjectValue) → HasLeft events old new → HasLeft (events ++ more) old new
left_longer events more old new left = record {
  front = left.front;
  rest = left.rest ++ more;
  split = ap (λ (list : List Event). list ++ more) left.split ∙ append_assoc left.front left.rest more;
  some = left.some;
  heard = left.heard;
  gone = left.gone;
}

stayed_weaker : (events : List Event) (whole weaker : Type 0) (old new : ObjectValue) → (weaker → whole) → HasStayed events whole old new →
    HasStayed events weaker old new
stayed_weaker events whole weaker old new since stayed = record {
  front = stayed.front;
  rest = stayed.rest;
  split = stayed.split;
  all = λ fact. stayed.all (since fact);
  heard = stayed.heard;
  still = stayed.still;
}

-- an object that was told of nothing
stays_so : (whole : Type 0) (object : ObjectValue) → HasStayed [] whole object object
stays_so whole object = record { front = []; rest = []; split = refl; all = λ _. refl; heard = heard_nothing object; still = inl refl }

-- ---- objects at places

-- what is said of the object at a place follows from what was said
at_place : (found : Option ObjectValue) (P Q : ObjectValue → Type 0) → ((old : ObjectValue) → P old → Q old) → IsSomeAnd found P → IsSomeAnd found Q
at_place None P Q follows fact = fact
at_place (Some old) P Q follows fact = follows old fact

-- what is said of an object that stayed, and of one that left, by its place
abbrev Stayed : List ObjectValue → List Event → Type 0 → ℕ → ObjectValue → Type 0
Stayed objects events whole place new = IsSomeAnd (slice_get objects place) (λ old. HasStayed events whole old new)

abbrev Left : List ObjectValue → List Event → ℕ → ObjectValue → Type 0
Left objects events place new = IsSomeAnd (slice_get objects place) (λ old. HasLeft events old new)

-- ---- nothing told

-- the objects behind others stand at their places
stand_from : (whole : Type 0) (objects : List ObjectValue) (from : ℕ) (rest : List ObjectValue) →
    ((place : ℕ) → slice_get objects (from + place) ≡ slice_get rest place) →
    AllZip (Stayed objects [] whole) (range_with_len from (length rest)) rest
stand_from whole objects from [] same = tt
stand_from whole objects from (object ∷ rest) same = (
  subst (λ (found : Option ObjectValue). IsSomeAnd found (λ old. HasStayed [] whole old object))
      (sym (same 0) ∙ ap (slice_get objects) (omega arith)) (stays_so whole object),
  stand_from whole objects (from + 1) rest (λ place. ap (slice_get objects) {x = from + 1 + place} {y = from + suc place} (omega arith) ∙ same (suc place)),
)

pub none_told : (objects : List ObjectValue) (whole : Type 0) → HaveStood objects [] whole objects []
none_told objects whole = record {
  kept = range_with_len 0 (length objects);
  gone = [];
  apart = all_apart (length objects);
  each_stayed = stand_from whole objects 0 objects (λ place. ap (slice_get objects) (omega arith));
  each_left = tt;
}

-- ---- one event

-- nobody is untold where all are told
untold_stay : (objects : List ObjectValue) (events : List Event) (event : Event) (whole : Type 0) (untold : List ObjectValue) →
    (whole → untold ≡ []) → (behind : List ℕ) → AllZip (Stayed objects events ⊤) behind untold → AllZip (Stayed objects (events ++ event ∷ []) whole) behind untold
untold_stay objects events event whole [] none [] all = tt
untold_stay objects events event whole [] none (place ∷ behind) all = absurd all
untold_stay objects events event whole (object ∷ untold) none behind all =
    zip_so (Stayed objects events ⊤) (Stayed objects (events ++ event ∷ []) whole) behind (object ∷ untold)
    (λ place new. at_place (slice_get objects place) (λ old. HasStayed events ⊤ old new) (λ old. HasStayed (events ++ event ∷ []) whole old new)
    (λ old. stayed_longer events (event ∷ []) ⊤ whole old new (λ fact. some_isnt_any object untold (none fact)))) all

told_but : (objects : List ObjectValue) (events : List Event) (event : Event) (whole : Type 0) (untold : List ObjectValue) (old new : CircleValue) →
    (whole → untold ≡ []) → HaveStood objects events ⊤ old.members old.left → TellsAllBut untold event old new →
    HaveStood objects (events ++ event ∷ []) whole new.members new.left
told_but objects events event whole untold old new none stood tells =
    let before = Stayed objects events ⊤ in
    let stayed = Stayed objects (events ++ event ∷ []) whole in
    let left = Left objects (events ++ event ∷ []) in
    let parts : PartsAt before stayed left event = λ place between after heard was. (
      (λ stays. at_place (slice_get objects place) (λ first. HasStayed events ⊤ first between) (λ first. HasStayed (events ++ event ∷ []) whole first after)
          (λ first is. stays_further events event whole first between after is heard stays) was),
      (λ leave. at_place (slice_get objects place) (λ first. HasStayed events ⊤ first between) (λ first. HasLeft (events ++ event ∷ []) first after)
          (λ first is. leaves_further events event first between after is heard leave) was),
    ) in
    let places = parted before stayed left event stood.kept tells.first tells.told untold parts
    (untold_stay objects events event whole untold none) tells.heard
    (subst (λ (members : List ObjectValue). AllZip before stood.kept members) tells.split stood.each_stayed) in
    record {
      kept = places.stay;
      gone = stood.gone ++ places.go;
      apart = record {
        rising = increasing_from_rises places.stay (places.rising (rises_from_increasing stood.kept stood.apart.rising));
        once = λ place. omega (
          arith,
          times-append place places.stay (stood.gone ++ places.go),
          times-append place stood.gone places.go,
          times-append place stood.kept stood.gone,
          places.count place,
        ) ∙ stood.apart.once place;
      };
      each_stayed = subst (λ (members : List ObjectValue). AllZip stayed places.stay members) (sym tells.stayed) places.each_stays;
      each_left = subst (λ (list : List ObjectValue). AllZip left (stood.gone ++ places.go) list) (sym tells.gone)
          (zip-append left stood.gone places.go old.left (filter (leaves event) tells.told)
          (zip_so (Left objects events) left stood.gone old.left (λ place after. at_place (slice_get objects place)
          (λ first. HasLeft events first after) (λ first. HasLeft (events ++ event ∷ []) first after)
          (λ first. left_longer events (event ∷ []) first after)) stood.each_left)
          places.each_goes);
    }

pub told_all : (objects : List ObjectValue) (events : List Event) (event : Event) (old new : CircleValue) →
    HaveStood objects events ⊤ old.members old.left → Tells event old new → HaveStood objects (events ++ event ∷ []) ⊤ new.members new.left
told_all objects events event old new stood tells = told_but objects events event ⊤ [] old new (λ _. refl) stood tells

pub told_some : (objects : List ObjectValue) (events : List Event) (event : Event) (old new : CircleValue) →
    HaveStood objects events ⊤ old.members old.left → TellsSome event old new → HaveStood objects (events ++ event ∷ []) ⊥ new.members new.left
told_some objects events event old new stood tells = told_but objects events event ⊥ tells.0 old new (λ never. absurd never) stood tells.1

-- ---- weaker facts

pub stood_weaker : (objects : List ObjectValue) (events : List Event) (whole weaker : Type 0) (stayed left : List ObjectValue) → (weaker → whole) →
    HaveStood objects events whole stayed left → HaveStood objects events weaker stayed left
stood_weaker objects events whole weaker stayed left since stood = record {
  kept = stood.kept;
  gone = stood.gone;
  apart = stood.apart;
  each_stayed = zip_so (Stayed objects events whole) (Stayed objects events weaker) stood.kept stayed (λ place new. at_place (slice_get objects place)
      (λ old. HasStayed events whole old new) (λ old. HasStayed events weaker old new) (λ old. stayed_weaker events whole weaker old new since)) stood.each_stayed;
  each_left = stood.each_left;
}

pub stood_longer : (objects : List ObjectValue) (events more : List Event) (whole : Type 0) (stayed left : List ObjectValue) →
    HaveStood objects events whole stayed left → HaveStood objects (events ++ more) ⊥ stayed left
stood_longer objects events more whole stayed left stood = record {
  kept = stood.kept;
  gone = stood.gone;
  apart = stood.apart;
  each_stayed = zip_so (Stayed objects events whole) (Stayed objects (events ++ more) ⊥) stood.kept stayed (λ place new. at_place (slice_get objects place)
      (λ old. HasStayed events whole old new) (λ old. HasStayed (events ++ more) ⊥ old new)
      (λ old. stayed_longer events more whole ⊥ old new (λ never. never))) stood.each_stayed;
  each_left = zip_so (Left objects events) (Left objects (events ++ more)) stood.gone left (λ place new. at_place (slice_get objects place)
      (λ old. HasLeft events old new) (λ old. HasLeft (events ++ more) old new) (λ old. left_longer events more old new)) stood.each_left;
}

-- ---- several events

pub told_each : (objects : List ObjectValue) (events more : List Event) (old new : CircleValue) →
    HaveStood objects events ⊤ old.members old.left → TellsEach more old new → HaveStood objects (events ++ more) ⊤ new.members new.left
told_each objects events [] old new stood same =
    subst (λ (list : List Event). HaveStood objects list ⊤ new.members new.left) (sym (append-nil events))
    (subst (λ (circle : CircleValue). HaveStood objects events ⊤ circle.members circle.left) (sym same) stood)
told_each objects events (event ∷ more) old new stood each =
    subst (λ (list : List Event). HaveStood objects list ⊤ new.members new.left) (append_assoc events (event ∷ []) more)
    (told_each objects (events ++ event ∷ []) more each.0 new (told_all objects events event old each.0 stood each.1) each.2)

pub told_front : (objects : List ObjectValue) (events more : List Event) (old new : CircleValue) →
    HaveStood objects events ⊤ old.members old.left → TellsFront more old new → HaveStood objects (events ++ more) ⊥ new.members new.left
told_front objects events more old new stood tells =
    let before = told_each objects events tells.front old tells.between stood tells.each in
    let after = told_some objects (events ++ tells.front) tells.event tells.between new before tells.some in
    subst (λ (list : List Event). HaveStood objects list ⊥ new.members new.left)
    (append_assoc (events ++ tells.front) (tells.event ∷ []) tells.rest
    ∙ append_assoc events tells.front (tells.event ∷ tells.rest)
    ∙ ap (λ (list : List Event). events ++ list) (sym tells.split))
    (stood_longer objects ((events ++ tells.front) ++ tells.event ∷ []) tells.rest ⊥ new.members new.left after)

-- ---- a circle from its beginning

-- a new circle of these objects
pub begun : {S : Type 0} (seen : S → ObjectValue) (given : List S) (circle : Parts S) → circle.members ≡ given → circle.left ≡ [] →
    HaveStood (map seen given) [] ⊤ (map seen circle.members) (map seen circle.left)
begun {S} seen given circle members left =
    subst₂ (λ (staying gone : List S). HaveStood (map seen given) [] ⊤ (map seen staying) (map seen gone)) (sym members) (sym left)
    (none_told (map seen given) ⊤)

-- ---- objects that are gone

none_gone_at : (objects : List ObjectValue) (place : ℕ) (P : ObjectValue → Type 0) (new : ObjectValue) →
    ((old : ObjectValue) → P old → (new ≡ old) ⊎ (new.gone ≡ false)) → AllByRecursion (λ object. object.gone ≡ false) objects →
    IsSomeAnd (slice_get objects place) P → new.gone ≡ false
none_gone_at [] place P new still none fact = absurd fact
none_gone_at (object ∷ objects) zero P new still none fact =
    ⊎_elim (λ same. ap (λ (each : ObjectValue). each.gone) same ∙ none.0) (λ here. here) (still object fact)
none_gone_at (object ∷ objects) (suc place) P new still none fact = none_gone_at objects place P new still none.1 fact

none_gone_of : (objects : List ObjectValue) (events : List Event) (whole : Type 0) (places : List ℕ) (stayed : List ObjectValue) →
    AllByRecursion (λ object. object.gone ≡ false) objects → AllZip (Stayed objects events whole) places stayed →
    AllByRecursion (λ object. object.gone ≡ false) stayed
none_gone_of objects events whole [] [] none all = tt
none_gone_of objects events whole [] (new ∷ stayed) none all = absurd all
none_gone_of objects events whole (place ∷ places) [] none all = absurd all
none_gone_of objects events whole (place ∷ places) (new ∷ stayed) none all = (
  none_gone_at objects place (λ old. HasStayed events whole old new) new (λ old is. is.still) none all.0,
  none_gone_of objects events whole places stayed none all.1,
)

-- where no object was gone at first, none of those that stayed is
pub none_gone : (objects : List ObjectValue) (events : List Event) (whole : Type 0) (stayed left : List ObjectValue) →
    HaveStood objects events whole stayed left → All (λ object. object.gone ≡ false) objects → All (λ object. object.gone ≡ false) stayed
none_gone objects events whole stayed left stood none =
    All-from_recursion (λ (object : ObjectValue). object.gone ≡ false) stayed
    (none_gone_of objects events whole stood.kept stayed (recursion_from_All (λ (object : ObjectValue). object.gone ≡ false) objects none) stood.each_stayed)
