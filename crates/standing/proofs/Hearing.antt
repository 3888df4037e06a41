-- What an object is after it heard events, and then more.
use Rattle.std.proofs.Common.{◌≡◌, ℕ, ◌+◌, Bool, true, false, not, cond, List, [], ◌∷◌, ◌++◌, count_by, Option, Some, None, option_map, refl, sym, ap, subst, ◌∙◌, append_assoc, append-nil, arith}
use Rattle.std.proofs.lemmas.List.Elements.{filter-append}
use Rattle.std.proofs.lemmas.List.Sums.{sum_by-append}
use Rattle.rpq_base.specs.declared.data.Event.{Event}
use Rattle.standing.specs.Objects.{Numbers, ObjectValue, wants}
use Rattle.standing.specs.Told.{counted, with_counted, IsTold, wanted_events, HasHeard}

-- ---- lists

-- a list with one element isn't empty
pub some_isnt_none : {X : Type 0} (x : X) → ◌≡◌ {A = List X} (x ∷ []) [] → ⊥
some_isnt_none x same = cc

pub some_isnt_any : {X : Type 0} (x : X) (xs : List X) → x ∷ xs ≡ [] → ⊥
some_isnt_any x xs same = cc

pub front_of_none : {X : Type 0} (xs ys : List X) → xs ++ ys ≡ [] → xs ≡ []
front_of_none [] ys none = refl
front_of_none (x ∷ xs) ys none = absurd cc

pub rest_of_none : {X : Type 0} (xs ys : List X) → xs ++ ys ≡ [] → ys ≡ []
rest_of_none [] ys none = none
rest_of_none (x ∷ xs) ys none = absurd cc

-- ---- numbers

counted_twice : (count more further : ℕ) → counted (counted count more) further ≡ counted count (more + further)
counted_twice count more further = omega arith

counted_none : (count : ℕ) → counted count 0 ≡ count
counted_none count = omega arith

with_counted-append : (numbers : Numbers) (events more : List Event) →
    with_counted (with_counted numbers events) more ≡ with_counted numbers (events ++ more)
with_counted-append numbers events more =
    let gains : Event → Bool = λ event. event.added in
    let losses : Event → Bool = λ event. not event.added in
    let of : (Event → Bool) → ℕ → List Event → ℕ = λ test count list. counted count (count_by test list) in
    let added : of gains (of gains numbers.added events) more ≡ of gains numbers.added (events ++ more) =
    counted_twice numbers.added (count_by gains events) (count_by gains more)
    ∙ ap (counted numbers.added) (sym (sum_by-append (λ (event : Event). cond (gains event) 1 0) events more)) in
    let retracted : of losses (of losses numbers.retracted events) more ≡ of losses numbers.retracted (events ++ more) =
    counted_twice numbers.retracted (count_by losses events) (count_by losses more)
    ∙ ap (counted numbers.retracted) (sym (sum_by-append (λ (event : Event). cond (losses event) 1 0) events more)) in
    λ i. record { added = added i; retracted = retracted i }

with_counted-nil : (numbers : Numbers) → with_counted numbers [] ≡ numbers
with_counted-nil numbers = λ i. record { added = counted_none numbers.added i; retracted = counted_none numbers.retracted i }

-- ---- what is told

heard-append : (heard : Option (List Event)) (events more : List Event) →
    option_map (λ before. before ++ more) (option_map (λ before. before ++ events) heard) ≡ option_map (λ before. before ++ (events ++ more)) heard
heard-append None events more = refl
heard-append (Some before) events more = ap (λ (list : List Event). Some list) (append_assoc before events more)

heard-nil : (heard : Option (List Event)) → heard ≡ option_map (λ before. before ++ []) heard
heard-nil None = refl
heard-nil (Some before) = ap (λ (list : List Event). Some list) (sym (append-nil before))

-- ---- one telling after another

pub told_further : (events more : List Event) (old between new : ObjectValue) → IsTold events old between → IsTold more between new →
    IsTold (events ++ more) old new
told_further events more old between new first second = record {
  wanted = second.wanted ∙ first.wanted;
  numbers = second.numbers ∙ ap (λ (numbers : Numbers). with_counted numbers more) first.numbers ∙ with_counted-append old.numbers events more;
  heard = second.heard ∙ ap (option_map (λ (before : List Event). before ++ more)) first.heard ∙ heard-append old.heard events more;
}

told_nothing : (object : ObjectValue) → IsTold [] object object
told_nothing object = record {
  wanted = refl;
  numbers = sym (with_counted-nil object.numbers);
  heard = heard-nil object.heard;
}

-- ---- what is heard

pub wanted_events-append : (wanted : List ℕ) (events more : List Event) →
    wanted_events wanted (events ++ more) ≡ wanted_events wanted events ++ wanted_events wanted more
wanted_events-append wanted events more = filter-append (λ (event : Event). wants wanted event.query) events more

pub heard_further : (events more : List Event) (old between new : ObjectValue) → HasHeard events old between → HasHeard more between new →
    HasHeard (events ++ more) old new
heard_further events more old between new first second =
    let both : wanted_events old.wanted (events ++ more) ≡ wanted_events old.wanted events ++ wanted_events old.wanted more =
    wanted_events-append old.wanted events more in
    let told : IsTold (wanted_events old.wanted more) between new =
    subst (λ (wanted : List ℕ). IsTold (wanted_events wanted more) between new) first.told.wanted second.told in
    record {
      told = subst (λ (list : List Event). IsTold list old new) (sym both)
          (told_further (wanted_events old.wanted events) (wanted_events old.wanted more) old between new first.told told);
      untold = λ none.
          let neither = sym both ∙ none in
          second.untold (ap (λ (wanted : List ℕ). wanted_events wanted more) first.told.wanted
          ∙ rest_of_none (wanted_events old.wanted events) (wanted_events old.wanted more) neither)
          ∙ first.untold (front_of_none (wanted_events old.wanted events) (wanted_events old.wanted more) neither);
    }

pub heard_nothing : (object : ObjectValue) → HasHeard [] object object
heard_nothing object = record { told = told_nothing object; untold = λ _. refl }

-- the wanted one of one event
pub wanted_one : (wanted : List ℕ) (event : Event) → wants wanted event.query ≡ true → wanted_events wanted (event ∷ []) ≡ event ∷ []
wanted_one wanted event is = rw is refl

pub unwanted_one : (wanted : List ℕ) (event : Event) → wants wanted event.query ≡ false → wanted_events wanted (event ∷ []) ≡ []
unwanted_one wanted event is = rw is refl
