-- What is told of entries beside their events, put together with these.
use Rattle.std.proofs.Common.{◌≡◌, ℕ, zero, suc, ◌+◌, ◌<◌, List, [], ◌∷◌, ◌++◌, length, map}
use Rattle.std.proofs.Common.{take, drop, get_or, Bool, None, refl, sym, ap, ◌∙◌, arith}
use Rattle.std.specs.List.{All}
use Rattle.std.proofs.Math.Seq.{drop-cons}
use Rattle.std.proofs.lemmas.List.{take_more}
use Rattle.std.proofs.lemmas.List.Elements.{All-nil, All-cons, All-head, All-tail}
use Rattle.rpq_base.specs.declared.data.Event.{Event}
use Rattle.rpq_base.specs.declared.data.Entry.{Entry}
use Rattle.rpq_model.specs.Query.{Query}
use Rattle.two_way.specs.TwoWay.{AreAllWalkedEventsFrom}
use Rattle.join_bindings.specs.State.{JoinsValue}
use Rattle.entry_steps.specs.Joining.{TakesEach}
use Rattle.entry_steps.specs.Steps.{StepValue, events_of, lines_of}
use Rattle.entry_steps.specs.Telling.{steps_with, TellsNothing}
use Rattle.entry_steps.specs.declared.unnamed_steps.PathsAndJoins.{PathsAndJoins}

-- the step of these events, and what is told beside them
abbrev pub step_with : List Event → PathsAndJoins → StepValue
step_with events own =
    record { events = events; shown = own.shown.items; joined = own.joined.items }

-- one entry more
pub with_push : (lists : List (List Event)) (beside : List PathsAndJoins) (events : List Event)
    (own : PathsAndJoins) → length beside ≡ length lists →
    steps_with (lists ++ events ∷ []) (beside ++ own ∷ [])
    ≡ steps_with lists beside ++ step_with events own ∷ []
with_push [] [] events own many = refl
with_push [] (first ∷ beside) events own many = absurd (omega (arith, many))
with_push (first ∷ lists) [] events own many = absurd (omega (arith, many))
with_push (first ∷ lists) (one ∷ beside) events own many =
    ap (λ (rest : List StepValue). step_with first one ∷ rest)
    (with_push lists beside events own (omega (arith, many)))

-- the steps have the events
pub events_with : (lists : List (List Event)) (beside : List PathsAndJoins) →
    length beside ≡ length lists → events_of (steps_with lists beside) ≡ lists
events_with [] [] many = refl
events_with [] (first ∷ beside) many = absurd (omega (arith, many))
events_with (first ∷ lists) [] many = absurd (omega (arith, many))
events_with (first ∷ lists) (one ∷ beside) many =
    ap (λ (rest : List (List Event)). first ∷ rest)
    (events_with lists beside (omega (arith, many)))

-- ---- where nothing is told

pub none_shown : (lists : List (List Event)) (beside : List PathsAndJoins) →
    All TellsNothing beside →
    All (λ (step : StepValue). step.shown ≡ []) (steps_with lists beside)
none_shown [] beside nothing = All-nil (λ (step : StepValue). step.shown ≡ [])
none_shown (events ∷ lists) [] nothing = All-nil (λ (step : StepValue). step.shown ≡ [])
none_shown (events ∷ lists) (own ∷ beside) nothing =
    All-cons (λ (step : StepValue). step.shown ≡ []) (step_with events own)
    (steps_with lists beside) (All-head TellsNothing own beside nothing).shown
    (none_shown lists beside (All-tail TellsNothing own beside nothing))

pub none_taken : (lists : List (List Event)) (beside : List PathsAndJoins) →
    length beside ≡ length lists → All TellsNothing beside →
    TakesEach None lists None (lines_of (steps_with lists beside))
none_taken [] [] many nothing = refl
none_taken [] (own ∷ beside) many nothing = absurd (omega (arith, many))
none_taken (events ∷ lists) [] many nothing = absurd (omega (arith, many))
none_taken (events ∷ lists) (own ∷ beside) many nothing = (
  None,
  (All-head TellsNothing own beside nothing).joined,
  none_taken lists beside (omega (arith, many)) (All-tail TellsNothing own beside nothing),
)

-- entries have as many lists of events
pub as_many_lists : (two_way : Bool) (queries : List Query) (later before : List Entry)
    (lists : List (List Event)) → AreAllWalkedEventsFrom two_way queries before later lists →
    length lists ≡ length later
as_many_lists two_way queries [] before [] are = refl
as_many_lists two_way queries [] before (events ∷ rest) are = absurd are
as_many_lists two_way queries (entry ∷ later) before [] are = absurd are
as_many_lists two_way queries (entry ∷ later) before (events ∷ rest) are =
    ap suc (as_many_lists two_way queries later (before ++ entry ∷ []) rest are.1)

-- ---- going through lists

pub take_next : {A : Type 0} (xs : List A) (i : ℕ) (x : A) → i < length xs → x ≡ get_or xs i x →
    take (i + 1) xs ≡ take i xs ++ x ∷ []
take_next xs i x below is =
    take_more xs i x below ∙ ap (λ last. take i xs ++ last ∷ []) (sym is)

pub drop_next : {A : Type 0} (xs : List A) (i : ℕ) (x : A) → i < length xs → x ≡ get_or xs i x →
    drop i xs ≡ x ∷ drop (i + 1) xs
drop_next xs i x below is =
    let place : suc i ≡ i + 1 = omega arith in
    drop-cons xs i x below
    ∙ (ap (λ first. first ∷ drop (suc i) xs) (sym is) ∙ ap (λ n. x ∷ drop n xs) place)
