use Rattle.std.proofs.Common.{◌≡◌, ◌+◌, List, [], ◌∷◌, ◌++◌, length, map, take, drop, Vec, Global}
use Rattle.std.proofs.Common.{sym, ap, ap₂, subst, ◌∙◌, arith}
use Rattle.std.proofs.lemmas.List.{length-map, length-take-le, length_push, map_push}
use Rattle.std.proofs.lemmas.List.Elements.{All-push, All-same, All-get_or}
use Rattle.rpq_base.specs.declared.data.Event.{Event}
use Rattle.entry_steps.specs.Joining.{MayTake, MayTakeEach, Takes, TakesEach}
use Rattle.entry_steps.specs.Showing.{MayShow, AreShownBy}
use Rattle.entry_steps.specs.Steps.{StepValue, lines_of}
use Rattle.entry_steps.specs.Telling.{lists_in, steps_with}
use Rattle.entry_steps.specs.declared.unnamed_steps.PathsAndJoins.{PathsAndJoins}
use Rattle.entry_steps.proofs.Taking.{takes_push}
use Rattle.entry_steps.proofs.Telling.{drop_next, step_with, take_next, with_push}
use Rattle.entry_steps.proofs.steps.make_beside.Goals as goal

pub joined_of-requires : goal.joined_of-requires
joined_of-requires c =
    let state = c.loop-events.joins in
    let next = drop_next c.args.found.now c.loop-events.events-index c.events-item.result
    c.loop-events-test.true c.events-item.is in
    let may = subst (λ (all : List (Vec Event Global)). MayTakeEach state (lists_in all)) next
    c.loop-events.invariant.2 in
    subst (MayTake state) (sym c.deref-in-loop-events.ensures.value) may.0

pub loop-events-preserved : goal.loop-events-preserved
loop-events-preserved c =
    let engine = c.args.engine.now in
    let marks = c.args.marks.now in
    let found = c.args.found.now in
    let was = c.loop-events.invariant in
    let i = c.loop-events.events-index in
    let own = c.events-item.result in
    let below = c.loop-events-test.true in
    let items = λ (each : Vec Event Global). each.items in
    let lists = lists_in (take i found) in
    let beside = c.loop-events.beside.items in
    let pushed = c.in_ok-push.ensures.items in
    let made : PathsAndJoins =
    record { shown = c.in_ok-shown.shown; joined = c.in_ok-joined.joined } in
    let lines = c.in_ok-joined.joined.items in
    let state = c.joined_of.new.joins in
    let step = step_with own.items made in
    let before = steps_with lists beside in
    let many : length lists ≡ i =
    length-map (take i found) items ∙ length-take-le i found (omega (arith, below)) in
    let next : lists_in (take (i + 1) found) ≡ lists ++ own.items ∷ [] =
    ap lists_in (take_next found i own below c.events-item.is) ∙ map_push items (take i found) own
    in
    let same = ap₂ steps_with next pushed
    ∙ with_push lists beside own.items made (was.0 ∙ sym many) in
    let Shown = λ (each : StepValue). AreShownBy engine marks each.events each.shown in
    let may = subst (λ (all : List (Vec Event Global)).
    MayTakeEach c.loop-events.joins (lists_in all)) (drop_next found i own below c.events-item.is)
    was.2 in
    let takes : Takes c.loop-events.joins own.items state lines =
    subst (λ (events : List Event). Takes c.loop-events.joins events state lines)
    c.deref-in-loop-events.ensures.value c.in_ok-joined.ensures in
    let more = takes_push lists (lines_of before) c.args.joins.now c.loop-events.joins state
    own.items lines was.3 takes in (
      omega (arith, ap length pushed, length_push beside made, was.0),
      All-same Shown _ _ same
          (All-push Shown before step was.1
          (subst (λ (events : List Event). AreShownBy engine marks events made.shown.items)
          c.deref.ensures.value c.in_ok-shown.ensures)),
      may.1 state lines takes,
      subst (λ (all : List (List Event)). TakesEach c.args.joins.now all state
          (lines_of (steps_with (lists_in (take (i + 1) found)) c.push.new.self.items)))
          (sym next)
          (subst (TakesEach c.args.joins.now (lists ++ own.items ∷ []) state)
          (sym (ap lines_of same ∙ map_push (λ (each : StepValue). each.joined) before step)) more),
    )
