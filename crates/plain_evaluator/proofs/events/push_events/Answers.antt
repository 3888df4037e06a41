use Rattle.std.proofs.Common.{◌≡◌, ◌+◌, List, ◌∷◌, [], ◌++◌, Vec, Global, sym}
use Rattle.std.proofs.Common.{ap, subst, ◌∙◌}
use Rattle.std.proofs.lemmas.List.{append-nil}
use Rattle.rpq_base.specs.declared.data.Event.{Event}
use Rattle.rpq_base.specs.declared.data.Pair.{Pair}
use Rattle.rpq_model.specs.Events.{event}
use Rattle.rpq_model.proofs.Pairs.{has}
use Rattle.rpq_model.proofs.Merging.{given_more}
use Rattle.plain_evaluator.proofs.SideBySide.{begins, IsSideBySide, side_by_side, begins_is_has}
use Rattle.rpq_model.proofs.Merging.{given_same}
use Rattle.plain_evaluator.proofs.events.push_events.Goals as goal
use Rattle.plain_evaluator.proofs.events.push_events.Goals.{then-not-begin_with+in_ok-copy+in_ok-push}
use Rattle.plain_evaluator.proofs.events.push_events.Goals.{else-not-begin_with}

pub loop-pair-init : goal.loop-pair-init
loop-pair-init c = record {
  side_by_side = record { sorted = c.requires.others; same = λ pair member. ((λ found. found), (λ found. found)) };
  events = sym (append-nil c.args.events.now.items);
}

pub loop-pair-preserved : goal.loop-pair-preserved
loop-pair-preserved c =
    let pairs = c.args.pairs.now in
    let others = c.args.others.now in
    let index = c.loop-pair.pair-index in
    let pair = c.pair-item.result in
    let below = c.loop-pair-test.true in
    let is = c.pair-item.is in
    let query = c.args.query in
    let added = c.args.added in
    let old = c.args.events.now.items in
    let found = c.loop-pair.events.items in
    let rest = c.loop-pair.rest.now in
    let side = subst (IsSideBySide pairs others (index + 1)) (sym c.not_before-rest.ensures)
    (side_by_side pairs others index rest pair c.requires.pairs below is c.loop-pair.invariant.side_by_side) in
    let test : has others pair ≡ c.begin_with.result =
    sym (begins_is_has pairs others index rest pair below is c.loop-pair.invariant.side_by_side)
    ∙ (ap (λ (left : List Pair). begins left pair) (sym c.not_before-rest.ensures) ∙ sym c.begin_with.ensures) in
    elim c.if-not-begin_with.branch [
      | then-not-begin_with+in_ok-copy+in_ok-push w ↦ record {
        side_by_side = side;
        events = ap (λ (events : Vec Event Global). events.items) w.events-is
            ∙ (w.in_ok-push.ensures.items
            ∙ (ap (λ (copy : Pair). found ++ event query added copy ∷ []) w.in_ok-copy.ensures
            ∙ given_more pairs others index pair query added old found below is (test ∙ w.if-not-begin_with.true) c.loop-pair.invariant.events));
      }
      | else-not-begin_with w ↦ record {
        side_by_side = side;
        events = ap (λ (events : Vec Event Global). events.items) w.events-is
            ∙ given_same pairs others index pair query added old found below is (test ∙ w.if-not-begin_with.false) c.loop-pair.invariant.events;
      }
    ]
