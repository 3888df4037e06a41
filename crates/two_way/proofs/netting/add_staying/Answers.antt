use Rattle.std.proofs.Common.{◌≡◌, ◌+◌, [], ◌∷◌, ◌++◌, List, Vec, Global, take, sym, ap, subst, ◌∙◌}
use Rattle.std.proofs.lemmas.Bool.{false≢true}
use Rattle.std.proofs.lemmas.List.{take_all}
use Rattle.rpq_base.specs.declared.data.Event.{Event}
use Rattle.rpq_base.proofs.Members.{next_one}
use Rattle.two_way.proofs.Staying.{HasStaying, none_stays, stays_more, goes_more}
use Rattle.two_way.proofs.netting.add_staying.Goals as goal
use Rattle.two_way.proofs.netting.add_staying.Goals.{then-not-is_undone+in_ok-copy+in_ok-push, else-not-is_undone}

pub loop-event-init : goal.loop-event-init
loop-event-init c = none_stays c.args.events.now.items c.args.others.now

pub loop-event-preserved : goal.loop-event-preserved
loop-event-preserved c =
    let own = c.args.own.now in
    let others = c.args.others.now in
    let index = c.loop-event.event-index in
    let event = c.event-item.result in
    let old = c.args.events.now.items in
    let found = c.loop-event.events.items in
    let so_far = take index own in
    let further = take (index + 1) own in
    let more = next_one own index event c.loop-event-test.true c.event-item.is in
    elim c.if-not-is_undone.branch [
      | then-not-is_undone+in_ok-copy+in_ok-push w ↦
          let added : c.if-not-is_undone.events.items ≡ found ++ event ∷ [] =
          ap (λ (events : Vec Event Global). events.items) w.events-is
          ∙ (w.in_ok-push.ensures.items
          ∙ ap (λ (one : Event). found ++ one ∷ []) w.in_ok-copy.ensures) in
          subst (HasStaying old further others) (sym added)
          (stays_more old so_far further others found event more
          (λ undone. false≢true (sym w.if-not-is_undone.true ∙ c.is_undone.ensures.1 undone)) c.loop-event.invariant)
      | else-not-is_undone w ↦
          subst (HasStaying old further others) (sym (ap (λ (events : Vec Event Global). events.items) w.events-is))
          (goes_more old so_far further others found event more
          (c.is_undone.ensures.0 w.if-not-is_undone.false) c.loop-event.invariant)
    ]

pub returns : goal.returns
returns c =
    subst (λ (all : List Event). HasStaying c.args.events.now.items all c.args.others.now c.loop-event.events.items)
    (take_all c.loop-event.event-index c.args.own.now c.loop-event-test.false) c.loop-event.invariant
