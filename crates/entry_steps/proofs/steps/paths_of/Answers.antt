use Rattle.std.proofs.Common.{List, Vec, Global, ◌+◌, take, sym, subst, ap, ◌∙◌}
use Rattle.std.proofs.lemmas.List.Elements.{Contains-get_or}
use Rattle.std.specs.Prelude.{Contains}
use Rattle.rpq_base.specs.declared.data.Event.{Event}
use Rattle.path_engine.specs.Engine.{definitions}
use Rattle.entry_steps.specs.Steps.{AreShown, additions}
use Rattle.entry_steps.proofs.Finding.{shown_more, nothing_more}
use Rattle.entry_steps.proofs.steps.paths_of.Goals as goal
use Rattle.entry_steps.proofs.steps.paths_of.Goals.{then-event+in_ok-path_of+in_ok-push, else-event}

pub path_of-requires : goal.path_of-requires
path_of-requires c =
    let event = c.event-item.result in
    let can = c.requires.1 in
    let there = subst (Contains c.args.events.now) (sym c.event-item.is)
    (Contains-get_or c.args.events.now c.loop-event.event-index event c.loop-event-test.true) in
    (c.requires.0, can.over, can.gained event there c.if-event.true)

pub loop-event-preserved : goal.loop-event-preserved
loop-event-preserved c = λ history can.
    let queries = definitions c.args.engine.now in
    let events = c.args.events.now in
    let i = c.loop-event.event-index in
    let event = c.event-item.result in
    let so_far = c.loop-event.invariant history can in
    let items = λ (shown : Vec _ Global). shown.items in
    elim c.if-event.branch [
      | then-event+in_ok-path_of+in_ok-push w ↦
          let there = subst (Contains events) (sym c.event-item.is)
          (Contains-get_or events i event c.loop-event-test.true) in
          let gained = can.gained event there w.if-event.true in
          let shows = w.in_ok-path_of.ensures history can.over gained in
          subst (AreShown queries history (additions (take (i + 1) events)))
          (sym (ap items w.shown-is ∙ w.in_ok-push.ensures.items))
          (shown_more queries history events i event c.loop-event.shown.items
          w.in_ok-path_of.field-0 c.loop-event-test.true c.event-item.is w.if-event.true shows
          so_far)
      | else-event w ↦
          subst (AreShown queries history (additions (take (i + 1) events)))
          (sym (ap items w.shown-is))
          (subst (λ (all : List Event).
          AreShown queries history all c.loop-event.shown.items)
          (sym (nothing_more events i event c.loop-event-test.true c.event-item.is
          w.if-event.false)) so_far)
    ]
