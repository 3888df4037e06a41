use Rattle.std.proofs.Common.{List, length, length-append, ap, subst, ◌∙◌, arith}
use Rattle.std.proofs.lemmas.Result.{IfOk-weaker}
use Rattle.engine_feed.specs.declared.event_lists.EventLists.{EventLists}
use Rattle.entry_steps.specs.Evaluator.{IsFedOver, Finds}
use Rattle.rpq_base.specs.declared.data.Entry.{Entry}
use Rattle.engine_loop.specs.Loop.{answered}
use Rattle.engine_loop.proofs.finding.feed_with_rebuild.Goals as goal

pub rebuild-requires-clause-stands_in : goal.rebuild-requires-clause-stands_in
rebuild-requires-clause-stands_in g c κs within =
    let before = answered c.args.evaluator.now (g.S.EntrySource.given c.args.source.now) in (
      before,
      c.entries_stand_in.ensures.by_setup c.args.evaluator.now c.find_events.new.self
          (g.S.EntrySource.kept c.args.source.now) before c.find_events.ensures.keeps.setup
          c.requires.stands_in,
      c.in-Err.ensures.position ∙ c.requires.fed.counted,
    )

pub find_events-requires-2-clause-fed : goal.find_events-requires-2-clause-fed
find_events-requires-2-clause-fed g c κs within =
    let before = answered c.args.evaluator.now (g.S.EntrySource.given c.args.source.now) in (
      before,
      c.in_ok-rebuild.ensures.fed before
          (c.entries_stand_in.ensures.by_setup c.args.evaluator.now c.find_events.new.self
          (g.S.EntrySource.kept c.args.source.now) before c.find_events.ensures.keeps.setup
          c.requires.stands_in) (c.in-Err.ensures.position ∙ c.requires.fed.counted),
    )

pub find_events-requires-2-clause-short : goal.find_events-requires-2-clause-short
find_events-requires-2-clause-short g c κs within =
    let before = answered c.args.evaluator.now (g.S.EntrySource.given c.args.source.now) in
    let fed = c.in_ok-rebuild.ensures.fed before
    (c.entries_stand_in.ensures.by_setup c.args.evaluator.now c.find_events.new.self
    (g.S.EntrySource.kept c.args.source.now) before c.find_events.ensures.keeps.setup
    c.requires.stands_in) (c.in-Err.ensures.position ∙ c.requires.fed.counted) in
    omega (
      arith,
      fed.counted,
      ap (λ (h : List Entry). length h) (c.front-2.ensures ∙ c.rebuild.ensures.stays.has.same_front),
      ap (λ (h : List Entry). length h) c.requires.comes.all,
      length-append before (g.S.EntrySource.front c.args.source.now),
      c.requires.comes.short,
    )

pub returns-clause-finds : goal.returns-clause-finds
returns-clause-finds g c =
    let before = answered c.args.evaluator.now (g.S.EntrySource.given c.args.source.now) in
    let mid = c.rebuild.new.evaluator in
    let new = c.find_events-2.new.self in
    let fed = c.in_ok-rebuild.ensures.fed before
    (c.entries_stand_in.ensures.by_setup c.args.evaluator.now c.find_events.new.self
    (g.S.EntrySource.kept c.args.source.now) before c.find_events.ensures.keeps.setup
    c.requires.stands_in) (c.in-Err.ensures.position ∙ c.requires.fed.counted) in
    IfOk-weaker c.find_events-2.result
    (λ (found : EventLists). (history : List Entry) → IsFedOver mid history →
    Finds history new c.front-2.result.now found)
    (λ (found : EventLists). Finds before new (g.S.EntrySource.front c.args.source.now) found)
    (λ found finds. subst (λ (front : List Entry). Finds before new front found)
    (c.front-2.ensures ∙ c.rebuild.ensures.stays.has.same_front) (finds before fed))
    c.find_events-2.ensures.finds
