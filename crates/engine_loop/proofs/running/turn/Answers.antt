use Rattle.std.proofs.Common.{◌≡◌, List, Ok, true, false, length, length-append, sym, ap, subst, ◌∙◌}
use Rattle.std.proofs.Common.{None, arith, rules}
use Rattle.rpq_base.specs.declared.data.Entry.{Entry}
use Rattle.engine_loop.specs.Loop.{TakesMore}
use Rattle.engine_loop.specs.Sources.{ComesNext}
use Rattle.engine_loop.proofs.Taking.{along_still, is_behind, takes_none, takes_none_of}
use Rattle.engine_loop.proofs.running.turn.Goals as goal

pub returns-in_default-clause-takes : goal.returns-in_default-clause-takes
returns-in_default-clause-takes g c =
    let more = c.in_default.ensures.err in
    takes_none_of g.K.StepSink.taken g.K.StepSink.takes c.goes_on.ensures
    c.every_entry_has_a_step.ensures c.args.evaluator.now c.requires.runs
    (g.S.EntrySource.given c.args.source.now) more.0
    (g.S.EntrySource.given c.next.new.self) more.1 c.args.sink.now

pub returns-then-not-more-clause-takes : goal.returns-then-not-more-clause-takes
returns-then-not-more-clause-takes g c =
    let before = g.S.EntrySource.given c.args.source.now in
    let sink = c.args.sink.now in
    let said : c.next.result ≡ Ok false = search rules in
    subst (λ (after : List Entry). TakesMore g.K.StepSink.takes c.args.evaluator.now before after
    None sink sink) (sym (c.next.ensures.over said).1)
    (takes_none g.K.StepSink.taken g.K.StepSink.takes c.goes_on.ensures c.args.evaluator.now
    before sink)

pub returns-clause-further : goal.returns-clause-further
returns-clause-further g c = λ _.
    let before = g.S.EntrySource.given c.args.source.now in
    let after = g.S.EntrySource.given c.next.new.self in
    let front = g.S.EntrySource.front c.next.new.self in
    let said : c.next.result ≡ Ok true = search rules in
    let comes : ComesNext c.args.evaluator.now before after front = c.next.ensures.more said in
    let same = ap (λ (h : List Entry). length h) (c.shrink.ensures.given
    ∙ c.answer_front.ensures.given) in (
      omega (arith, same, ap length comes.all, length-append before front, comes.some),
      omega (arith, same, comes.short),
    )

pub returns-then-not-more-clause-along : goal.returns-then-not-more-clause-along
returns-then-not-more-clause-along g c =
    let said : c.next.result ≡ Ok false = search rules in
    let over = c.next.ensures.over said in
    along_still g.S.EntrySource.given g.S.EntrySource.kept g.S.EntrySource.front
    g.S.EntrySource.feeds g.K.StepSink.taken c.args.source.now c.next.new.self
    c.args.evaluator.now c.args.sink.now c.requires c.next.ensures.feeds c.in-Ok.ensures.kept
    over.1 over.2

pub answer_front-requires-after_bounds : goal.answer_front-requires-after_bounds
answer_front-requires-after_bounds g c κs within =
    let said : c.next.result ≡ Ok true = search rules in
    is_behind g.S.EntrySource.given g.S.EntrySource.kept g.S.EntrySource.front
    g.S.EntrySource.feeds g.K.StepSink.taken c.args.source.now c.next.new.self
    c.args.evaluator.now c.args.sink.now c.requires c.in-Ok.ensures.kept (c.next.ensures.more said)
    c.next.ensures.feeds
