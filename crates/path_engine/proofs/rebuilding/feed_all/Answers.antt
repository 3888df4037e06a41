use Rattle.std.proofs.Common.{rules, ◌∙◌}
use Rattle.std.specs.Slice.Iter.{chunks_rest}
use Rattle.path_engine.proofs.Anew.{all_counted, all_fed, front_fits, more_fed, none_fed}
use Rattle.path_engine.proofs.rebuilding.feed_all.Goals as goal

pub loop-front-init : goal.loop-front-init
loop-front-init g c = (
  search rules,
  tt,
  search rules,
  none_fed c.args.entries.now c.args.engine.now _ c.requires.starts c.requires.position
      (search rules),
)

pub feed_next-requires-clause-short : goal.feed_next-requires-clause-short
feed_next-requires-clause-short g c = λ lifetimes within.
    front_fits c.args.engine.now.queries c.args.entries.now c.loop-front.engine
    (chunks_rest c.loop-front.front-iterator) c.in-Some.front.now (chunks_rest c.next.new.self)
    c.loop-front.invariant.3 c.in-Some.ensures.steps.1.0 c.requires.short

pub returns-in_err-feed_next-clause-queries : goal.returns-in_err-feed_next-clause-queries
returns-in_err-feed_next-clause-queries g c =
    c.feed_next.ensures.queries ∙ c.loop-front.invariant.3.queries_kept

pub loop-front-preserved : goal.loop-front-preserved
loop-front-preserved g c = (
  search rules,
  tt,
  c.in-Some.ensures.steps.0 ∙ c.loop-front.invariant.2,
  more_fed c.args.engine.now.queries c.args.entries.now c.loop-front.engine
      c.feed_next.new.engine (chunks_rest c.loop-front.front-iterator) c.in-Some.front.now
      (chunks_rest c.next.new.self) c.in_ok-feed_next.ensures.feeds.0 c.loop-front.invariant.3
      c.in-Some.ensures.steps.1.0 c.in_ok-feed_next.ensures.feeds.1 c.feed_next.ensures.queries,
)

pub returns-clause-stands : goal.returns-clause-stands
returns-clause-stands g c =
    all_fed c.args.engine.now.queries c.args.entries.now c.loop-front.engine
    (chunks_rest c.loop-front.front-iterator) c.loop-front.invariant.3
    c.in-None.ensures.steps.1.0

pub returns-clause-position : goal.returns-clause-position
returns-clause-position g c =
    all_counted c.args.engine.now.queries c.args.entries.now c.loop-front.engine
    (chunks_rest c.loop-front.front-iterator) c.loop-front.invariant.3
    c.in-None.ensures.steps.1.0

pub returns-clause-queries : goal.returns-clause-queries
returns-clause-queries g c = c.loop-front.invariant.3.queries_kept
