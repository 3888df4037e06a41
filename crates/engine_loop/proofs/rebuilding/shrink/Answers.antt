use Rattle.std.proofs.Common.{List, ◌++◌, Ok, refl, sym, ap, subst}
use Rattle.entry_steps.specs.Evaluator.{StandsAfter, StandsInFor}
use Rattle.rpq_base.proofs.Outcomes.{on_err}
use Rattle.rpq_base.specs.declared.data.Entry.{Entry}
use Rattle.engine_loop.proofs.Rebuilt.{answered_then, front_gone, on_ok_then}
use Rattle.engine_loop.proofs.rebuilding.shrink.Goals as goal

pub rebuild-requires-clause-feeds : goal.rebuild-requires-clause-feeds
rebuild-requires-clause-feeds g c κs within =
    let old = c.args.evaluator.now in (
      old,
      c.shrink.ensures.feeds old (record {
        setup = record { queries = refl; options = refl; workers = refl };
        place = refl;
      }),
    )

pub rebuild-requires-clause-stands_in : goal.rebuild-requires-clause-stands_in
rebuild-requires-clause-stands_in g c κs within =
    let history = g.S.EntrySource.given c.args.source.now in
    let mid = c.shrink.new.self in
    let old = c.args.evaluator.now in
    let none = c.in_ok-shrink.ensures.rebuild (ap (λ own. Ok own) c.in-Rebuild.is) in
    let alike = c.in_ok-shrink.ensures.kept history c.requires.answered.stands_in in (
      history,
      subst (λ (all : List Entry). StandsInFor old all history)
          (front_gone (g.S.EntrySource.kept mid) (g.S.EntrySource.front mid) none) alike,
      c.requires.answered.stands.fed.counted,
    )

pub returns-in-GoOn-clause-answered : goal.returns-in-GoOn-clause-answered
returns-in-GoOn-clause-answered g c =
    let history = g.S.EntrySource.given c.args.source.now in
    let new = c.shrink.new.self in
    let old = c.args.evaluator.now in
    let same = c.shrink.ensures.given in
    record {
      is_fed = c.shrink.ensures.feeds old (record {
        setup = record { queries = refl; options = refl; workers = refl };
        place = refl;
      });
      stands = subst (StandsAfter old) (sym same) c.requires.answered.stands;
      stands_in = subst (StandsInFor old (g.S.EntrySource.kept new ++ g.S.EntrySource.front new))
          (sym same) (c.in_ok-shrink.ensures.kept history c.requires.answered.stands_in);
    }

pub returns-in-Rebuild-clause-answered : goal.returns-in-Rebuild-clause-answered
returns-in-Rebuild-clause-answered g c =
    let history = g.S.EntrySource.given c.args.source.now in
    let mid = c.shrink.new.self in
    let old = c.args.evaluator.now in
    let none = c.in_ok-shrink.ensures.rebuild (ap (λ own. Ok own) c.in-Rebuild.is) in
    let alike = c.in_ok-shrink.ensures.kept history c.requires.answered.stands_in in
    on_ok_then c.rebuild.result
    (λ fed. answered_then g.S.EntrySource.home g.S.EntrySource.given g.S.EntrySource.kept
    g.S.EntrySource.front g.S.EntrySource.feeds mid c.rebuild.new.source old
    c.rebuild.new.evaluator history c.rebuild.ensures.stays c.rebuild.ensures.keeps
    c.shrink.ensures.given c.shrink.ensures.feeds c.requires.answered.stands
    c.entries_stand_in.ensures alike
    (fed history (subst (λ (all : List Entry). StandsInFor old all history)
    (front_gone (g.S.EntrySource.kept mid) (g.S.EntrySource.front mid) none) alike)
    c.requires.answered.stands.fed.counted)) c.rebuild.ensures.fed

pub returns-in_err-shrink-clause-feeds : goal.returns-in_err-shrink-clause-feeds
returns-in_err-shrink-clause-feeds g c =
    let old = c.args.evaluator.now in
    on_err c.from_residual.result (
      old,
      c.shrink.ensures.feeds old (record {
        setup = record { queries = refl; options = refl; workers = refl };
        place = refl;
      }),
    )

pub returns-in-Rebuild-clause-feeds : goal.returns-in-Rebuild-clause-feeds
returns-in-Rebuild-clause-feeds g c =
    let old = c.args.evaluator.now in
    on_err c.rebuild.result (
      old,
      c.rebuild.ensures.stays.still_feeds old (c.shrink.ensures.feeds old (record {
        setup = record { queries = refl; options = refl; workers = refl };
        place = refl;
      })),
    )
