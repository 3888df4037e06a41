use Rattle.std.proofs.Common.{◌≤◌, ◌∙◌, length, arith}
use Rattle.engine_loop.proofs.Rebuilt.{fed_all}
use Rattle.engine_loop.proofs.rebuilding.rebuild.Goals as goal

pub stand_in-requires : goal.stand_in-requires
stand_in-requires g c =
    let kept = g.S.EntrySource.kept c.args.source.now in
    let given = c.requires.stands_in in
    let all : length kept ≤ c.loop-source.evaluator.position = omega (
      arith,
      c.loop-source-test.false,
      c.position.ensures,
      c.kept_count-kept.ensures,
    ) in (
      kept,
      given.0,
      fed_all kept c.loop-source.evaluator all c.loop-source.invariant.fed,
      c.entries_stand_in.ensures.by_setup c.args.evaluator.now c.loop-source.evaluator kept given.0
          c.loop-source.invariant.keeps.setup given.1,
      c.position-position.ensures ∙ given.2,
    )

pub returns-clause-fed : goal.returns-clause-fed
returns-clause-fed g c = λ history alike counts.
    let kept = g.S.EntrySource.kept c.args.source.now in
    let all : length kept ≤ c.loop-source.evaluator.position = omega (
      arith,
      c.loop-source-test.false,
      c.position.ensures,
      c.kept_count-kept.ensures,
    ) in
    c.stand_in.ensures.fed kept history
    (fed_all kept c.loop-source.evaluator all c.loop-source.invariant.fed)
    (c.entries_stand_in.ensures.by_setup c.args.evaluator.now c.loop-source.evaluator kept history
    c.loop-source.invariant.keeps.setup alike)
    (c.position-position.ensures ∙ counts)
