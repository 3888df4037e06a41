use Rattle.std.proofs.Common.{◌+◌, List, take, subst, ◌⊎◌}
use Rattle.std.specs.Prelude.{◌↔◌, Contains}
use Rattle.std.proofs.lemmas.List.{take_all}
use Rattle.rpq_base.specs.declared.data.Pair.{Pair}
use Rattle.rpq_model.specs.Relations.{IsComposed}
use Rattle.rpq_base.proofs.Members.{next_one}
use Rattle.rpq_model.proofs.Composing.{composed_more}
use Rattle.plain_evaluator.proofs.relation.add_composed.Goals as goal

pub loop-first-preserved : goal.loop-first-preserved
loop-first-preserved c =
    let firsts = c.args.firsts.now in
    let index = c.loop-first.first-index in
    let first = c.first-item.result in
    composed_more (take index firsts) first
    (take (index + 1) firsts) c.args.seconds.now c.args.found.now.keys c.loop-first.found.keys c.add_longer.new.found.keys
    (next_one firsts index first c.loop-first-test.true c.first-item.is) c.loop-first.invariant c.in_ok-add_longer.ensures

pub returns : goal.returns
returns c =
    let before = c.args.found.now.keys in
    let found = c.loop-first.found.keys in
    subst (λ (firsts : List Pair). (pair : Pair) → Contains found pair ↔ (Contains before pair ⊎ IsComposed firsts c.args.seconds.now pair))
    (take_all c.loop-first.first-index c.args.firsts.now c.loop-first-test.false) c.loop-first.invariant
