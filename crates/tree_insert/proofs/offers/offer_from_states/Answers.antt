use Rattle.std.proofs.Common.{◌≡◌, ◌<◌, ℕ, length, Some, arith, slice_get, slice_index_or}
use Rattle.std.proofs.lemmas.Option.{slice_get-get_or}
use Rattle.tree_insert.specs.UnderWay.{IsBy}
use Rattle.tree_insert.proofs.UnderWay.{gains_twice}
use Rattle.tree_insert.proofs.OpenTries.{state_one_more, state_all}
use Rattle.tree_insert.proofs.offers.offer_from_states.Goals as goal

pub loop-before-preserved : goal.loop-before-preserved
loop-before-preserved g c =
    let item : ℕ = slice_index_or c.args.states.now c.loop-before.before-index 0 in
    let within : c.loop-before.before-index < length c.args.states.now = omega arith in
    let there : slice_get c.args.states.now c.loop-before.before-index ≡ Some item =
    slice_get-get_or c.args.states.now c.loop-before.before-index 0 within in
    record {
      gains = gains_twice c.args.search.now c.loop-before.search c.offer_step.new.search
          (IsBy c.args.dfa.now (g.T.PathTree.tree c.args.tree.now) c.args.edge c.args.value)
          c.loop-before.invariant.gains c.offer_step.ensures.gains;
      served = state_one_more c.args.dfa.now (g.T.PathTree.tree c.args.tree.now)
          c.loop-before.search.waiting
          c.offer_step.new.search.waiting c.args.edge c.args.value c.args.states.now
          c.loop-before.before-index item c.loop-before.invariant.served
          c.offer_step.ensures.gains.kept there c.in_ok-offer_step.ensures.served;
    }

pub returns-clause-served : goal.returns-clause-served
returns-clause-served g c =
    state_all c.args.dfa.now (g.T.PathTree.tree c.args.tree.now) c.loop-before.search.waiting
    c.args.edge c.args.value
    c.args.states.now c.loop-before.before-index (omega arith) c.loop-before.invariant.served
