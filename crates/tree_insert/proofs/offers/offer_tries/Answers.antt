use Rattle.std.proofs.Common.{◌≡◌, ◌<◌, length, Some, arith, slice_get, slice_index_or}
use Rattle.std.proofs.lemmas.Option.{slice_get-get_or}
use Rattle.edge_store.specs.Edges.{value_of}
use Rattle.dfa_table.specs.DfaValue.{step_of}
use Rattle.delta_tree.specs.declared.node.Try.{Try}
use Rattle.tree_insert.specs.Trees.{IsValid}
use Rattle.tree_insert.specs.UnderWay.{IsOfTry, IsOpen}
use Rattle.tree_insert.proofs.UnderWay.{gains_kind, gains_twice}
use Rattle.tree_insert.proofs.OpenTries.{no_try, open_of_try, first_one_more, first_all}
use Rattle.tree_insert.proofs.offers.offer_tries.Goals as goal

pub loop-step-preserved : goal.loop-step-preserved
loop-step-preserved g c =
    let values = value_of c.args.store.now in
    let kind = IsOpen values c.args.dfa.now (g.T.PathTree.tree c.args.tree.now) in
    let item : Try = slice_index_or c.args.tries.now c.loop-step.step-index no_try in
    let within : c.loop-step.step-index < length c.args.tries.now = omega arith in
    let there : slice_get c.args.tries.now c.loop-step.step-index ≡ Some item =
    slice_get-get_or c.args.tries.now c.loop-step.step-index no_try within in
    let valid : IsValid values (step_of c.args.dfa.now) (g.T.PathTree.tree c.args.tree.now) item =
    c.requires.valid c.loop-step.step-index no_try within in
    let bounds =
    c.states-states.ensures.valid.targets item.from.state item.edge.label item.to.state
    valid.leads in
    record {
      gains = gains_twice c.args.search.now c.loop-step.search c.offer_try.new.search kind
          c.loop-step.invariant.gains
          (gains_kind c.loop-step.search c.offer_try.new.search
          (IsOfTry values (g.T.PathTree.tree c.args.tree.now) item) kind c.offer_try.ensures.gains
          (λ each is. open_of_try values c.args.dfa.now (g.T.PathTree.tree c.args.tree.now) item
          each valid bounds.0
          bounds.1 is));
      served = first_one_more values (g.T.PathTree.tree c.args.tree.now) c.loop-step.search.waiting
          c.offer_try.new.search.waiting c.args.tries.now c.loop-step.step-index item
          c.loop-step.invariant.served c.offer_try.ensures.gains.kept there
          (c.in_ok-offer_try.ensures.served valid.joins);
    }

pub returns-clause-served : goal.returns-clause-served
returns-clause-served g c step number has gives =
    first_all (value_of c.args.store.now) (g.T.PathTree.tree c.args.tree.now)
    c.loop-step.search.waiting
    c.args.tries.now c.loop-step.step-index (omega arith)
    c.loop-step.invariant.served step number has gives
