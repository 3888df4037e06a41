use Rattle.std.proofs.Common.{◌≡◌, inr, Some, sym, ◌∙◌, arith, rules}
use Rattle.delta_tree.specs.Nodes.{node_of}
use Rattle.delta_tree.specs.Changes.{put_node}
use Rattle.delta_tree.proofs.Ids.{changed_there}
use Rattle.library_tests.proofs.tree.put_both.Goals as goal

-- the first of both is there
pub put-requires-2-clause-hangs : goal.put-requires-2-clause-hangs
put-requires-2-clause-hangs c =
    let to : c.step.result.to ≡ c.step-2.result.from =
    c.step.ensures.to ∙ c.node.ensures ∙ sym c.node-2.ensures ∙ sym c.step-2.ensures.from in
    record {
      from = inr (
        put_node c.args.tree.now c.step.result c.args.value,
        c.in_ok-put.ensures.node c.step-2.result.from
            ∙ changed_there (node_of c.args.tree.now c.step-2.result.from) c.step.result.to
            c.step-2.result.from
            (Some (put_node c.args.tree.now c.step.result c.args.value)) to,
        omega arith,
      );
      state = search rules;
      joins = search rules;
    }
