use Rattle.std.proofs.Common.{◌≡◌, ℕ, ◌<◌, ◌++◌, List, length, sym, ap, subst, ◌∙◌, arith}
use Rattle.std.proofs.lemmas.List.Elements.{All-nil}
use Rattle.dfa_table.specs.DfaValue.{step_of}
use Rattle.delta_tree.specs.declared.node.NodeId.{NodeId}
use Rattle.delta_tree.specs.Nodes.{node_id}
use Rattle.tree_delete.specs.Below.{AreWithin, child_of, children, nodes_in, starts}
use Rattle.tree_delete.proofs.Finding.{children_more, starts_more}
use Rattle.tree_delete.proofs.below.hanging.Goals as goal

pub loop-state-init : goal.loop-state-init
loop-state-init g c = record {
  found = c.new-ids.ensures.items;
  within = subst (AreWithin c.args.dfa.now) (sym c.new-ids.ensures.items)
      (All-nil (λ (id : NodeId). id.state < length c.args.dfa.now.rows));
}

pub loop-state-preserved : goal.loop-state-preserved
loop-state-preserved g c =
    let step = step_of c.args.dfa.now in
    let tree = (g.T.PathTree.tree c.args.tree.now) in
    let edge = c.args.edge in
    let state = c.loop-state.state in
    record {
      found = c.in_ok-add_child.ensures.added
          ∙ ap (λ (list : List NodeId). list
          ++ nodes_in (child_of step tree (node_id edge.from state) edge))
          c.loop-state.invariant.found
          ∙ sym (children_more step tree (starts edge state) (node_id edge.from state) edge)
          ∙ ap (children step tree) (sym (starts_more edge state));
      within = c.in_ok-add_child.ensures.within c.loop-state.invariant.within;
    }

pub returns-clause-found : goal.returns-clause-found
returns-clause-found g c =
    let all : c.loop-state.state ≡ length c.args.dfa.now.rows =
    omega (arith, c.loop-state-test.false, c.states-state-end.ensures.number) in
    c.loop-state.invariant.found
    ∙ ap (λ (count : ℕ). children (step_of c.args.dfa.now) (g.T.PathTree.tree c.args.tree.now)
    (starts c.args.edge count)) all
