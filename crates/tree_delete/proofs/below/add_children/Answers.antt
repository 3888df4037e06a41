use Rattle.std.proofs.Common.{◌≡◌, ℕ, ◌≤◌, ◌++◌, List, length, map, take, slice_get, Some, append_assoc, sym, ap, ◌∙◌, arith}
use Rattle.std.proofs.lemmas.List.{append-nil, take_all}
use Rattle.edge_store.specs.declared.edge.EdgeId.{EdgeId}
use Rattle.edge_store.specs.declared.edge.HalfEdge.{HalfEdge}
use Rattle.edge_store.specs.Edges.{out_entry, outs_of}
use Rattle.dfa_table.specs.DfaValue.{step_of}
use Rattle.delta_tree.specs.declared.node.NodeId.{NodeId}
use Rattle.tree_delete.specs.Below.{child_of, children, nodes_in, onward}
use Rattle.tree_delete.proofs.Finding.{children_more, onwards_more}
use Rattle.tree_delete.proofs.below.add_children.Goals as goal

pub loop-k-init : goal.loop-k-init
loop-k-init g c = record {
  added = sym (append-nil c.args.ids.now.items);
  within = λ was. was;
  counted = omega arith;
}

pub loop-k-preserved : goal.loop-k-preserved
loop-k-preserved g c =
    let step = step_of c.args.dfa.now in
    let tree = (g.T.PathTree.tree c.args.tree.now) in
    let from = c.args.from in
    let row = outs_of c.args.store.now from.vertex in
    let each = c.at-each.result in
    let there : slice_get row c.loop-k.k ≡ Some (out_entry each) =
    sym (ap (λ outs. slice_get outs c.loop-k.k) c.outs-outs.ensures.edges)
    ∙ c.at-each.ensures.there in
    let edge : EdgeId = record { from = from.vertex; label = each.label; to = each.to } in
    let looks = map (onward from) (take c.loop-k.k row) in
    let one = nodes_in (child_of step tree from edge) in
    record {
      added = c.in_ok-add_child.ensures.added
          ∙ ap (λ (list : List NodeId). list ++ one) c.loop-k.invariant.added
          ∙ append_assoc c.args.ids.now.items (children step tree looks) one
          ∙ ap (λ (rest : List NodeId). c.args.ids.now.items ++ rest)
          (sym (children_more step tree looks from edge)
          ∙ ap (children step tree)
          (sym (onwards_more from row c.loop-k.k (out_entry each) there)));
      within = λ was. c.in_ok-add_child.ensures.within (c.loop-k.invariant.within was);
      counted = omega (arith, c.at-each.ensures.counted, c.loop-k.invariant.counted);
    }

pub returns-clause-added : goal.returns-clause-added
returns-clause-added g c =
    let row = outs_of c.args.store.now c.args.from.vertex in
    let past : length row ≤ c.loop-k.k = omega (
      arith,
      c.loop-k-test.false,
      c.len-k-end.ensures,
      ap length c.outs-outs.ensures.edges,
    ) in
    c.loop-k.invariant.added
    ∙ ap (λ (walk : List (HalfEdge × ℕ)). c.args.ids.now.items
    ++ children (step_of c.args.dfa.now) (g.T.PathTree.tree c.args.tree.now)
    (map (onward c.args.from) walk))
    (take_all c.loop-k.k row past)

pub returns-clause-counted : goal.returns-clause-counted
returns-clause-counted g c = omega (
  arith,
  c.loop-k.invariant.counted,
  c.loop-k-test.false,
  c.len-k-end.ensures,
  ap length c.outs-outs.ensures.edges,
)
