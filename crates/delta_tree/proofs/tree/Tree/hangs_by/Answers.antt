use Rattle.std.proofs.Common.{◌≡◌, Some, option_map, sym, ap, ◌∙◌}
use Rattle.edge_store.specs.Edges.{same_edge}
use Rattle.delta_tree.specs.Nodes.{TreeValue, node_id, node_of}
use Rattle.delta_tree.specs.Spots.{link_of}
use Rattle.delta_tree.proofs.Ids.{none_or_some, same_edge_is, same_edge_itself}
use Rattle.delta_tree.proofs.Links.{by_link, link_by, not_linked}
use Rattle.delta_tree.proofs.tree.Tree.hangs_by.Goals as goal

pub returns-in-Some : goal.returns-in-Some
returns-in-Some c = (
  (λ same. by_link c.args.self.now (node_id c.args.v c.args.s) c.in-Some.link stood c.args.edge
      (same_edge_is c.in-Some.link.edge c.args.edge (sym c.eq.ensures ∙ same))),
  (λ hangs. c.eq.ensures
      ∙ ap (λ edge. same_edge edge c.args.edge) (link_by c.args.self.now
      (node_id c.args.v c.args.s) c.in-Some.link stood c.args.edge hangs)
      ∙ same_edge_itself c.args.edge),
)
  where
    stood : option_map link_of (node_of c.args.self.now (node_id c.args.v c.args.s))
        ≡ Some c.in-Some.link
    stood =
        sym (ap (λ (tree : TreeValue). option_map link_of (node_of tree
        (node_id c.args.v c.args.s))) c.self.view_is)
        ∙ sym c.get.ensures ∙ c.in-Some.is

pub returns-in-None : goal.returns-in-None
returns-in-None c = (
  (λ same. absurd cc),
  (λ (node, is, by_edge). absurd (none_or_some node
      (sym (not_linked (node_of c.args.self.now (node_id c.args.v c.args.s))
      (sym (ap (λ (tree : TreeValue). option_map link_of (node_of tree
      (node_id c.args.v c.args.s))) c.self.view_is)
      ∙ sym c.get.ensures ∙ c.in-None.is)) ∙ is))),
)
