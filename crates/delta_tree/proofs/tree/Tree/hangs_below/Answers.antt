use Rattle.std.proofs.Common.{◌≡◌, Some, option_map, sym, ap, ◌∙◌}
use Rattle.delta_tree.specs.Nodes.{TreeValue, node_of, same_node}
use Rattle.delta_tree.specs.Spots.{link_of}
use Rattle.delta_tree.proofs.Ids.{same_edge_is, same_node_is, same_node_laws}
use Rattle.delta_tree.proofs.Links.{below_link, link_below}
use Rattle.delta_tree.proofs.tree.Tree.hangs_below.Goals as goal

pub returns-then-eq : goal.returns-then-eq
returns-then-eq c = (
  (λ same. below_link c.args.self.now c.args.id c.in-Some.link stood c.args.parent c.args.edge
      (same_node_is c.in-Some.link.parent c.args.parent (sym c.eq-then-eq.ensures ∙ same))
      (same_edge_is c.in-Some.link.edge c.args.edge (sym c.eq.ensures ∙ c.if-eq.true))),
  (λ hangs. c.eq-then-eq.ensures
      ∙ ap (λ id. same_node id c.args.parent) (link_below c.args.self.now c.args.id
      c.in-Some.link stood c.args.parent c.args.edge hangs).0
      ∙ same_node_laws.refl c.args.parent),
)
  where
    stood : option_map link_of (node_of c.args.self.now c.args.id) ≡ Some c.in-Some.link
    stood =
        sym (ap (λ (tree : TreeValue). option_map link_of (node_of tree c.args.id))
        c.self.view_is) ∙ sym c.get.ensures ∙ c.in-Some.is
