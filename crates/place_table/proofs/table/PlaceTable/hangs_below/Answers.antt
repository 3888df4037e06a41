use Rattle.std.proofs.Common.{sym, ap, ◌∙◌}
use Rattle.delta_tree.specs.Nodes.{same_node}
use Rattle.delta_tree.proofs.Ids.{same_edge_is, same_node_is, same_node_laws}
use Rattle.place_table.specs.Table.{tree_in}
use Rattle.place_table.proofs.Linked.{below_link, link_below}
use Rattle.place_table.proofs.table.PlaceTable.hangs_below.Goals as goal

pub returns-then-eq : goal.returns-then-eq
returns-then-eq c =
    let tree = tree_in c.args.self.now c.args.root in (
      (λ same. below_link tree c.args.id c.in-Some.link c.in-Some.ensures c.args.parent c.args.edge
          (same_node_is c.in-Some.link.parent c.args.parent (sym c.eq-then-eq.ensures ∙ same))
          (same_edge_is c.in-Some.link.edge c.args.edge (sym c.eq.ensures ∙ c.if-eq.true))),
      (λ hangs. c.eq-then-eq.ensures
          ∙ ap (λ id. same_node id c.args.parent) (link_below tree c.args.id
          c.in-Some.link c.in-Some.ensures c.args.parent c.args.edge hangs).0
          ∙ same_node_laws.refl c.args.parent),
    )
