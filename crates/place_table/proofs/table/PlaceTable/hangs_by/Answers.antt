use Rattle.std.proofs.Common.{◌↔◌, IsTrue, subst, sym}
use Rattle.delta_tree.specs.Paths.{HangsBy}
use Rattle.place_table.specs.Table.{TableValue, tree_in}
use Rattle.place_table.proofs.Puts.{hangs_found, hangs_nowhere}
use Rattle.place_table.proofs.table.PlaceTable.hangs_by.Goals as goal

pub returns-in-Some : goal.returns-in-Some
returns-in-Some c =
    subst (λ (table : TableValue). IsTrue c.eq.result
    ↔ HangsBy (tree_in table c.args.root) c.args.edge c.args.id) c.self.view_is
    (hangs_found c.self.inside.puts c.self.inside.places c.args.root c.args.id c.in-Some.kept
    c.args.edge c.edge_of.result c.eq.result c.in-Some.ensures c.edge_of.ensures c.eq.ensures)

pub returns-in-None : goal.returns-in-None
returns-in-None c = (
  (λ same. absurd cc),
  (λ hangs. absurd (hangs_nowhere c.self.inside.puts c.self.inside.places c.args.root c.args.id
      c.args.edge c.in-None.ensures
      (subst (λ (table : TableValue). HangsBy (tree_in table c.args.root) c.args.edge c.args.id)
      (sym c.self.view_is) hangs))),
)
