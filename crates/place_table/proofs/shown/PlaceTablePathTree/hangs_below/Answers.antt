use Rattle.std.proofs.Common.{◌↔◌, IsTrue, ℕ, subst}
use Rattle.delta_tree.specs.Paths.{HangsBelow}
use Rattle.place_table.specs.Table.{tree_in}
use Rattle.place_table.proofs.shown.PlaceTablePathTree.hangs_below.Goals as goal

pub returns : goal.returns
returns c =
    subst (λ (root : ℕ). IsTrue c.hangs_below.result
    ↔ HangsBelow (tree_in c.args.self.now root) c.args.parent c.args.edge c.args.id)
    c.shown.ensures c.hangs_below.ensures
