use Rattle.std.proofs.Common.{ap, ◌∙◌}
use Rattle.delta_tree.specs.Nodes.{node_id}
use Rattle.place_table.specs.Table.{value_at}
use Rattle.place_table.proofs.shown.PlaceTablePathTree.value_of.Goals as goal

pub returns : goal.returns
returns c =
    c.value_at.ensures
    ∙ ap (λ root. value_at c.args.self.now root (node_id c.args.v c.args.s)) c.shown.ensures
