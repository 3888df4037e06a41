use Rattle.std.proofs.Common.{ap, ◌∙◌}
use Rattle.delta_tree.specs.Losses.{loss}
use Rattle.place_table.specs.Table.{value_at}
use Rattle.place_table.proofs.shown.loss_of.Goals as goal

pub returns : goal.returns
returns c =
    ap (loss c.args.id) (c.value_at.ensures
    ∙ ap (λ root. value_at c.args.table.now root c.args.id) c.shown.ensures)
