use Rattle.std.proofs.Common.{◌∙◌, sym}
use Rattle.join_bindings.proofs.Turning.{variable_known}
use Rattle.join_bindings.proofs.plan.is_known.Goals as goal

pub returns-else-mentions : goal.returns-else-mentions
returns-else-mentions c =
    variable_known c.args.first.now c.args.plan.now c.in-Variable.number c.args.term.now c.any_mentions.result
    c.in-Variable.is (sym c.mentions.ensures ∙ c.if-mentions.false) c.any_mentions.ensures
