use Rattle.std.proofs.Common.{◌≡◌, [], sym, subst}
use Rattle.name_table.specs.Names.{name_at}
use Rattle.name_table.proofs.Keys.{no_key}
use Rattle.name_table.proofs.Numbers.{no_name}
use Rattle.name_table.proofs.names.Names.key_of.Goals as goal

pub returns-in-None-clause-key : goal.returns-in-None-clause-key
returns-in-None-clause-key c =
    no_key (name_at c.args.self.now c.args.number)
    (subst (λ names. [] ≡ name_at names c.args.number) c.self.view_is
    (no_name c.self.inside.names.entries c.args.number (sym c.in-None.ensures.entry)))
