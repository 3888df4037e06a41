use Rattle.name_table.specs.Names.{name_at}
use Rattle.name_table.proofs.Keys.{beginning_is}
use Rattle.name_table.proofs.names.Names.beginning_of.Goals as goal

pub returns-clause-beginning : goal.returns-clause-beginning
returns-clause-beginning c =
    beginning_is (name_at c.args.self.now c.args.number) c.key_of.result c.key_of.ensures.bytes c.key_of.ensures.key
