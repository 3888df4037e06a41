use Rattle.std.proofs.Common.{sym, ap, ◌∙◌, arith}
use Rattle.std.proofs.lemmas.Cmp.{nat_list_cmp_total, tied_itself}
use Rattle.rpq_base.specs.Order.{name_cmp}
use Rattle.name_table.specs.Names.{name_at}
use Rattle.name_table.proofs.Keys.{key_decides}
use Rattle.name_table.proofs.names.Names.compare_bytes.Goals as goal

pub returns-then-key-other : goal.returns-then-key-other
returns-then-key-other c =
    c.cmp.ensures
    ∙ key_decides (name_at c.args.self.now c.args.first) (name_at c.args.self.now c.args.second) c.key_of-key.result c.key_of-other.result
    c.key_of-key.ensures.bytes c.key_of-other.ensures.bytes c.key_of-key.ensures.key c.key_of-other.ensures.key
    (λ same. absurd (omega (arith, c.if-key-other.true, same)))

pub returns-then-first-second : goal.returns-then-first-second
returns-then-first-second c =
    let name = name_at c.args.self.now c.args.first in
    sym (ap (λ number. name_cmp name (name_at c.args.self.now number)) (sym (omega (arith, c.if-first-second.true)))
    ∙ tied_itself nat_list_cmp_total name)
