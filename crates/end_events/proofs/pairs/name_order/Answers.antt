use Rattle.std.proofs.Common.{◌≡◌, sym, ap, ◌∙◌, arith}
use Rattle.std.specs.Ordering.{ordering_then}
use Rattle.std.proofs.lemmas.Cmp.{nat_list_cmp_total, tied_itself}
use Rattle.rpq_base.specs.Order.{name_cmp}
use Rattle.name_table.specs.Names.{name_at}
use Rattle.end_events.proofs.pairs.name_order.Goals as goal

pub returns-in-Equal : goal.returns-in-Equal
returns-in-Equal c =
    let names = c.args.names.now in
    let name = name_at names c.args.first in
    let rest = name_cmp name (name_at names c.args.second) in
    let same : c.args.second ≡ c.args.first = omega (arith, c.if-first-second.true) in
    sym (ap (λ keys. ordering_then keys rest) (sym c.cmp.ensures ∙ c.in-Equal.is)
    ∙ ap (λ number. name_cmp name (name_at names number)) same
    ∙ tied_itself nat_list_cmp_total name)
