use Rattle.std.proofs.Common.{sym, ap, ◌∙◌}
use Rattle.std.specs.Ordering.{ordering_then}
use Rattle.end_events.specs.Order.{keyed_cmp}
use Rattle.end_events.proofs.Order.{by_first}
use Rattle.end_events.proofs.pairs.pair_order.Goals as goal

pub returns-in_default : goal.returns-in_default
returns-in_default c =
    let first = c.args.first.now in
    let second = c.args.second.now in
    let vertices = keyed_cmp c.args.names.now first.vertex first.vertex_key second.vertex second.vertex_key in
    sym (by_first c.name_order-roots.result vertices c.in_default.not-Equal)
    ∙ ap (λ roots. ordering_then roots vertices) c.name_order-roots.ensures
