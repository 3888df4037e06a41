use Rattle.std.proofs.Common.{rules}
use Rattle.std.specs.Ordering.{is_lt}
use Rattle.std.proofs.lemmas.Fn.{always_returns_same}
use Rattle.std.proofs.lemmas.List.Filters.{dedup_is}
use Rattle.std.proofs.lemmas.List.Sorted.{ranks_by}
use Rattle.rpq_base.proofs.InOrder.{HasInOrder, sorted_once}
use Rattle.join_bindings.specs.declared.event.JoinEvent.{JoinEvent}
use Rattle.join_bindings.specs.Events.{join_event_cmp}
use Rattle.join_bindings.proofs.Ordering.{derived_event, join_event_cmp_total, join_event_cmp_exact}
use Rattle.join_bindings.proofs.Ordering.{same_events}
use Rattle.join_bindings.proofs.event.put_in_order.Goals as goal

-- in order, each once
in_order : (c : goal.After-dedup) → HasInOrder join_event_cmp c.args.events.now.items c.dedup.new.self.items
in_order c =
    let sorted = c.sort_unstable_by.new.self.items in
    sorted_once derived_event same_events join_event_cmp_total join_event_cmp_exact
    c.args.events.now.items sorted c.dedup.new.self.items c.sort_unstable_by.ensures.permutation
    (c.sort_unstable_by.ensures.sorted (λ first second. is_lt (join_event_cmp first second))
    (ranks_by join_event_cmp_total (λ (each : JoinEvent). each)) (always_returns_same _ _ _ (λ a r f' k. search rules)))
    (dedup_is derived_event sorted c.dedup.new.self.items c.dedup.ensures.filtered)

pub returns-clause-sorted : goal.returns-clause-sorted
returns-clause-sorted c = (in_order c).sorted

pub returns-clause-same : goal.returns-clause-same
returns-clause-same c = (in_order c).same
