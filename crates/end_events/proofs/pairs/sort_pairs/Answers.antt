use Rattle.std.proofs.Common.{rules}
use Rattle.std.specs.Ordering.{is_lt}
use Rattle.std.proofs.lemmas.Fn.{always_returns_same}
use Rattle.std.proofs.lemmas.List.Sorted.{ranks_by}
use Rattle.end_events.specs.declared.pairs.NumberedPair.{NumberedPair}
use Rattle.end_events.specs.Order.{numbered_cmp}
use Rattle.end_events.proofs.Order.{numbered_total}
use Rattle.end_events.proofs.pairs.sort_pairs.Goals as goal

pub returns-then-len-gt1-clause-sorted : goal.returns-then-len-gt1-clause-sorted
returns-then-len-gt1-clause-sorted c =
    let names = c.args.names.now in
    c.sort_unstable_by.ensures.sorted (λ first second. is_lt (numbered_cmp names first second))
    (ranks_by (numbered_total names) (λ (each : NumberedPair). each))
    (always_returns_same _ _ _ (λ a r f' k. search rules))
