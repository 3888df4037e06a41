use Rattle.std.proofs.Common.{◌≡◌, List, sym, subst}
use Rattle.std.specs.List.{dedup}
use Rattle.std.proofs.lemmas.List.Filters.{dedup_is, All-dedup}
use Rattle.std.proofs.lemmas.List.Sorted.{All-permutation}
use Rattle.end_events.specs.declared.pairs.NumberedPair.{NumberedPair}
use Rattle.end_events.specs.Pairs.{AreNumbered, IsNumbered}
use Rattle.end_events.proofs.Numbered.{same_numbered, distinct_sorted, distinct_same}
use Rattle.end_events.proofs.pairs.put_in_order.Goals as goal

-- the sorted pairs are numbered
all_sorted : (c : goal.After-dedup) → AreNumbered c.args.names.now c.sort_pairs.new.pairs.items
all_sorted c =
    All-permutation (IsNumbered c.args.names.now) c.args.pairs.now.items c.sort_pairs.new.pairs.items
    c.sort_pairs.ensures.permutation c.requires

-- each stands once
once : (c : goal.After-dedup) → c.dedup.new.self.items ≡ dedup same_numbered c.sort_pairs.new.pairs.items
once c = dedup_is same_numbered c.sort_pairs.new.pairs.items c.dedup.new.self.items c.dedup.ensures.filtered

pub returns-clause-sorted : goal.returns-clause-sorted
returns-clause-sorted c =
    distinct_sorted c.args.names.now c.sort_pairs.new.pairs.items c.dedup.new.self.items (all_sorted c) c.sort_pairs.ensures.sorted (once c)

pub returns-clause-same : goal.returns-clause-same
returns-clause-same c =
    distinct_same c.args.names.now c.args.pairs.now.items c.sort_pairs.new.pairs.items c.dedup.new.self.items
    (all_sorted c) c.sort_pairs.ensures.permutation (once c)

pub returns-clause-numbered : goal.returns-clause-numbered
returns-clause-numbered c =
    subst (λ (pairs : List NumberedPair). AreNumbered c.args.names.now pairs) (sym (once c))
    (All-dedup same_numbered (IsNumbered c.args.names.now) c.sort_pairs.new.pairs.items (all_sorted c))
