use Rattle.std.proofs.Common.{sym, subst}
use Rattle.std.specs.List.Sorted.{IsStrictlySortedBy}
use Rattle.std.specs.Map.{keys_of}
use Rattle.rpq_base.proofs.Sorted.{sorted_nil}
use Rattle.shared_map.specs.Chunks.{entries_of}
use Rattle.shared_map.proofs.map.SharedMap.new.Goals as goal

pub invariant_of-result : goal.invariant_of-result
invariant_of-result g c =
    subst (λ chunks. IsStrictlySortedBy g.K.Ord.cmp (keys_of (entries_of chunks))) (sym c.new.ensures.items)
    (sorted_nil g.K.Ord.cmp)
