use Rattle.join_bindings.proofs.Sharing.{blank_overlaps}
use Rattle.join_bindings.proofs.query_pairs.QueryPairs.new.Goals as goal

pub invariant_of-result : goal.invariant_of-result
invariant_of-result c =
    blank_overlaps c.in_ok-sets.sets.items c.in_ok-overlaps.overlaps.items c.in_ok-sets.ensures.blank c.in_ok-overlaps.ensures
