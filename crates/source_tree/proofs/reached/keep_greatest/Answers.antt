use Rattle.std.proofs.Common.{rules}
use Rattle.std.proofs.lemmas.Fn.{dedup_same}
use Rattle.std.proofs.lemmas.List.Sorted.{IsNonDecreasingBy-from_sort_by_key}
use Rattle.source_tree.specs.Listing.{order_of}
use Rattle.source_tree.proofs.Listing.{are_reached, same_vertex}
use Rattle.source_tree.proofs.reached.keep_greatest.Goals as goal

pub returns : goal.returns
returns c finals tree have =
    let old = c.args.reached.now.items in
    let sorted = c.sort_unstable_by_key.new.self.items in
    let distinct = c.dedup_by_key.new.self.items in
    are_reached finals tree old sorted distinct have c.sort_unstable_by_key.ensures.permutation
    (IsNonDecreasingBy-from_sort_by_key order_of sorted
    c.sort_unstable_by_key.ensures.sorted (λ a r q k. search rules))
    (dedup_same _ same_vertex _ (λ x y b f' x' y' k. search rules) sorted distinct
    c.dedup_by_key.ensures.filtered)
