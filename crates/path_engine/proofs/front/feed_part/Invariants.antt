use Rattle.std.proofs.Common.{◌≡◌, ℕ, ◌<◌, ◌≤◌, length, get_or}
use Rattle.path_engine.specs.declared.front.Share.{Share}
use Rattle.path_engine.specs.Front.{IsFed}
use Rattle.path_engine.proofs.front.feed_part.Given as goal

-- the queries of the shares so far took the entries, and the other shares are as they were
abbrev pub invariant-loop-share : goal.invariant-loop-share
invariant-loop-share g l = record {
  as_many : length l.share-items ≡ length l.fn.shares.items;
  left : (k : ℕ) (d : Share) → l.share-index ≤ k →
      get_or l.share-items k d ≡ get_or l.fn.shares.items k d;
  fed : (k : ℕ) (d : Share) → k < l.share-index →
      IsFed l.queries l.names l.entries (get_or l.fn.shares.items k d) (get_or l.share-items k d);
}
