-- Nodes in the order of their vertices, their roots and their states.
use Rattle.std.proofs.Common.{◌≡◌, inl, inr, ◌<◌, false, Ordering, List, get_or, refl, sym, true≢false, arith}
use Rattle.std.specs.Cmp.{IsTotalOrder}
use Rattle.std.specs.Ordering.{MatchOrdering, is_lt, nat_cmp, ordering_then}
use Rattle.std.specs.List.Sorted.{IsSorted}
use Rattle.std.specs.declared.cmp.Ordering.TheVariants.{Less, Equal, Greater}
use Rattle.std.proofs.lemmas.Cmp.{nat_cmp_total, on_total, ranked, then_total}
use Rattle.std.proofs.lemmas.List.MinMax.{ranks_by}
use Rattle.std.proofs.lemmas.List.Sorted.{sorted_far}
use Rattle.end_log.specs.declared.moved.Moved.{Moved}
use Rattle.end_log.specs.Moves.{IsInOrder, IsUpTo}

abbrev pub moved_cmp : Moved → Moved → Ordering
moved_cmp first second = ordering_then (nat_cmp first.vertex second.vertex)
    (ordering_then (nat_cmp first.root second.root) (nat_cmp first.state second.state))

moved_total : IsTotalOrder moved_cmp
moved_total =
    then_total (on_total (λ (moved : Moved). moved.vertex) nat_cmp_total)
    (then_total (on_total (λ (moved : Moved). moved.root) nat_cmp_total)
    (on_total (λ (moved : Moved). moved.state) nat_cmp_total))

-- what isn't before another doesn't have a lesser vertex, nor a lesser root at the same one
not_before : (first second : Moved) → is_lt (moved_cmp second first) ≡ false →
    IsUpTo first second
not_before first second is = by (nat_cmp second.vertex first.vertex)
    (nat_cmp second.root first.root) (ranked second.vertex first.vertex
    (nat_cmp second.vertex first.vertex) refl)
    (ranked second.root first.root (nat_cmp second.root first.root) refl) is
  where
    by : (v r : Ordering) →
        MatchOrdering v (second.vertex < first.vertex) (second.vertex ≡ first.vertex)
        (first.vertex < second.vertex) →
        MatchOrdering r (second.root < first.root) (second.root ≡ first.root)
        (first.root < second.root) →
        is_lt (ordering_then v (ordering_then r (nat_cmp second.state first.state))) ≡ false →
        IsUpTo first second
    by Less r vertices roots is = absurd (true≢false is)
    by Greater r vertices roots is = inl vertices
    by Equal Less vertices roots is = absurd (true≢false is)
    by Equal Equal vertices roots is = inr (sym vertices, omega (arith, roots))
    by Equal Greater vertices roots is = inr (sym vertices, omega (arith, roots))

-- sorted by all three
pub in_order : (moves : List Moved) → IsSorted moved_cmp moves → IsInOrder moves
in_order moves sorted i j d before within =
    not_before (get_or moves i d) (get_or moves j d)
    (sorted_far (λ (x y : Moved). is_lt (moved_cmp x y))
    (ranks_by moved_total (λ (moved : Moved). moved)) moves sorted i j d (omega (arith, before))
    within)
