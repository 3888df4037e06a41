-- The order of events, and lists of events in it.
use Rattle.std.proofs.Common.{◌≡◌, ℕ, ◌+◌, ◌<◌, Bool, true, false, not, ◌&&◌, List, [], ◌∷◌, ◌++◌, map, get_or, nat_eq, Ordering, refl, sym, ap, subst, ◌∙◌, inl, inr, arith}
use Rattle.std.proofs.Math.Bool.{beq}
use Rattle.std.specs.Prelude.{Contains}
use Rattle.std.specs.Cmp.{IsTotalOrder, bool_cmp_total, nat_cmp_is}
use Rattle.std.specs.List.Sorted.{IsSorted, IsStrictlySortedBy}
use Rattle.std.specs.Ordering.{is_lt, nat_cmp, bool_cmp, ordering_then, ordering_reverse}
use Rattle.std.specs.declared.cmp.Ordering.TheVariants.{Less}
use Rattle.std.proofs.lemmas.Cmp.{then_total, on_total, nat_cmp_total, tied_itself}
use Rattle.std.proofs.lemmas.List.Elements.{All-from_recursion, All-map, All-append, All-weaker, All-contains_itself}
use Rattle.std.proofs.lemmas.List.Kept.{IsStrictlySortedBy-filter}
use Rattle.std.proofs.lemmas.Map.Keys.{Less-from_sorted, sorted_head, sorted_tail}
use Rattle.std.proofs.lemmas.Map.Lookups.{CmpEqualImpliesEq, exact_unsigned}
use Rattle.rpq_base.specs.Order.{pair_cmp}
use Rattle.rpq_base.specs.Same.{same_pair}
use Rattle.rpq_base.specs.declared.data.Pair.{Pair}
use Rattle.rpq_base.specs.declared.data.Event.{Event}
use Rattle.rpq_base.proofs.Members.{cons_members}
use Rattle.rpq_base.proofs.Orders.{both_equal, same_direction, pair_cmp_total, pair_cmp_exact}
use Rattle.rpq_base.proofs.Sorted.{sorted_nil, sorted_cons}
use Rattle.rpq_model.specs.Events.{event, without, changes}
use Rattle.rpq_model.proofs.ByMembers.{event_members}
use Rattle.rpq_model.proofs.Pairs.{has}
use Rattle.two_way.specs.Differences.{event_cmp}

-- ---- the order, and the test for equal events

pub event_cmp_total : IsTotalOrder event_cmp
event_cmp_total =
    then_total
    (then_total (on_total (λ (each : Event). each.query) nat_cmp_total) (on_total (λ (each : Event). each.added) bool_cmp_total))
    (on_total (λ (each : Event). each.pair) pair_cmp_total)

pub event_cmp_exact : CmpEqualImpliesEq event_cmp
event_cmp_exact first second e =
    let outer = both_equal (ordering_then (nat_cmp first.query second.query) (bool_cmp first.added second.added)) (pair_cmp first.pair second.pair) e in
    let inner = both_equal (nat_cmp first.query second.query) (bool_cmp first.added second.added) outer.0 in
    let query = exact_unsigned first.query second.query inner.0 in
    let added = same_direction first.added second.added inner.1 in
    let pair = pair_cmp_exact first.pair second.pair outer.1 in
    λ i. record { query = query i; added = added i; pair = pair i }

-- the test of events that is derived
abbrev pub same_event : Event → Event → Bool
same_event first second = nat_eq first.query second.query && (beq first.added second.added && same_pair first.pair second.pair)

-- ---- lists in order

-- in strict order no event is below the one before it
pub none_falls : (events : List Event) → IsStrictlySortedBy event_cmp events → IsSorted event_cmp events
none_falls events sorted = λ k d low high.
    let lower = get_or events k d in
    let upper = get_or events (k + 1) d in
    let less = Less-from_sorted event_cmp events k (k + 1) d sorted (omega arith) high in
    ap is_lt (event_cmp_total.antisymm upper lower ∙ ap ordering_reverse less)

-- events in order before others in order
pub sorted_append : (events others : List Event) → IsStrictlySortedBy event_cmp events → IsStrictlySortedBy event_cmp others →
    ((each other : Event) → Contains events each → Contains others other → event_cmp each other ≡ Less) →
    IsStrictlySortedBy event_cmp (events ++ others)
sorted_append [] others sorted others_sorted below = others_sorted
sorted_append (first ∷ rest) others sorted others_sorted below =
    sorted_cons event_cmp first (rest ++ others)
    (All-append (λ (each : Event). event_cmp first each ≡ Less) rest others
    (All-from_recursion (λ (each : Event). event_cmp first each ≡ Less) rest (sorted_head event_cmp first rest sorted))
    (All-weaker (Contains others) (λ (each : Event). event_cmp first each ≡ Less)
    (λ other member. below first other ((cons_members first rest first).1 (inl refl)) member) others (All-contains_itself others)))
    (sorted_append rest others (sorted_tail event_cmp first rest sorted) others_sorted
    (λ each other member. below each other ((cons_members first rest each).1 (inr member))))

-- ---- events of one query

less_number : (first second : ℕ) → first < second → nat_cmp first second ≡ Less
less_number first second below = sym (nat_cmp_is first second Less below)

-- an event of a query before one of a later query
pub before_later : (first second : Event) → first.query < second.query → event_cmp first second ≡ Less
before_later first second below =
    ap (λ (order : Ordering). ordering_then (ordering_then order (bool_cmp first.added second.added)) (pair_cmp first.pair second.pair))
    (less_number first.query second.query below)

-- a loss before a gain
before_gain : (query : ℕ) (lost gained : Pair) → event_cmp (event query false lost) (event query true gained) ≡ Less
before_gain query lost gained =
    ap (λ (order : Ordering). ordering_then (ordering_then order (bool_cmp false true)) (pair_cmp lost gained)) (tied_itself nat_cmp_total query)

-- two of one kind are in the order of their pairs
before_alike : (query : ℕ) (added : Bool) (first second : Pair) → pair_cmp first second ≡ Less →
    event_cmp (event query added first) (event query added second) ≡ Less
before_alike query added first second less =
    ap (λ (order : Ordering). ordering_then (ordering_then order (bool_cmp added added)) (pair_cmp first second)) (tied_itself nat_cmp_total query)
    ∙ (ap (λ (order : Ordering). ordering_then order (pair_cmp first second)) (tied_itself bool_cmp_total added) ∙ less)

sorted_alike : (pairs : List Pair) (query : ℕ) (added : Bool) → IsStrictlySortedBy pair_cmp pairs →
    IsStrictlySortedBy event_cmp (map (event query added) pairs)
sorted_alike [] query added sorted = sorted_nil event_cmp
sorted_alike (first ∷ rest) query added sorted =
    let above = λ (each : Event). event_cmp (event query added first) each ≡ Less in
    sorted_cons event_cmp (event query added first) (map (event query added) rest)
    (All-map above (event query added) rest
    (All-weaker (λ (pair : Pair). pair_cmp first pair ≡ Less) (λ (pair : Pair). above (event query added pair))
    (λ pair less. before_alike query added first pair less) rest
    (All-from_recursion (λ (pair : Pair). pair_cmp first pair ≡ Less) rest (sorted_head pair_cmp first rest sorted))))
    (sorted_alike rest query added (sorted_tail pair_cmp first rest sorted))

-- the changes of a query are in order
pub sorted_changes : (query : ℕ) (old new : List Pair) → IsStrictlySortedBy pair_cmp old → IsStrictlySortedBy pair_cmp new →
    IsStrictlySortedBy event_cmp (changes query old new)
sorted_changes query old new old_sorted new_sorted =
    let lost = without old new in
    let gained = without new old in
    sorted_append (map (event query false) lost) (map (event query true) gained)
    (sorted_alike lost query false (IsStrictlySortedBy-filter pair_cmp (λ (pair : Pair). not (has new pair)) old old_sorted))
    (sorted_alike gained query true (IsStrictlySortedBy-filter pair_cmp (λ (pair : Pair). not (has old pair)) new new_sorted))
    (λ each other loss gain.
    let one = (event_members lost query false each).0 loss in
    let two = (event_members gained query true other).0 gain in
    subst (λ (loss : Event). event_cmp loss other ≡ Less) one.2
    (subst (λ (gain : Event). event_cmp (event query false one.0) gain ≡ Less) two.2 (before_gain query one.0 two.0)))
