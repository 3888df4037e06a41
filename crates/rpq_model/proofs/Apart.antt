-- No event undoes another of the same entry.
use Rattle.std.proofs.Common.{◌≡◌, ◌≢◌, ℕ, Bool, true, false, not, List, [], ◌∷◌, ◌++◌, map, refl, sym, ap, subst, ◌∙◌, arith}
use Rattle.std.specs.Prelude.{Contains, All, AllPairs}
use Rattle.std.specs.declared.cmp.Ordering.TheVariants.{Less, Equal}
use Rattle.std.specs.List.Sorted.{IsStrictlySortedBy}
use Rattle.std.proofs.lemmas.Bool.{true≢false, false≢true, not-true}
use Rattle.std.proofs.lemmas.Cmp.{tied_itself}
use Rattle.std.proofs.lemmas.List.Elements.{All-from_recursion, All-map, All-append, All-weaker, All-filter, All-head, All-tail, All-contains_itself}
use Rattle.std.proofs.lemmas.List.Elements.{filter_passes}
use Rattle.std.proofs.lemmas.List.Kept.{AllPairs-cons, IsStrictlySortedBy-filter}
use Rattle.std.proofs.lemmas.Map.Keys.{sorted_head, sorted_tail}
use Rattle.rpq_base.specs.Order.{pair_cmp}
use Rattle.rpq_base.specs.Laws.{SameIsEqual}
use Rattle.rpq_base.specs.declared.data.Entry.{Entry}
use Rattle.rpq_base.specs.declared.data.Pair.{Pair}
use Rattle.rpq_base.specs.declared.data.Event.{Event}
use Rattle.rpq_model.specs.Events.{event, without, AreEvents}
use Rattle.rpq_model.specs.Answers.{PathQuery}
use Rattle.rpq_model.specs.EventLaws.{IsApart}
use Rattle.rpq_base.proofs.Orders.{pair_cmp_total}
use Rattle.rpq_model.proofs.Pairs.{has, has_members}

-- a pair isn't before itself
apart_from_less : (first second : Pair) → pair_cmp first second ≡ Less → first ≢ second
apart_from_less first second less same =
    let tied : pair_cmp first second ≡ Equal = ap (pair_cmp first) (sym same) ∙ tied_itself pair_cmp_total first in
    cc

-- two losses, or two gains
alike : (query : ℕ) (added : Bool) (first second : Pair) → pair_cmp first second ≡ Less → IsApart (event query added first) (event query added second)
alike query added first second less = record {
  pairs = apart_from_less first second less;
  losses_first = λ e. e;
  sorted = λ e. less;
}

-- a loss and a gain
opposite : (query : ℕ) (lost gained : Pair) → lost ≢ gained → IsApart (event query false lost) (event query true gained)
opposite query lost gained apart = record {
  pairs = apart;
  losses_first = λ e. refl;
  sorted = λ e. absurd (false≢true e);
}

-- an event before those of sorted pairs that follow its pair
before_alike : (query : ℕ) (added : Bool) (first : Pair) (pairs : List Pair) → IsStrictlySortedBy pair_cmp (first ∷ pairs) →
    All (IsApart (event query added first)) (map (event query added) pairs)
before_alike query added first pairs sorted =
    All-map (IsApart (event query added first)) (event query added) pairs
    (All-weaker (λ pair. pair_cmp first pair ≡ Less) (λ pair. IsApart (event query added first) (event query added pair))
    (λ pair. alike query added first pair) pairs
    (All-from_recursion (λ pair. pair_cmp first pair ≡ Less) pairs (sorted_head pair_cmp first pairs sorted)))

-- the gains
gains_apart : (gained : List Pair) (query : ℕ) → IsStrictlySortedBy pair_cmp gained → AllPairs IsApart (map (event query true) gained)
gains_apart [] query sorted = λ i j d below within. absurd (omega arith)
gains_apart (first ∷ gained) query sorted =
    AllPairs-cons IsApart (event query true first) (map (event query true) gained)
    (before_alike query true first gained sorted)
    (gains_apart gained query (sorted_tail pair_cmp first gained sorted))

-- the losses and then the gains
losses_apart : (lost gained : List Pair) (query : ℕ) → IsStrictlySortedBy pair_cmp lost → IsStrictlySortedBy pair_cmp gained →
    All (λ pair. All (λ other. pair ≢ other) gained) lost →
    AllPairs IsApart (map (event query false) lost ++ map (event query true) gained)
losses_apart [] gained query lost_sorted gained_sorted apart = gains_apart gained query gained_sorted
losses_apart (first ∷ lost) gained query lost_sorted gained_sorted apart =
    let losses = map (event query false) lost in
    let gains = map (event query true) gained in
    let others = λ (pair : Pair). All (λ (other : Pair). pair ≢ other) gained in
    AllPairs-cons IsApart (event query false first) (losses ++ gains)
    (All-append (IsApart (event query false first)) losses gains
    (before_alike query false first lost lost_sorted)
    (All-map (IsApart (event query false first)) (event query true) gained
    (All-weaker (λ pair. first ≢ pair) (λ pair. IsApart (event query false first) (event query true pair)) (opposite query first) gained
    (All-head others first lost apart))))
    (losses_apart lost gained query (sorted_tail pair_cmp first lost lost_sorted) gained_sorted (All-tail others first lost apart))

-- what is lost isn't among the new, and what is gained is
lost_from_gained : SameIsEqual → (old new : List Pair) → All (λ pair. All (λ other. pair ≢ other) (without new old)) (without old new)
lost_from_gained same old new =
    let gained : All (Contains new) (without new old) = All-filter (λ (pair : Pair). not (has old pair)) (Contains new) new (All-contains_itself new) in
    All-weaker (λ pair. not (has new pair) ≡ true) (λ pair. All (λ other. pair ≢ other) (without new old))
    (λ pair lost. All-weaker (Contains new) (λ other. pair ≢ other)
    (λ other member is. true≢false (sym ((has_members same new other).1 member) ∙ (ap (has new) (sym is) ∙ not-true (has new pair) lost)))
    (without new old) gained)
    (without old new) (filter_passes (λ (pair : Pair). not (has new pair)) old)

-- events from one history to another are apart
pub events_are_apart : SameIsEqual → (query : PathQuery) (number : ℕ) (before after : List Entry) (events : List Event) →
    AreEvents query number before after events → AllPairs IsApart events
events_are_apart same query number before after events events_are =
    let old = events_are.0 in
    let new = events_are.1 in
    subst (λ (all : List Event). AllPairs IsApart all) (sym events_are.4)
    (losses_apart (without old new) (without new old) number
    (IsStrictlySortedBy-filter pair_cmp (λ (pair : Pair). not (has new pair)) old events_are.2.sorted)
    (IsStrictlySortedBy-filter pair_cmp (λ (pair : Pair). not (has old pair)) new events_are.3.sorted)
    (lost_from_gained same old new))
