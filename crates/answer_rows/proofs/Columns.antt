-- The sources of a vertex, by the ends of pairs.
use Rattle.std.proofs.Common.{◌≡◌, ℕ, Bool, true, false, List, [], ◌∷◌, Ordering, refl, sym, ap, subst, ◌∙◌, inl, inr, ⊎_elim}
use Rattle.std.specs.Prelude.{◌↔◌, All, Contains, IsSome}
use Rattle.std.specs.List.{AllByRecursion}
use Rattle.std.specs.List.Sorted.{IsStrictlySortedBy}
use Rattle.std.specs.Ordering.{ordering_then}
use Rattle.std.specs.declared.cmp.Ordering.TheVariants.{Less, Equal, Greater}
use Rattle.std.proofs.lemmas.Bool.{false≢true}
use Rattle.std.proofs.lemmas.Cmp.{tied_itself, nat_list_cmp_total}
use Rattle.std.proofs.lemmas.List.Elements.{All-nil, All-cons}
use Rattle.std.proofs.lemmas.Map.Keys.{sorted_head, sorted_tail}
use Rattle.rpq_base.specs.Order.{name_cmp, pair_cmp}
use Rattle.rpq_base.specs.Same.{same_name}
use Rattle.rpq_base.proofs.Equality.{names}
use Rattle.rpq_base.proofs.Members.{cons_members, none_in}
use Rattle.rpq_base.proofs.Sorted.{sorted_nil, sorted_cons}
use Rattle.answer_rows.specs.Answers.{Answer, pair, pair_of, pairs, AreRows, until_of, sources_of}
use Rattle.answer_rows.specs.Laws.{SourcesHaveEnds}

-- ---- the sources are those whose pair has an end

each_source : (rows : List Answer) (from to : List ℕ) → Contains (sources_of rows to) from ↔ IsSome (until_of rows (pair from to))
each_source [] from to = ((λ member. absurd (none_in from member)), (λ some. absurd (false≢true some)))
each_source (first ∷ rest) from to =
    by (same_name first.from from) (same_name first.to to) refl refl (each_source rest from to)
  where
    by : (here there : Bool) → same_name first.from from ≡ here → same_name first.to to ≡ there →
        Contains (sources_of rest to) from ↔ IsSome (until_of rest (pair from to)) →
        Contains (sources_of (first ∷ rest) to) from ↔ IsSome (until_of (first ∷ rest) (pair from to))
    by true false e f later = rw (e, f) later
    by false false e f later = rw (e, f) later
    by true true e f later = rw (e, f) (
      (λ member. refl),
      (λ some. (cons_members first.from (sources_of rest to) from).1 (inl ((names first.from from).0 e))),
    )
    by false true e f later = rw (e, f) (
      (λ member. ⊎_elim
          (λ same. absurd (false≢true (sym e ∙ (names first.from from).1 same)))
          later.0
          ((cons_members first.from (sources_of rest to) from).0 member)),
      (λ some. (cons_members first.from (sources_of rest to) from).1 (inr (later.1 some))),
    )

-- ---- the sources are in order

first_decides : (order : Ordering) → ordering_then order Equal ≡ Less → order ≡ Less
first_decides Less e = refl
first_decides Equal e = absurd cc
first_decides Greater e = absurd cc

-- the sources of a vertex in pairs above one to it
sources_above : (from to : List ℕ) (rest : List Answer) → AllByRecursion (λ each. pair_cmp (pair from to) each ≡ Less) (pairs rest) →
    All (λ each. name_cmp from each ≡ Less) (sources_of rest to)
sources_above from to [] above = All-nil (λ (each : List ℕ). name_cmp from each ≡ Less)
sources_above from to (first ∷ rest) above = by (same_name first.to to) refl (sources_above from to rest above.1)
  where
    by : (same : Bool) → same_name first.to to ≡ same → All (λ each. name_cmp from each ≡ Less) (sources_of rest to) →
        All (λ each. name_cmp from each ≡ Less) (sources_of (first ∷ rest) to)
    by false e later = rw e later
    by true e later =
        let tied : name_cmp to first.to ≡ Equal = ap (name_cmp to) ((names first.to to).0 e) ∙ tied_itself nat_list_cmp_total to in
        let less : name_cmp from first.from ≡ Less =
        first_decides (name_cmp from first.from) (ap (ordering_then (name_cmp from first.from)) (sym tied) ∙ above.0) in
        rw e (All-cons (λ (each : List ℕ). name_cmp from each ≡ Less) first.from (sources_of rest to) less later)

sources_in_order : (rows : List Answer) (to : List ℕ) → AreRows rows → IsStrictlySortedBy name_cmp (sources_of rows to)
sources_in_order [] to sorted = sorted_nil name_cmp
sources_in_order (first ∷ rest) to sorted =
    by (same_name first.to to) refl (sources_in_order rest to (sorted_tail pair_cmp (pair_of first) (pairs rest) sorted))
  where
    by : (same : Bool) → same_name first.to to ≡ same → IsStrictlySortedBy name_cmp (sources_of rest to) →
        IsStrictlySortedBy name_cmp (sources_of (first ∷ rest) to)
    by false e later = rw e later
    by true e later =
        let is : first.to ≡ to = (names first.to to).0 e in
        let above = sorted_head pair_cmp (pair_of first) (pairs rest) sorted in
        rw e (sorted_cons name_cmp first.from (sources_of rest to)
        (ap_all is (sources_above first.from first.to rest above)) later)
      where
        ap_all : first.to ≡ to → All (λ each. name_cmp first.from each ≡ Less) (sources_of rest first.to) →
            All (λ each. name_cmp first.from each ≡ Less) (sources_of rest to)
        ap_all is all = subst (λ (name : List ℕ). All (λ each. name_cmp first.from each ≡ Less) (sources_of rest name)) is all

pub sources_have_ends : SourcesHaveEnds
sources_have_ends = record { each = each_source; in_order = sources_in_order }
