-- An expression has one position automaton, and that has one automaton.
use Rattle.std.proofs.Common.{◌≡◌, ◌≢◌, ℕ, ◌+◌, List, [], ◌∷◌, length, get_or, refl, sym, ap, ◌∙◌, arith}
use Rattle.std.specs.Prelude.{◌↔◌, IsSome, Contains}
use Rattle.std.specs.List.Sorted.{IsStrictlySortedBy}
use Rattle.std.specs.Ordering.{nat_cmp}
use Rattle.std.proofs.lemmas.Cmp.{nat_cmp_total}
use Rattle.std.proofs.lemmas.List.{ext_get_or}
use Rattle.std.proofs.lemmas.List.Elements.{All-get_or}
use Rattle.std.proofs.lemmas.Map.Keys.{sorted_from_strictly_increasing}
use Rattle.std.proofs.lemmas.Map.Lookups.{exact_unsigned}
use Rattle.rpq_base.proofs.Orders.{label_cmp_total, label_cmp_exact}
use Rattle.rpq_base.proofs.Sorted.{same_from_members}
use Rattle.rpq_base.specs.declared.data.Label.{Label}
use Rattle.dfa_table.specs.DfaValue.{DfaValue}
use Rattle.dfa_table.specs.Runs.{run_from}
use Rattle.dfa_table.specs.Laws.{AreAlike}
use Rattle.dfa_table.proofs.Numbering.{one_numbering}
use Rattle.dfa_table.proofs.Runs.{start_is_apart}
use Rattle.dfa_build.specs.Positions.{PositionsValue, IsRising}
use Rattle.dfa_build.specs.Subset.{IsAutomatonOf}
use Rattle.dfa_build.specs.Laws.{OneAutomaton, OnePositionAutomaton}

-- ---- what one of them does, the other does

leads_too : (word : List Label) (positions : PositionsValue) (first second : DfaValue) → IsAutomatonOf positions first → IsAutomatonOf positions second →
    IsSome (run_from first 0 word) → IsSome (run_from second 0 word)
leads_too [] positions first second one other some = refl
leads_too (label ∷ word) positions first second one other some =
    let nonempty : label ∷ word ≢ [] = λ none. cc in
    (other.sets.leads (label ∷ word) nonempty).1 ((one.sets.leads (label ∷ word) nonempty).0 some)

same_too : (a b : List Label) (positions : PositionsValue) (first second : DfaValue) → IsAutomatonOf positions first → IsAutomatonOf positions second →
    run_from first 0 a ≡ run_from first 0 b → run_from second 0 a ≡ run_from second 0 b
same_too [] [] positions first second one other same = refl
same_too [] (m ∷ w) positions first second one other same = absurd (start_is_apart.back first 0 m w one.valid (sym same))
same_too (l ∷ v) [] positions first second one other same = absurd (start_is_apart.back first 0 l v one.valid same)
same_too (l ∷ v) (m ∷ w) positions first second one other same =
    let here : l ∷ v ≢ [] = λ none. cc in
    let there : m ∷ w ≢ [] = λ none. cc in
    (other.sets.same (l ∷ v) (m ∷ w) here there).1 ((one.sets.same (l ∷ v) (m ∷ w) here there).0 same)

are_alike : (positions : PositionsValue) (first second : DfaValue) → IsAutomatonOf positions first → IsAutomatonOf positions second → AreAlike first second
are_alike positions first second one other = record {
  labels = same_from_members label_cmp_total label_cmp_exact first.labels second.labels one.valid.sorted other.valid.sorted
      (λ label. ((λ here. (other.labels label).1 ((one.labels label).0 here)), (λ there. (one.labels label).1 ((other.labels label).0 there))));
  leads = λ word. (leads_too word positions first second one other, leads_too word positions second first other one);
  same = λ a b. (same_too a b positions first second one other, same_too a b positions second first other one);
  accepts = λ word. ((λ here. (other.accepts word).1 ((one.accepts word).0 here)), (λ there. (one.accepts word).1 ((other.accepts word).0 there)));
}

pub one_automaton : OneAutomaton
one_automaton positions first second one other =
    one_numbering first second
    (record { valid = one.valid; reached = one.sets.reached; order = one.order })
    (record { valid = other.valid; reached = other.sets.reached; order = other.order })
    (are_alike positions first second one other)

-- ---- positions

-- rising lists with the same members are equal
same_lists : (ones others : List ℕ) → IsRising ones → IsRising others → ((p : ℕ) → Contains ones p ↔ Contains others p) → ones ≡ others
same_lists ones others rising rising2 same =
    same_from_members nat_cmp_total exact_unsigned ones others (sorted ones rising) (sorted others rising2) same
  where
    sorted : (list : List ℕ) → IsRising list → IsStrictlySortedBy nat_cmp list
    sorted list up = sorted_from_strictly_increasing list (λ k within. up k (k + 1) 0 (omega arith) within)

pub one_position_automaton : OnePositionAutomaton
one_position_automaton e first second is form rising is2 form2 rising2 =
    let labels : first.atoms ≡ second.atoms = is.labels ∙ sym is2.labels in
    let starts = same_lists first.first second.first rising.first rising2.first
    (λ p. ((λ here. (is2.first p).1 ((is.first p).0 here)), (λ there. (is.first p).1 ((is2.first p).0 there)))) in
    let ends = same_lists first.last second.last rising.last rising2.last
    (λ p. ((λ here. (is2.last p).1 ((is.last p).0 here)), (λ there. (is.last p).1 ((is2.last p).0 there)))) in
    let rows : length first.follow ≡ length second.follow = form.rows ∙ (ap length labels ∙ sym form2.rows) in
    let follow = ext_get_or [] first.follow second.follow rows
    (λ p below. same_lists (get_or first.follow p []) (get_or second.follow p [])
    (All-get_or IsRising first.follow p [] below rising.follow) (All-get_or IsRising second.follow p [] (omega arith) rising2.follow)
    (λ q. ((λ here. (is2.follow p q).1 ((is.follow p q).0 here)), (λ there. (is.follow p q).1 ((is2.follow p q).0 there))))) in
    λ i. record { atoms = labels i; first = starts i; last = ends i; follow = follow i }
