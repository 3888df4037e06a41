-- The automaton of the classes is a least one.
use Rattle.std.proofs.Common.{◌≡◌, ℕ, zero, suc, ◌+◌, ◌^◌, ◌<◌, Bool, false, List, [], length, get_or, Option, Some, None, sym, ap, ◌∙◌, subst, ⊎_elim, arith}
use Rattle.std.specs.Prelude.{◌↔◌}
use Rattle.std.specs.List.Sorted.{IsStrictlySortedBy}
use Rattle.std.proofs.lemmas.Bool.{cases_lt}
use Rattle.std.proofs.lemmas.List.{get_or_past}
use Rattle.std.proofs.lemmas.List.Elements.{All-get_or, All-from_get_or}
use Rattle.std.proofs.lemmas.Option.{none-some, same_Some}
use Rattle.rpq_base.specs.Order.{label_cmp}
use Rattle.rpq_base.specs.declared.data.Label.{Label}
use Rattle.dfa_table.specs.DfaValue.{DfaValue, IsDfa, is_final}
use Rattle.dfa_table.specs.Discovery.{node_at, IsReached, IsStep, IsRow, AreRows}
use Rattle.dfa_table.specs.Runs.{Accepts, ReachesFinal, IsTrim, AreToldApart}
use Rattle.dfa_table.proofs.Runs.{accepted_words_pass}
use Rattle.minimal_dfa.specs.Classes.{class_graph, state_at}
use Rattle.minimal_dfa.specs.Least.{AreApart, IsLeast}
use Rattle.minimal_dfa.proofs.Standing.{IsClass, reached_is_class, classes_told, fewer}
use Rattle.minimal_dfa.proofs.Quotient.{IsQuotient, row_of, number_accepts, reached}

-- ---- the table

step_target : (step : Option ℕ) (dfa : DfaValue) (nodes : List ℕ) (front label target : ℕ) → IsStep (class_graph dfa) nodes front label step → step ≡ Some target →
    (0 < target) × (target < suc (length nodes))
step_target None dfa nodes front label target right is = absurd (none-some target is)
step_target (Some zero) dfa nodes front label target right is = absurd right
step_target (Some (suc place)) dfa nodes front label target right is =
    let same = same_Some (suc place) target is in
    let below = right.0 in
    (omega (arith, same), omega (arith, same, below))

row_target : (dfa : DfaValue) (nodes : List ℕ) (front width : ℕ) (row : List (Option ℕ)) (label target : ℕ) → IsRow (class_graph dfa) nodes front width row → get_or row label None ≡ Some target →
    (0 < target) × (target < suc (length nodes))
row_target dfa nodes front width row label target is step = ⊎_elim
    (λ below. step_target (get_or row label None) dfa nodes front label target (is.steps label (omega (arith, below, is.even))) step)
    (λ past. absurd (none-some target (sym (get_or_past row label None past) ∙ step)))
    (cases_lt label (length row))

rows_target : (dfa : DfaValue) (nodes : List ℕ) (rows : List (List (Option ℕ))) → AreRows (class_graph dfa) 512 0 nodes rows (length nodes) →
    (state label target : ℕ) → get_or (get_or rows state []) label None ≡ Some target → (0 < target) × (target < suc (length nodes))
rows_target dfa nodes rows are state label target is = ⊎_elim
    (λ below. row_target dfa nodes (state_at nodes state) (length dfa.labels) (get_or rows state []) label target (row_of state dfa nodes rows are (omega (arith, below, are.as_many))) is)
    (λ past. absurd (none-some target (ap (λ (row : List (Option ℕ)). get_or row label None) (sym (get_or_past rows state [] past)) ∙ is)))
    (cases_lt state (length rows))

-- whether the states for which those of the automaton stand are final
abbrev pub AreFinals : DfaValue → List ℕ → List Bool → Type 0
AreFinals dfa nodes finals = (number : ℕ) → number < suc (length nodes) → get_or finals number false ≡ is_final dfa (state_at nodes number)

-- the same told of an equal list, and with one more in place of the next
pub finals_told : (dfa : DfaValue) (nodes given : List ℕ) (finals : List Bool) → given ≡ nodes →
    ((number : ℕ) → number < length given + 1 → get_or finals number false ≡ is_final dfa (state_at given number)) → AreFinals dfa nodes finals
finals_told dfa nodes given finals same each = λ number below.
    (subst (λ (all : List ℕ). (number : ℕ) → number < length all + 1 → get_or finals number false ≡ is_final dfa (state_at all number)) same each) number (omega (arith, below))

pub table_is_dfa : (dfa : DfaValue) (nodes : List ℕ) (labels : List Label) (rows : List (List (Option ℕ))) (finals : List Bool) → IsDfa dfa →
    AreRows (class_graph dfa) 512 0 nodes rows (length nodes) → labels ≡ dfa.labels → length finals ≡ suc (length nodes) → AreFinals dfa nodes finals →
    IsDfa (record { labels = labels; rows = rows; finals = finals })
table_is_dfa dfa nodes labels rows finals valid are same as_many each =
    let less = fewer dfa nodes are.reached are.apart valid.some in
    let width = ap length same in
    record {
      sorted = subst (IsStrictlySortedBy label_cmp) (sym same) valid.sorted;
      few_labels = subst (λ (n : ℕ). n < 2 ^ 32) (sym width) valid.few_labels;
      some = omega (arith, are.as_many);
      few = omega (arith, are.as_many, less, valid.few);
      even = All-from_get_or (λ (row : List (Option ℕ)). length row ≡ length labels) rows []
          (λ state below. (row_of state dfa nodes rows are (omega (arith, below, are.as_many))).even ∙ sym width);
      finals = omega (arith, are.as_many, as_many);
      targets = λ state label target is. let both = rows_target dfa nodes rows are state label target is in (both.0, omega (arith, both.1, are.as_many));
      start = each 0 (omega arith) ∙ valid.start;
    }

pub table_is_quotient : (dfa : DfaValue) (nodes : List ℕ) (labels : List Label) (rows : List (List (Option ℕ))) (finals : List Bool) →
    AreRows (class_graph dfa) 512 0 nodes rows (length nodes) → labels ≡ dfa.labels → AreFinals dfa nodes finals →
    IsQuotient dfa nodes (record { labels = labels; rows = rows; finals = finals })
table_is_quotient dfa nodes labels rows finals are same each = record { labels = same; are = are; finals = each }

-- ---- words

pub words : (dfa least : DfaValue) (nodes : List ℕ) (word : List Label) → IsQuotient dfa nodes least → Accepts least word ↔ Accepts dfa word
words dfa least nodes word is =
    let same = number_accepts word dfa least nodes 0 is (omega arith) in (
      (λ accepts. (accepted_words_pass dfa word).1 (sym same ∙ (accepted_words_pass least word).0 accepts)),
      (λ accepts. (accepted_words_pass least word).1 (same ∙ (accepted_words_pass dfa word).0 accepts)),
    )

class_at : (dfa least : DfaValue) (nodes : List ℕ) (place : ℕ) → IsQuotient dfa nodes least → place < length nodes → IsClass dfa (node_at nodes place)
class_at dfa least nodes place is within =
    reached_is_class dfa 0 (node_at nodes place) (All-get_or (IsReached (class_graph dfa) 0) nodes place 0 within is.are.reached)

reaches_final : (number : ℕ) (dfa least : DfaValue) (nodes : List ℕ) → IsQuotient dfa nodes least → ((word : List Label) × Accepts dfa word) → number < suc (length nodes) → ReachesFinal least number
reaches_final zero dfa least nodes is some below = (some.0, (accepted_words_pass least some.0).0 ((words dfa least nodes some.0 is).1 some.1))
reaches_final (suc place) dfa least nodes is some below =
    let final = (class_at dfa least nodes place is (omega (arith, below))).2 in
    (final.0, number_accepts final.0 dfa least nodes (suc place) is below ∙ final.1)

trim : (dfa least : DfaValue) (nodes : List ℕ) → IsQuotient dfa nodes least → IsDfa least → ((word : List Label) × Accepts dfa word) → IsTrim least
trim dfa least nodes is valid some = record {
  reached = λ state below. reached state dfa least nodes is valid (omega (arith, below, is.are.as_many));
  reaches = λ state below. reaches_final state dfa least nodes is some (omega (arith, below, is.are.as_many));
}

apart_at : (first second : ℕ) (dfa least : DfaValue) (nodes : List ℕ) → IsQuotient dfa nodes least → 0 < first → first < second → second < suc (length nodes) → AreToldApart least first second
apart_at zero second dfa least nodes is above before below = absurd (omega (arith, above))
apart_at (suc first) zero dfa least nodes is above before below = absurd (omega (arith, before))
apart_at (suc first) (suc second) dfa least nodes is above before below =
    let one : first < length nodes = omega (arith, before, below) in
    let two : second < length nodes = omega (arith, below) in
    let told = classes_told dfa (node_at nodes first) (node_at nodes second) (class_at dfa least nodes first is one) (class_at dfa least nodes second is two)
    (is.are.apart first second 0 (omega (arith, before)) two) in (
      told.0,
      λ same. told.1 (
          sym (number_accepts told.0 dfa least nodes (suc first) is (omega (arith, one)))
          ∙ (same ∙ number_accepts told.0 dfa least nodes (suc second) is below)),
    )

apart : (dfa least : DfaValue) (nodes : List ℕ) → IsQuotient dfa nodes least → AreApart least
apart dfa least nodes is first second above before below = apart_at first second dfa least nodes is above before (omega (arith, below, is.are.as_many))

pub quotient_is_least : (dfa least : DfaValue) (nodes : List ℕ) → IsQuotient dfa nodes least → IsDfa least → ((word : List Label) × Accepts dfa word) → IsLeast least
quotient_is_least dfa least nodes is valid some = record {
  trim = trim dfa least nodes is valid some;
  apart = apart dfa least nodes is;
  order = is.are.order;
  valid = valid;
}
