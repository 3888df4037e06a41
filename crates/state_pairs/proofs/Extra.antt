-- Words of labels that the second of two states accepts alone, and words of numbers that lead their pair to a goal.
use Rattle.std.proofs.Common.{◌≡◌, ℕ, ◌<◌, ◌≤◌, true, false, List, [], ◌∷◌, length, map, Option, Some, None, refl, sym, ap, ◌∙◌, ⊎_elim, arith}
use Rattle.std.specs.declared.cmp.Ordering.{Ordering}
use Rattle.std.specs.Cmp.Lexicographic.{slice_cmp}
use Rattle.std.specs.Ordering.{nat_cmp, ordering_then, ordering_reverse}
use Rattle.std.specs.Prelude.{◌↔◌, All, IfSome, IsTrue, unwrap_or, option_map, is_some}
use Rattle.std.proofs.lemmas.Bool.{false≢true, cases_order}
use Rattle.std.proofs.lemmas.Cmp.{tied_itself}
use Rattle.std.proofs.lemmas.List.{length-map}
use Rattle.std.proofs.lemmas.List.Elements.{All-head, All-tail}
use Rattle.std.proofs.lemmas.Map.Keys.{Less-from_sorted}
use Rattle.rpq_base.proofs.Orders.{label_cmp_total}
use Rattle.rpq_base.specs.Order.{label_cmp, word_cmp}
use Rattle.rpq_base.specs.declared.data.Label.{Label}
use Rattle.dfa_table.specs.DfaValue.{DfaValue, IsDfa, label_at, is_final}
use Rattle.dfa_table.specs.Runs.{run_from, walk, accepts_from}
use Rattle.dfa_table.proofs.Runs.{runs_go_by_numbers}
use Rattle.state_pairs.specs.Goals.{level_at, AreLevels, numbers_cmp, IsLeastWord}
use Rattle.state_pairs.specs.PairGraph.{number_of, pair_of, pair_graph}
use Rattle.state_pairs.specs.Pairs.{accepts_at, IsExtraWord, HasExtraWord, IsLeastExtra}
use Rattle.state_pairs.proofs.Least.{cmp_less, cmp_equal, cmp_more}
use Rattle.state_pairs.proofs.Paired.{takes, Tells, both_take, either_takes, to_words, from_words, in_rows}

-- the numbers of a word's labels are below the number of labels
abbrev pub AreLabels : DfaValue → List ℕ → Type 0
AreLabels dfa numbers = All (λ number. number < length dfa.labels) numbers

-- the state that an accepted word leads to
ends : (o : Option ℕ) (dfa : DfaValue) → unwrap_or (option_map (is_final dfa) o) false ≡ true → (target : ℕ) × (o ≡ Some target)
ends None dfa is = absurd (false≢true is)
ends (Some target) dfa is = (target, refl)

-- a word of numbers is taken where that of its labels is accepted
pub spelled : (o : Option ℕ) (dfa : DfaValue) (numbers : List ℕ) → IsDfa dfa → AreLabels dfa numbers → accepts_at dfa o (map (label_at dfa) numbers) ≡ takes dfa numbers o
spelled None dfa numbers valid are = refl
spelled (Some state) dfa numbers valid are =
    ap (λ (o : Option ℕ). unwrap_or (option_map (is_final dfa) o) false) (runs_go_by_numbers.spelled dfa state numbers valid are)

empty_first : (numbers : List ℕ) (dfa : DfaValue) → map (label_at dfa) numbers ≡ [] → numbers ≡ []
empty_first [] dfa is = refl
empty_first (number ∷ numbers) dfa is = cc

pub labels_of_taken : (dfa : DfaValue) (state : ℕ) (numbers : List ℕ) → IsDfa dfa → takes dfa numbers (Some state) ≡ true → AreLabels dfa numbers
labels_of_taken dfa state numbers valid inside =
    let end = ends (walk dfa state numbers) dfa inside in
    runs_go_by_numbers.within dfa state end.0 numbers valid end.1

pub extra_of_tells : (dfa : DfaValue) (first : Option ℕ) (second : ℕ) (numbers : List ℕ) → IsDfa dfa → Tells dfa (number_of dfa first) second numbers →
    IsExtraWord dfa first second (map (label_at dfa) numbers)
extra_of_tells dfa first second numbers valid tells =
    let are = labels_of_taken dfa second numbers valid tells.inside in record {
      inside = spelled (Some second) dfa numbers valid are ∙ tells.inside;
      outside = spelled first dfa numbers valid are ∙ both_take first dfa numbers tells.outside;
      counts = λ start empty. tells.apart (ap (number_of dfa) start) (empty_first numbers dfa empty);
    }

-- the numbers of such a word
abbrev pub HasTelling : DfaValue → Option ℕ → ℕ → List Label → Type 0
HasTelling dfa first second word =
    (numbers : List ℕ) × (map (label_at dfa) numbers ≡ word) × AreLabels dfa numbers × Tells dfa (number_of dfa first) second numbers

is_start : (o : Option ℕ) (dfa : DfaValue) → IsDfa dfa → number_of dfa o ≡ 0 → o ≡ Some 0
is_start None dfa valid is = absurd (omega (arith, is, valid.some))
is_start (Some state) dfa valid is = ap (λ (n : ℕ). Some n) is

pub tells_of_extra : (dfa : DfaValue) (first : Option ℕ) (second : ℕ) (word : List Label) → IsDfa dfa → IsExtraWord dfa first second word → HasTelling dfa first second word
tells_of_extra dfa first second word valid extra =
    let end = ends (run_from dfa second word) dfa extra.inside in
    let has = runs_go_by_numbers.numbered dfa second end.0 word valid end.1 in
    let are = runs_go_by_numbers.within dfa second end.0 has.0 valid has.2 in
    let inside : takes dfa has.0 (Some second) ≡ true = sym (spelled (Some second) dfa has.0 valid are) ∙ (ap (accepts_from dfa second) has.1 ∙ extra.inside) in
    let outside : takes dfa has.0 first ≡ false = sym (spelled first dfa has.0 valid are) ∙ (ap (accepts_at dfa first) has.1 ∙ extra.outside) in (
      has.0,
      has.1,
      are,
      record {
        inside = inside;
        outside = either_takes first dfa has.0 valid outside;
        apart = λ start empty. extra.counts (is_start first dfa valid start) (sym has.1 ∙ ap (map (label_at dfa)) empty);
      },
    )

-- ---- levels of pairs

number_within : (o : Option ℕ) (dfa : DfaValue) → IfSome o (λ state. state < length dfa.rows) → number_of dfa o ≤ length dfa.rows
number_within None dfa within = omega arith
number_within (Some state) dfa within = omega (arith, within)

-- the node of a pair is one of the graph
pub node_within : (dfa : DfaValue) (first : Option ℕ) (second : ℕ) → IfSome first (λ state. state < length dfa.rows) → second < length dfa.rows →
    pair_of dfa (number_of dfa first) second < (pair_graph dfa).node_count
node_within dfa first second within below = in_rows (number_of dfa first) (length dfa.rows) second (number_within first dfa within) below

-- a pair with a level has such a word
extra_of_level : (o : Option ℕ) (dfa : DfaValue) (levels : List (Option ℕ)) (first : Option ℕ) (second : ℕ) → IsDfa dfa → AreLevels (pair_graph dfa) levels → second < length dfa.rows →
    level_at levels (pair_of dfa (number_of dfa first) second) ≡ o → IsTrue (is_some o) → HasExtraWord dfa first second
extra_of_level None dfa levels first second valid are below is some = absurd (false≢true some)
extra_of_level (Some level) dfa levels first second valid are below is some =
    let found = are.short (pair_of dfa (number_of dfa first) second) level is in
    (map (label_at dfa) found.0, extra_of_tells dfa first second found.0 valid (to_words found.0 dfa (number_of dfa first) second valid below found.2))

-- and the other way round
pub level_of_extra : (dfa : DfaValue) (levels : List (Option ℕ)) (first : Option ℕ) (second : ℕ) → IsDfa dfa → AreLevels (pair_graph dfa) levels →
    IfSome first (λ state. state < length dfa.rows) → second < length dfa.rows → HasExtraWord dfa first second →
    (level : ℕ) × (level_at levels (pair_of dfa (number_of dfa first) second) ≡ Some level)
level_of_extra dfa levels first second valid are within below extra =
    let has = tells_of_extra dfa first second extra.0 valid extra.1 in
    let node = pair_of dfa (number_of dfa first) second in
    let level = are.least node has.0 (node_within dfa first second within below) (from_words has.0 dfa (number_of dfa first) second valid below has.3) in
    (level.0, level.1)

pub level_tells : (dfa : DfaValue) (levels : List (Option ℕ)) (first : Option ℕ) (second : ℕ) → IsDfa dfa → AreLevels (pair_graph dfa) levels →
    IfSome first (λ state. state < length dfa.rows) → second < length dfa.rows →
    IsTrue (is_some (level_at levels (pair_of dfa (number_of dfa first) second))) ↔ HasExtraWord dfa first second
level_tells dfa levels first second valid are within below = (
  (λ some. extra_of_level (level_at levels (pair_of dfa (number_of dfa first) second)) dfa levels first second valid are below refl some),
  (λ extra. let level = level_of_extra dfa levels first second valid are within below extra in ap is_some level.1),
)

-- ---- the order of words, by their labels and by their numbers

label_cmp_at : (dfa : DfaValue) (i j : ℕ) → IsDfa dfa → i < length dfa.labels → j < length dfa.labels → label_cmp (label_at dfa i) (label_at dfa j) ≡ nat_cmp i j
label_cmp_at dfa i j valid below within =
    let none : Label = record { name = []; back = false } in
    ⊎_elim
    (λ same. ap (λ (n : ℕ). label_cmp (label_at dfa n) (label_at dfa j)) same ∙ (tied_itself label_cmp_total (label_at dfa j) ∙ sym (cmp_equal (nat_cmp i j) i j refl same)))
    (λ other. ⊎_elim
    (λ before. Less-from_sorted label_cmp dfa.labels i j none valid.sorted before within ∙ sym (cmp_less (nat_cmp i j) i j refl before))
    (λ after.
    label_cmp_total.antisymm (label_at dfa i) (label_at dfa j)
    ∙ (ap ordering_reverse (Less-from_sorted label_cmp dfa.labels j i none valid.sorted after below) ∙ sym (cmp_more (nat_cmp i j) i j refl after)))
    other)
    (cases_order i j)

slice_cmp_at : (one other : List ℕ) (dfa : DfaValue) → IsDfa dfa → AreLabels dfa one → AreLabels dfa other →
    slice_cmp label_cmp (map (label_at dfa) one) (map (label_at dfa) other) ≡ slice_cmp nat_cmp one other
slice_cmp_at [] [] dfa valid are are2 = refl
slice_cmp_at [] (b ∷ other) dfa valid are are2 = refl
slice_cmp_at (a ∷ one) [] dfa valid are are2 = refl
slice_cmp_at (a ∷ one) (b ∷ other) dfa valid are are2 =
    let below : ℕ → Type 0 = λ n. n < length dfa.labels in
    ap (λ (o : Ordering). ordering_then o (slice_cmp label_cmp (map (label_at dfa) one) (map (label_at dfa) other)))
    (label_cmp_at dfa a b valid (All-head below a one are) (All-head below b other are2))
    ∙ ap (ordering_then (nat_cmp a b)) (slice_cmp_at one other dfa valid (All-tail below a one are) (All-tail below b other are2))

-- words compare as their numbers do
pub word_cmp_at : (dfa : DfaValue) (one other : List ℕ) → IsDfa dfa → AreLabels dfa one → AreLabels dfa other →
    word_cmp (map (label_at dfa) one) (map (label_at dfa) other) ≡ numbers_cmp one other
word_cmp_at dfa one other valid are are2 =
    let P : ℕ → ℕ → Ordering = λ n m. ordering_then (nat_cmp n m) (slice_cmp label_cmp (map (label_at dfa) one) (map (label_at dfa) other)) in
    ap (λ (n : ℕ). P n (length (map (label_at dfa) other))) (length-map one (label_at dfa))
    ∙ (ap (P (length one)) (length-map other (label_at dfa))
    ∙ ap (ordering_then (nat_cmp (length one) (length other))) (slice_cmp_at one other dfa valid are are2))

-- ---- the least one

pub least_of_pairs : (dfa : DfaValue) (first : Option ℕ) (second : ℕ) (numbers : List ℕ) → IsDfa dfa → second < length dfa.rows →
    IsLeastWord (pair_graph dfa) (pair_of dfa (number_of dfa first) second) numbers → IsLeastExtra dfa first second numbers
least_of_pairs dfa first second numbers valid below least =
    let tells = to_words numbers dfa (number_of dfa first) second valid below least.reaches in
    let are = labels_of_taken dfa second numbers valid tells.inside in record {
      within = are;
      extra = extra_of_tells dfa first second numbers valid tells;
      least = λ other extra more.
          let has = tells_of_extra dfa first second other valid extra in
          least.least has.0 (from_words has.0 dfa (number_of dfa first) second valid below has.3)
          (sym (word_cmp_at dfa numbers has.0 valid are has.2) ∙ (ap (word_cmp (map (label_at dfa) numbers)) has.1 ∙ more));
    }
