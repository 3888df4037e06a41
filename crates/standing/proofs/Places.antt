-- Places in two lists, each once.
use Rattle.std.proofs.Common.{◌≡◌, ℕ, zero, suc, ◌+◌, ◌<◌, ◌≤◌, cond, List, [], ◌∷◌, ◌++◌, slice_index, refl, ap, ◌∙◌, ◌==◌, inl, inr, arith, append-nil, subst, zero-add}
use Rattle.std.specs.List.{AllByRecursion, range_with_len}
use Rattle.std.specs.List.Sorted.{IsStrictlyIncreasing}
use Rattle.std.proofs.lemmas.Bool.{cases_eq, cases_lt, lt-ltb, le-ltb, eq-eqb, ne_eqb}
use Rattle.std.proofs.lemmas.List.Elements.{All-from_get_or, recursion_from_All}
use Rattle.std.proofs.lemmas.List.Kept.{AllPairs-from_increasing}
use Rattle.std.proofs.lemmas.List.Sums.{sum_by-cons, sum_by-append}
use Rattle.standing.specs.Stood.{times, AreApart}

-- each place is below those behind it
unfoldable pub Rises : List ℕ → Type 0
Rises [] = Unit {0}
Rises (place ∷ places) = AllByRecursion (λ each. place < each) places × Rises places

-- ---- rising

pub rises_from_increasing : (places : List ℕ) → IsStrictlyIncreasing places → Rises places
unfolding Rises
rises_from_increasing [] increasing = tt
rises_from_increasing (place ∷ places) increasing =
    let pairs = AllPairs-from_increasing (place ∷ places) increasing in (
      recursion_from_All (λ (each : ℕ). place < each) places
          (All-from_get_or (λ (each : ℕ). place < each) places 0 (λ index below. pairs 0 (suc index) 0 (omega arith) (omega (arith, below)))),
      rises_from_increasing places (λ index below. subst (λ (next : ℕ). slice_index places index < slice_index (place ∷ places) next) {x = suc index + 1} {y = suc (index + 1)} (omega arith)
          (increasing (suc index) (omega (arith, below)))),
    )

pub increasing_from_rises : (places : List ℕ) → Rises places → IsStrictlyIncreasing places
unfolding Rises
increasing_from_rises [] rises index below = absurd (omega (arith, below))
increasing_from_rises (place ∷ []) rises index below = absurd (omega (arith, below))
increasing_from_rises (place ∷ next ∷ rest) rises zero below = rises.0.0
increasing_from_rises (place ∷ next ∷ rest) rises (suc index) below =
    subst (λ (at : ℕ). slice_index (next ∷ rest) index < slice_index (place ∷ next ∷ rest) at) {x = suc (index + 1)} {y = suc index + 1} (omega arith)
    (increasing_from_rises (next ∷ rest) rises.1 index (omega (arith, below)))

-- ---- how often a place stands

pub times-cons : (place first : ℕ) (rest : List ℕ) → times place (first ∷ rest) ≡ cond (first == place) 1 0 + times place rest
times-cons place first rest = sum_by-cons (λ (each : ℕ). cond (each == place) 1 0) first rest

pub times-append : (place : ℕ) (places more : List ℕ) → times place (places ++ more) ≡ times place places + times place more
times-append place places more = sum_by-append (λ (each : ℕ). cond (each == place) 1 0) places more

-- ---- all places

all_above : (place from count : ℕ) → place < from → AllByRecursion (λ each. place < each) (range_with_len from count)
all_above place from zero below = tt
all_above place from (suc count) below = (below, all_above place (from + 1) count (omega (arith, below)))

-- a place stands once in those from one to another, if it is one of them
none_before : (place from count : ℕ) → place < from → times place (range_with_len from count) ≡ 0
none_before place from zero below = refl
none_before place from (suc count) below =
    times-cons place from (range_with_len (from + 1) count)
    ∙ rw (ne_eqb from place (λ same. absurd (omega (arith, below, same)))) (zero-add (times place (range_with_len (from + 1) count)) ∙ none_before place (from + 1) count (omega (arith, below)))

none_past : (place from count : ℕ) → from + count ≤ place → times place (range_with_len from count) ≡ 0
none_past place from zero past = refl
none_past place from (suc count) past =
    times-cons place from (range_with_len (from + 1) count)
    ∙ rw (ne_eqb from place (λ same. absurd (omega (arith, past, same)))) (zero-add (times place (range_with_len (from + 1) count)) ∙ none_past place (from + 1) count (omega (arith, past)))

once_within : (place from count : ℕ) → from ≤ place → place < from + count → times place (range_with_len from count) ≡ 1
once_within place from zero above below = absurd (omega (arith, above, below))
once_within place from (suc count) above below =
    times-cons place from (range_with_len (from + 1) count) ∙ elim (cases_eq from place) [
      | inl same ↦ rw (eq-eqb from place same) (ap (λ (more : ℕ). 1 + more) (none_before place (from + 1) count (omega (arith, same))))
      | inr other ↦ rw (ne_eqb from place other) (zero-add (times place (range_with_len (from + 1) count)) ∙ once_within place (from + 1) count (omega (arith, above, other)) (omega (arith, below)))
    ]

all_rise : (from count : ℕ) → Rises (range_with_len from count)
unfolding Rises
all_rise from zero = tt
all_rise from (suc count) = (all_above from (from + 1) count (omega arith), all_rise (from + 1) count)

pub all_apart : (count : ℕ) → AreApart count (range_with_len 0 count) []
all_apart count = record {
  rising = increasing_from_rises (range_with_len 0 count) (all_rise 0 count);
  once = λ place. ap (times place) (append-nil (range_with_len 0 count)) ∙ elim (cases_lt place count) [
    | inl below ↦ rw (lt-ltb place count below) (once_within place 0 count (omega arith) (omega (arith, below)))
    | inr past ↦ rw (le-ltb place count past) (none_past place 0 count (omega (arith, past)))
  ];
}
