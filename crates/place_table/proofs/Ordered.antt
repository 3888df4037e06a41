-- States of a vertex in their order, each with a number.
use Rattle.std.proofs.Common.{◌≡◌, ◌+◌, ◌-◌, ◌≤◌, ◌<◌, inl, inr, ℕ, zero, suc, ◌∷◌, [], false, cond, List, None, Some, get_or, length, slice_set, refl, sym, ap, subst, ◌∙◌, nat_eq, arith}
use Rattle.std.specs.List.{insert}
use Rattle.std.specs.Map.{lookup}
use Rattle.std.proofs.Math.Nat.{eq-or-lt_of_le}
use Rattle.std.proofs.lemmas.Bool.{cases_lt, eqb-true}
use Rattle.std.proofs.lemmas.List.Edits.{get_or-insert_at, get_or-insert_below, get_or-insert_above, length-insert}
use Rattle.std.proofs.lemmas.Map.{lookup-insert, none_passes_from_lookup}
use Rattle.small_map.proofs.Entries.{by_test}
use Rattle.place_table.specs.Rows.{AreRising, IsSplit, state_in}
use Rattle.place_table.proofs.Entered.{number_laws, number_same}

-- ---- numbers

apart_above : (low high : ℕ) → low < high → nat_eq high low ≡ false
apart_above low high less = by_test (nat_eq high low)
    (λ same. absurd (omega (arith, eqb-true high low same, less)))
    (λ apart. apart)

-- one number is less, the same or greater
by_order : {P : Type 0} (a b : ℕ) → (a < b → P) → (a ≡ b → P) → (b < a → P) → P
by_order a b less same more = elim (cases_lt a b) [
  | inl is ↦ less is
  | inr over ↦ elim (eq-or-lt_of_le over) [
    | inl is ↦ same (sym is)
    | inr is ↦ more is
  ]
]

-- ---- look-ups

before_first : (hint : ℕ × ℕ) (row : List (ℕ × ℕ)) (place state : ℕ) →
    ((each : ℕ) → each < suc place → state_in (hint ∷ row) each < state) →
    (each : ℕ) → each < place → state_in row each < state
before_first hint row place state below each less = below (suc each) (omega (arith, less))

-- what stands at a place before which all states are less
pub lookup_there : (row : List (ℕ × ℕ)) (place state : ℕ) →
    ((each : ℕ) → each < place → state_in row each < state) → place < length row →
    state_in row place ≡ state → lookup (nat_eq state) row ≡ Some (get_or row place (0, 0)).1
lookup_there [] place state below within is = absurd (omega (arith, within))
lookup_there (hint ∷ row) zero state below within is =
    ap (λ b. cond b (Some hint.1) (lookup (nat_eq state) row)) (number_same state hint.0 (sym is))
lookup_there (hint ∷ row) (suc place) state below within is =
    ap (λ b. cond b (Some hint.1) (lookup (nat_eq state) row))
    (apart_above hint.0 state (below zero (omega arith)))
    ∙ lookup_there row place state (before_first hint row place state below)
    (omega (arith, within)) is

-- what stands nowhere
pub lookup_nowhere : (row : List (ℕ × ℕ)) (state : ℕ) →
    ((each : ℕ) → each < length row → state_in row each ≡ state → ⊥) →
    lookup (nat_eq state) row ≡ None
lookup_nowhere [] state never = refl
lookup_nowhere (hint ∷ row) state never =
    ap (λ b. cond b (Some hint.1) (lookup (nat_eq state) row)) (by_test (nat_eq state hint.0)
    (λ same. absurd (never zero (omega arith) (sym (eqb-true state hint.0 same))))
    (λ apart. apart))
    ∙ lookup_nowhere row state
    (λ each within. never (suc each) (omega (arith, within)))

-- with another number
pub lookup_set : (row : List (ℕ × ℕ)) (place state number : ℕ) →
    ((each : ℕ) → each < place → state_in row each < state) → place < length row →
    state_in row place ≡ state → (each : ℕ) →
    lookup (nat_eq each) (slice_set row place (state, number))
    ≡ cond (nat_eq state each) (Some number) (lookup (nat_eq each) row)
lookup_set [] place state number below within is each = absurd (omega (arith, within))
lookup_set (hint ∷ row) zero state number below within is each = by_test (nat_eq state each)
    (λ same. ap (λ b. cond b (Some number) (lookup (nat_eq each) row))
    (number_same each state (sym (eqb-true state each same)))
    ∙ sym (ap (λ b. cond b (Some number) (lookup (nat_eq each) (hint ∷ row))) same))
    (λ apart. ap (λ b. cond b (Some number) (lookup (nat_eq each) row)) (other apart)
    ∙ sym (ap (λ b. cond b (Some number) (lookup (nat_eq each) (hint ∷ row))) apart
    ∙ ap (λ b. cond b (Some hint.1) (lookup (nat_eq each) row))
    (ap (nat_eq each) is ∙ other apart)))
  where
    other : nat_eq state each ≡ false → nat_eq each state ≡ false
    other apart = number_laws.symm each state ∙ apart
lookup_set (hint ∷ row) (suc place) state number below within is each =
    by_test (nat_eq each hint.0)
    (λ same. ap (λ b. cond b (Some hint.1) (lookup (nat_eq each) (slice_set row place (state, number))))
    same
    ∙ sym (ap (λ b. cond b (Some number) (lookup (nat_eq each) (hint ∷ row)))
    (ap (nat_eq state) (eqb-true each hint.0 same)
    ∙ apart_above hint.0 state (below zero (omega arith)))
    ∙ ap (λ b. cond b (Some hint.1) (lookup (nat_eq each) row)) same))
    (λ apart. ap (λ b. cond b (Some hint.1)
    (lookup (nat_eq each) (slice_set row place (state, number)))) apart
    ∙ lookup_set row place state number (before_first hint row place state below)
    (omega (arith, within)) is each
    ∙ sym (ap (λ b. cond (nat_eq state each) (Some number)
    (cond b (Some hint.1) (lookup (nat_eq each) row))) apart))

-- ---- the order

-- the states stay where a number changes
state_set : (row : List (ℕ × ℕ)) (place : ℕ) (hint : ℕ × ℕ) → place < length row →
    state_in row place ≡ hint.0 → (each : ℕ) →
    state_in (slice_set row place hint) each ≡ state_in row each
state_set [] place hint within is each = absurd (omega (arith, within))
state_set (first ∷ row) zero hint within is zero = sym is
state_set (first ∷ row) zero hint within is (suc each) = refl
state_set (first ∷ row) (suc place) hint within is zero = refl
state_set (first ∷ row) (suc place) hint within is (suc each) =
    state_set row place hint (omega (arith, within)) is each

length_set : (row : List (ℕ × ℕ)) (place : ℕ) (hint : ℕ × ℕ) →
    length (slice_set row place hint) ≡ length row
length_set [] place hint = refl
length_set (first ∷ row) zero hint = refl
length_set (first ∷ row) (suc place) hint = ap (λ n. suc n) (length_set row place hint)

pub rising_set : (row : List (ℕ × ℕ)) (place : ℕ) (hint : ℕ × ℕ) → AreRising row →
    place < length row → state_in row place ≡ hint.0 → AreRising (slice_set row place hint)
rising_set row place hint rising within is low high less inside =
    omega (
      arith,
      state_set row place hint within is low,
      state_set row place hint within is high,
      rising low high less (omega (arith, length_set row place hint, inside)),
    )

-- where the states are split at another place
pub below_more : (row : List (ℕ × ℕ)) (state middle : ℕ) → AreRising row → middle < length row →
    state_in row middle < state → (each : ℕ) → each < middle + 1 → state_in row each < state
below_more row state middle rising within less each before = by_order each middle
    (λ is. omega (arith, rising each middle is within, less))
    (λ is. subst (λ n. state_in row n < state) (sym is) less)
    (λ is. absurd (omega (arith, is, before)))

pub rest_more : (row : List (ℕ × ℕ)) (state middle : ℕ) → AreRising row →
    state ≤ state_in row middle → (each : ℕ) → middle ≤ each → each < length row →
    state ≤ state_in row each
rest_more row state middle rising more each from within = by_order middle each
    (λ is. omega (arith, rising middle each is within, more))
    (λ is. subst (λ n. state ≤ state_in row n) is more)
    (λ is. absurd (omega (arith, is, from)))

-- a state that isn't there comes where those before it are less
module _ (row : List (ℕ × ℕ)) (state place : ℕ) (rising : AreRising row)
    (split : IsSplit row state place)
    (apart : (place < length row) × (state_in row place ≡ state) → ⊥) where
  after_is_more : (each : ℕ) → place ≤ each → each < length row → state < state_in row each
  after_is_more each from within =
      by_order state (state_in row each)
      (λ less. less)
      (λ same. absurd (by_order place each
      (λ past. omega (
        arith,
        rising place each past within,
        same,
        split.rest place (omega arith) (omega (arith, past, within)),
      ))
      (λ at. apart (omega (arith, at, within), ap (state_in row) at ∙ sym same))
      (λ before. omega (arith, before, from))))
      (λ more. absurd (omega (arith, more, split.rest each from within)))

  pub stands_nowhere : (each : ℕ) → each < length row → state_in row each ≡ state → ⊥
  stands_nowhere each within is = elim (cases_lt each place) [
    | inl before ↦ omega (arith, split.below each before, is)
    | inr from ↦ omega (arith, after_is_more each from within, is)
  ]

  pub not_noted : lookup (nat_eq state) row ≡ None
  not_noted = lookup_nowhere row state stands_nowhere

  module _ (number : ℕ) where
    abbrev more : List (ℕ × ℕ)
    more = insert row place (state, number)

    pub lookup_more : (each : ℕ) → lookup (nat_eq each) more
        ≡ cond (nat_eq state each) (Some number) (lookup (nat_eq each) row)
    lookup_more each =
        lookup-insert number_laws state number each row place
        (none_passes_from_lookup (nat_eq state) row not_noted)

    more_below : (each : ℕ) → each < place → state_in more each ≡ state_in row each
    more_below each less =
        ap (λ (hint : ℕ × ℕ). hint.0)
        (get_or-insert_below row place (state, number) (0, 0) each less split.within)

    more_at : (each : ℕ) → each ≡ place → state_in more each ≡ state
    more_at each is =
        ap (state_in more) is
        ∙ ap (λ (hint : ℕ × ℕ). hint.0)
        (get_or-insert_at row place (state, number) (0, 0) split.within)

    more_above : (each : ℕ) → place < each → state_in more each ≡ state_in row (each - 1)
    more_above each past =
        let next : (each - 1) + 1 ≡ each = omega (arith, past) in
        ap (state_in more) (sym next)
        ∙ ap (λ (hint : ℕ × ℕ). hint.0)
        (get_or-insert_above row place (state, number) (0, 0) (each - 1) (omega (arith, past))
        split.within)

    pub rising_more : AreRising more
    rising_more low high less inside = by_order low place before at after
      where
        within : high < length row + 1
        within = omega (arith, inside, length-insert row place (state, number) split.within)

        before : low < place → state_in more low < state_in more high
        before is = by_order high place
            (λ so. omega (
              arith,
              more_below low is,
              more_below high so,
              rising low high less (omega (arith, so, split.within)),
            ))
            (λ so. omega (arith, more_below low is, more_at high so, split.below low is))
            (λ so. omega (
              arith,
              more_below low is,
              more_above high so,
              rising low (high - 1) (omega (arith, is, so)) (omega (arith, within, so)),
            ))

        at : low ≡ place → state_in more low < state_in more high
        at is =
            let so : place < high = omega (arith, is, less) in
            omega (
              arith,
              more_at low is,
              more_above high so,
              after_is_more (high - 1) (omega (arith, so)) (omega (arith, within, so)),
            )

        after : place < low → state_in more low < state_in more high
        after is =
            let so : place < high = omega (arith, is, less) in
            omega (
              arith,
              more_above low is,
              more_above high so,
              rising (low - 1) (high - 1) (omega (arith, is, less)) (omega (arith, within, so)),
            )
