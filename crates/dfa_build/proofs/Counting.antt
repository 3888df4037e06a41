-- The number of sets that words reach.
use Rattle.std.proofs.Common.{◌≡◌, ◌≢◌, ℕ, zero, suc, ◌+◌, ◌-◌, ◌<◌, List, [], ◌∷◌, length, get_or, map, Option, refl, sym, ap, ◌∙◌, subst, eqb, arith}
use Rattle.std.specs.Prelude.{All, unwrap_or}
use Rattle.std.specs.List.{AllPairs, Any, IsDistinct}
use Rattle.std.proofs.lemmas.Bool.{eqb-true, ne_eqb}
use Rattle.std.proofs.lemmas.List.{get_or-map, get_or_default, length-map}
use Rattle.std.proofs.lemmas.List.Elements.{All-head, All-tail, All-get_or, All-from_get_or, All-contains}
use Rattle.std.proofs.lemmas.Map.Keys.{IsDistinct-from_apart}
use Rattle.std.proofs.lemmas.Map.Steps.{length-le_from_distinct_below}
use Rattle.std.proofs.lemmas.Map.Views.{Contains-from_any}
use Rattle.rpq_base.specs.declared.data.Label.{Label}
use Rattle.dfa_table.specs.DfaValue.{DfaValue}
use Rattle.dfa_table.specs.Runs.{run_from}
use Rattle.dfa_build.specs.declared.position_set.PositionSet.{PositionSet}
use Rattle.dfa_build.specs.Positions.{PositionsValue}
use Rattle.dfa_build.specs.StateSets.{set_at, IsFound, HasTooMany}
use Rattle.dfa_build.specs.Subset.{ReachesSome, ReachSame, ReachApart, ReachAll, HasManySets}
use Rattle.dfa_build.proofs.ReachedWords.{empty_reaches_nothing}
use Rattle.dfa_build.proofs.Moves.{AreMoves, IsSetOf, HasWord, found_has_word}
use Rattle.dfa_build.proofs.Runs.{IsSubsetDfa}
use Rattle.dfa_build.proofs.Theorem.{state_of_word, set_has_word, equal_sets}

-- ---- words of sets

-- the word reaches the set, which has a member
pub record IsWordOf (positions : PositionsValue) (word : List Label) (set : PositionSet) : Type 0 where
  pub is : IsSetOf positions word set
  pub some : ReachesSome positions word

-- one word for each of the sets
pub record AreWordsOf (positions : PositionsValue) (words : List (List Label)) (sets : List PositionSet) : Type 0 where
  pub as_many : length words ≡ length sets
  pub each : (place : ℕ) → place < length sets → IsWordOf positions (get_or words place []) (set_at sets place)

one_word_more : (place : ℕ) (positions : PositionsValue) (word : List Label) (words : List (List Label)) (set : PositionSet) (sets : List PositionSet) → IsWordOf positions word set →
    AreWordsOf positions words sets → place < length (set ∷ sets) → IsWordOf positions (get_or (word ∷ words) place []) (set_at (set ∷ sets) place)
one_word_more zero positions word words set sets here are below = here
one_word_more (suc place) positions word words set sets here are below = are.each place (omega arith)

words_of : (sets : List PositionSet) (positions : PositionsValue) → All (HasWord positions) sets →
    (words : List (List Label)) × AreWordsOf positions words sets
words_of [] positions have = ([], record { as_many = refl; each = λ place below. absurd (omega arith) })
words_of (set ∷ sets) positions have =
    let here = All-head (HasWord positions) set sets have in
    let further = words_of sets positions (All-tail (HasWord positions) set sets have) in
    let word : IsWordOf positions (here.label ∷ here.word) set = record { is = here.is; some = (here.some.0, (here.is here.some.0).0 here.some.1) } in (
      (here.label ∷ here.word) ∷ further.0,
      record {
        as_many = ap (λ (n : ℕ). suc n) further.1.as_many;
        each = λ place below. one_word_more place positions (here.label ∷ here.word) further.0 set sets word further.1 below;
      },
    )

-- words of distinct sets reach sets that are apart
reach_apart : (positions : PositionsValue) (words : List (List Label)) (sets : List PositionSet) → AreWordsOf positions words sets →
    AllPairs ◌≢◌ sets → ReachApart positions words
reach_apart positions words sets are apart = record {
  some = All-from_get_or (ReachesSome positions) words [] (λ place below. (are.each place (omega (arith, below, are.as_many))).some);
  apart = λ i j d before below same.
      let within : j < length sets = omega (arith, below, are.as_many) in
      let first : get_or words i d ≡ get_or words i [] = get_or_default words i d [] (omega arith) in
      let second : get_or words j d ≡ get_or words j [] = get_or_default words j d [] below in
      let P : List Label → Type 0 = λ word. ReachSame positions word (get_or words j d) in
      let Q : List Label → Type 0 = λ word. ReachSame positions (get_or words i []) word in
      apart i j (record { bits = 0 }) before within
      (equal_sets positions (get_or words i []) (get_or words j []) (set_at sets i) (set_at sets j) (are.each i (omega arith)).is (are.each j within).is (subst Q second (subst P first same)));
}

-- more than 512 found sets are more than 512 sets that words reach
pub many_sets : (positions : PositionsValue) (labels : List Label) (first last : PositionSet) (follow masks : List PositionSet) →
    AreMoves positions labels first last follow masks →
    HasTooMany follow masks first → HasManySets positions
many_sets positions labels first last follow masks moves many =
    let none : PositionSet = record { bits = 0 } in
    let have : All (HasWord positions) many.sets =
    All-from_get_or (HasWord positions) many.sets none (λ place below.
    found_has_word positions labels first last follow masks moves (set_at many.sets place) (All-get_or (IsFound follow masks first) many.sets place none below many.found)) in
    let words = words_of many.sets positions have in
    (words.0, reach_apart positions words.0 many.sets words.1 many.apart, words.1.as_many ∙ many.many)

-- words that reach one set reach the same
same_reach : (positions : PositionsValue) (first second : List Label) (set : PositionSet) → IsSetOf positions first set →
    IsSetOf positions second set → ReachSame positions first second
same_reach positions first second set is_first is_second position = (
  (λ reaches. (is_second position).0 ((is_first position).1 reaches)),
  (λ reaches. (is_first position).0 ((is_second position).1 reaches)),
)

one_of_words : (word : List Label) (positions : PositionsValue) (first last : PositionSet) (follow masks sets : List PositionSet) (dfa : DfaValue) → IsSubsetDfa positions first last follow masks sets dfa →
    (words : List (List Label)) → AreWordsOf positions words sets → ReachesSome positions word → Any (ReachSame positions word) words
one_of_words [] positions first last follow masks sets dfa is words are some = absurd (empty_reaches_nothing positions some.0 is.moves.are some.1)
one_of_words (label ∷ word) positions first last follow masks sets dfa is words are some =
    let state = state_of_word positions first last follow masks sets dfa is label word some in
    let below : state.place < length words = omega (arith, state.within, are.as_many) in
    let other = get_or words state.place [] in (
      state.place,
      other,
      below,
      get_or_default words state.place other [] below,
      same_reach positions (label ∷ word) other (set_at sets state.place) state.is (are.each state.place state.within).is,
    )

-- there are as many states as sets that words reach, and the start
pub all_sets : (positions : PositionsValue) (first last : PositionSet) (follow masks sets : List PositionSet) (dfa : DfaValue) →
    IsSubsetDfa positions first last follow masks sets dfa →
    (words : List (List Label)) × ReachAll positions words × (length dfa.rows ≡ length words + 1)
all_sets positions first last follow masks sets dfa is =
    let have : All (HasWord positions) sets = All-from_get_or (HasWord positions) sets (record { bits = 0 }) (set_has_word positions first last follow masks sets dfa is) in
    let words = words_of sets positions have in (
      words.0,
      record {
        apart = reach_apart positions words.0 sets words.1 is.rows.apart;
        all = λ word some. one_of_words word positions first last follow masks sets dfa is words.0 words.1 some;
      },
      omega (arith, is.rows.as_many, words.1.as_many),
    )

-- ---- no more sets than states

-- the place of the set of the state that a word leads to
place_of_word : DfaValue → List Label → ℕ
place_of_word dfa word = unwrap_or (run_from dfa 0 word) 0 - 1

-- a word that reaches something has a place
record HasPlace (positions : PositionsValue) (sets : List PositionSet) (dfa : DfaValue) (word : List Label) : Type 0 where
  within : place_of_word dfa word < length sets
  is : IsSetOf positions word (set_at sets (place_of_word dfa word))

has_place : (word : List Label) (positions : PositionsValue) (first last : PositionSet) (follow masks sets : List PositionSet) (dfa : DfaValue) → IsSubsetDfa positions first last follow masks sets dfa →
    ReachesSome positions word → HasPlace positions sets dfa word
unfolding place_of_word
has_place [] positions first last follow masks sets dfa is some = absurd (empty_reaches_nothing positions some.0 is.moves.are some.1)
has_place (label ∷ word) positions first last follow masks sets dfa is some =
    let state = state_of_word positions first last follow masks sets dfa is label word some in
    let same : unwrap_or (run_from dfa 0 (label ∷ word)) 0 - 1 ≡ state.place = ap (λ (o : Option ℕ). unwrap_or o 0 - 1) state.leads ∙ omega arith in
    record {
      within = subst (λ (n : ℕ). n < length sets) (sym same) state.within;
      is = subst (λ (n : ℕ). IsSetOf positions (label ∷ word) (set_at sets n)) (sym same) state.is;
    }

-- where there is the automaton, there aren't more than 512 sets
pub few_sets : (positions : PositionsValue) (first last : PositionSet) (follow masks sets : List PositionSet) (dfa : DfaValue) →
    IsSubsetDfa positions first last follow masks sets dfa → HasManySets positions → ⊥
few_sets positions first last follow masks sets dfa is many =
    let words = many.0 in
    let places = map (place_of_word dfa) words in
    let place_at : (i d : ℕ) → i < length words → get_or places i d ≡ place_of_word dfa (get_or words i []) = λ i d below. get_or-map (place_of_word dfa) words i [] d below in
    let has : (i : ℕ) → i < length words → HasPlace positions sets dfa (get_or words i []) = λ i below.
    has_place (get_or words i []) positions first last follow masks sets dfa is (All-get_or (ReachesSome positions) words i [] below many.1.some) in
    let as_many : length places ≡ length words = length-map words (place_of_word dfa) in
    let distinct : IsDistinct eqb places = IsDistinct-from_apart eqb places (λ i j d before below.
    let within : j < length words = omega arith in
    let earlier : i < length words = omega arith in
    ne_eqb (get_or places i d) (get_or places j d) (λ same.
    let one : place_of_word dfa (get_or words i []) ≡ place_of_word dfa (get_or words j []) = sym (place_at i d earlier) ∙ (same ∙ place_at j d within) in
    many.1.apart i j [] before within
    (same_reach positions (get_or words i []) (get_or words j []) (set_at sets (place_of_word dfa (get_or words i []))) (has i earlier).is
    (subst (λ (n : ℕ). IsSetOf positions (get_or words j []) (set_at sets n)) (sym one) (has j within).is)))) in
    let few : All (λ (n : ℕ). n < 512) places = All-from_get_or (λ (n : ℕ). n < 512) places 0 (λ i below.
    let within : i < length words = omega arith in
    subst (λ (n : ℕ). n < 512) (sym (place_at i 0 within)) (omega (arith, (has i within).within, is.rows.few))) in
    let most = length-le_from_distinct_below places 512 distinct (λ q member. All-contains (λ (n : ℕ). n < 512) places q few (Contains-from_any (λ x y e. eqb-true x y e) q places member)) in
    absurd (omega (arith, most, as_many, many.2))
