-- What the automaton of the sets is: its words, and its states.
use Rattle.std.proofs.Common.{◌≡◌, ◌≢◌, ℕ, zero, suc, ◌<◌, List, [], ◌∷◌, length, Option, Some, None, refl, sym, ap, ◌∙◌, subst, ⊎_elim, arith}
use Rattle.std.specs.Prelude.{◌↔◌, IsTrue, IsSome, Contains, is_some}
use Rattle.std.specs.List.{AllPairs}
use Rattle.std.proofs.lemmas.Bool.{false≢true, cases_order}
use Rattle.std.proofs.lemmas.List.Elements.{All-get_or}
use Rattle.std.proofs.lemmas.Option.{same_Some}
use Rattle.rpq_base.proofs.Equality.{same_tests}
use Rattle.rpq_base.specs.declared.data.Label.{Label}
use Rattle.dfa_table.specs.DfaValue.{DfaValue, is_final}
use Rattle.dfa_table.specs.Runs.{run_from, Accepts, IsReached}
use Rattle.dfa_build.specs.declared.position_set.PositionSet.{PositionSet}
use Rattle.dfa_build.specs.PositionSet.{has}
use Rattle.dfa_build.specs.Positions.{PositionsValue, end_of, IsTrace, spells, AcceptsByPositions}
use Rattle.dfa_build.specs.StateSets.{set_at, IsFound}
use Rattle.dfa_build.specs.Subset.{Reaches, ReachesSome, ReachSame, HasStatePerSet}
use Rattle.dfa_build.proofs.SetMembers.{same_set}
use Rattle.dfa_build.proofs.ReachedWords.{empty_reaches_nothing}
use Rattle.dfa_build.proofs.Moves.{IsSetOf, HasWord, found_has_word}
use Rattle.dfa_build.proofs.Runs.{IsSubsetDfa, IsStateOf, StepFits, run_fits}

-- ---- states of words

-- the state of a word that reaches something
pub record HasState (positions : PositionsValue) (sets : List PositionSet) (word : List Label) (run : Option ℕ) : Type 0 where
  pub place : ℕ
  pub leads : run ≡ Some (suc place)
  pub within : place < length sets
  pub is : IsSetOf positions word (set_at sets place)

has_state : (run : Option ℕ) (positions : PositionsValue) (sets : List PositionSet) (label : Label) (word : List Label) →
    StepFits positions sets (label ∷ word) run →
    ReachesSome positions (label ∷ word) → HasState positions sets (label ∷ word) run
has_state None positions sets label word fits some = absurd (fits some)
has_state (Some zero) positions sets label word fits some = absurd fits
has_state (Some (suc place)) positions sets label word fits some = record { place = place; leads = refl; within = fits.0; is = fits.1 }

-- the automaton leads a nonempty word to its state
pub word_fits : (positions : PositionsValue) (first last : PositionSet) (follow masks sets : List PositionSet) (dfa : DfaValue) →
    IsSubsetDfa positions first last follow masks sets dfa →
    (label : Label) (word : List Label) → StepFits positions sets (label ∷ word) (run_from dfa 0 (label ∷ word))
word_fits positions first last follow masks sets dfa is label word = run_fits (label ∷ word) positions first last follow masks sets dfa is 0 [] tt

pub state_of_word : (positions : PositionsValue) (first last : PositionSet) (follow masks sets : List PositionSet) (dfa : DfaValue) →
    IsSubsetDfa positions first last follow masks sets dfa →
    (label : Label) (word : List Label) → ReachesSome positions (label ∷ word) → HasState positions sets (label ∷ word) (run_from dfa 0 (label ∷ word))
state_of_word positions first last follow masks sets dfa is label word some =
    has_state (run_from dfa 0 (label ∷ word)) positions sets label word (word_fits positions first last follow masks sets dfa is label word) some

-- the state that a nonempty word leads to
led_state : (positions : PositionsValue) (first last : PositionSet) (follow masks sets : List PositionSet) (dfa : DfaValue) →
    IsSubsetDfa positions first last follow masks sets dfa →
    (label : Label) (word : List Label) (state : ℕ) → run_from dfa 0 (label ∷ word) ≡ Some state → IsStateOf positions sets state (label ∷ word)
led_state positions first last follow masks sets dfa is label word state leads =
    subst (StepFits positions sets (label ∷ word)) leads (word_fits positions first last follow masks sets dfa is label word)

-- a set that was found has a word
pub set_has_word : (positions : PositionsValue) (first last : PositionSet) (follow masks sets : List PositionSet) (dfa : DfaValue) →
    IsSubsetDfa positions first last follow masks sets dfa →
    (place : ℕ) → place < length sets → HasWord positions (set_at sets place)
set_has_word positions first last follow masks sets dfa is place below =
    found_has_word positions dfa.labels first last follow masks is.moves (set_at sets place)
    (All-get_or (IsFound follow masks first) sets place (record { bits = 0 }) below is.rows.found)

-- ---- accepted words

accepted_state : (state : ℕ) (positions : PositionsValue) (first last : PositionSet) (follow masks sets : List PositionSet) (dfa : DfaValue) → IsSubsetDfa positions first last follow masks sets dfa →
    (label : Label) (word : List Label) → IsStateOf positions sets state (label ∷ word) → IsTrue (is_final dfa state) →
    AcceptsByPositions positions (label ∷ word)
accepted_state zero positions first last follow masks sets dfa is label word state_of final = absurd state_of
accepted_state (suc place) positions first last follow masks sets dfa is label word state_of final =
    let shared = (is.finals place state_of.0).0 final in
    let reaches = (state_of.1 shared.0).0 shared.1 in
    let ends : Contains positions.last shared.0 = (is.moves.sets.ends shared.0).0 shared.2 in
    (reaches.first ∷ reaches.rest, (reaches.front, subst (Contains positions.last) (sym reaches.ends) ends), reaches.spelled)

accepts_to : (word : List Label) (positions : PositionsValue) (first last : PositionSet) (follow masks sets : List PositionSet) (dfa : DfaValue) → IsSubsetDfa positions first last follow masks sets dfa →
    Accepts dfa word → AcceptsByPositions positions word
accepts_to [] positions first last follow masks sets dfa is accepts =
    let start = same_Some 0 accepts.0 accepts.1 in
    absurd (false≢true (sym is.start ∙ (ap (is_final dfa) start ∙ accepts.2)))
accepts_to (label ∷ word) positions first last follow masks sets dfa is accepts =
    accepted_state accepts.0 positions first last follow masks sets dfa is label word
    (led_state positions first last follow masks sets dfa is label word accepts.0 accepts.1) accepts.2

accepts_trace : (word : List Label) (positions : PositionsValue) (first last : PositionSet) (follow masks sets : List PositionSet) (dfa : DfaValue) → IsSubsetDfa positions first last follow masks sets dfa →
    (position : ℕ) → Reaches positions word position → Contains positions.last position → Accepts dfa word
accepts_trace [] positions first last follow masks sets dfa is position reaches ends = absurd (empty_reaches_nothing positions position is.moves.are reaches)
accepts_trace (label ∷ word) positions first last follow masks sets dfa is position reaches ends =
    let state = state_of_word positions first last follow masks sets dfa is label word (position, reaches) in
    (suc state.place, state.leads, (is.finals state.place state.within).1 (position, (state.is position).1 reaches, (is.moves.sets.ends position).1 ends))

accepts_from : (trace : List ℕ) (word : List Label) (positions : PositionsValue) (first last : PositionSet) (follow masks sets : List PositionSet) (dfa : DfaValue) → IsSubsetDfa positions first last follow masks sets dfa →
    IsTrace positions trace → word ≡ spells positions trace → Accepts dfa word
accepts_from [] word positions first last follow masks sets dfa is is_trace spelled = absurd is_trace
accepts_from (begin ∷ rest) word positions first last follow masks sets dfa is is_trace spelled =
    accepts_trace word positions first last follow masks sets dfa is (end_of begin rest)
    (record { first = begin; rest = rest; front = is_trace.0; ends = refl; spelled = spelled }) is_trace.1

-- the automaton accepts the words that the position automaton accepts
pub accepts_same : (positions : PositionsValue) (first last : PositionSet) (follow masks sets : List PositionSet) (dfa : DfaValue) →
    IsSubsetDfa positions first last follow masks sets dfa →
    (word : List Label) → Accepts dfa word ↔ AcceptsByPositions positions word
accepts_same positions first last follow masks sets dfa is word = (
  (λ accepts. accepts_to word positions first last follow masks sets dfa is accepts),
  (λ accepts. accepts_from accepts.0 word positions first last follow masks sets dfa is accepts.1 accepts.2),
)

-- ---- states and sets

-- places with sets that are equal are one
pub one_place : (sets : List PositionSet) (a b : ℕ) → AllPairs ◌≢◌ sets → a < length sets → b < length sets → set_at sets a ≡ set_at sets b → a ≡ b
one_place sets a b apart below_a below_b same = ⊎_elim
    (λ equal. equal)
    (λ other. ⊎_elim
    (λ before. absurd (apart a b (record { bits = 0 }) before below_b same))
    (λ after. absurd (apart b a (record { bits = 0 }) after below_a (sym same)))
    other)
    (cases_order a b)

-- sets of words that reach the same are equal
pub equal_sets : (positions : PositionsValue) (first second : List Label) (a b : PositionSet) → IsSetOf positions first a →
    IsSetOf positions second b → ReachSame positions first second → a ≡ b
equal_sets positions first second a b is_a is_b same =
    same_set a b (λ p. same_tests (has a p) (has b p) (
      (λ member. (is_b p).1 ((same p).0 ((is_a p).0 member))),
      (λ member. (is_a p).1 ((same p).1 ((is_b p).0 member))),
    ))

-- a word that leads to a state reaches something
led_reaches : (state : ℕ) (positions : PositionsValue) (first last : PositionSet) (follow masks sets : List PositionSet) (dfa : DfaValue) →
    IsSubsetDfa positions first last follow masks sets dfa →
    (label : Label) (word : List Label) → IsStateOf positions sets state (label ∷ word) → ReachesSome positions (label ∷ word)
led_reaches zero positions first last follow masks sets dfa is label word state_of = absurd state_of
led_reaches (suc place) positions first last follow masks sets dfa is label word state_of =
    let some = (set_has_word positions first last follow masks sets dfa is place state_of.0).some in
    (some.0, (state_of.1 some.0).0 some.1)

led_somewhere : (found : Option ℕ) → IsSome found → (state : ℕ) × (found ≡ Some state)
led_somewhere None some = absurd (false≢true some)
led_somewhere (Some state) some = (state, refl)

leads_iff : (word : List Label) (positions : PositionsValue) (first last : PositionSet) (follow masks sets : List PositionSet) (dfa : DfaValue) → IsSubsetDfa positions first last follow masks sets dfa →
    word ≢ [] → IsSome (run_from dfa 0 word) ↔ ReachesSome positions word
leads_iff [] positions first last follow masks sets dfa is nonempty = absurd (nonempty refl)
leads_iff (label ∷ word) positions first last follow masks sets dfa is nonempty = (
  (λ somewhere.
      let leads = led_somewhere (run_from dfa 0 (label ∷ word)) somewhere in
      led_reaches leads.0 positions first last follow masks sets dfa is label word
      (led_state positions first last follow masks sets dfa is label word leads.0 leads.1)),
  (λ some. ap is_some (state_of_word positions first last follow masks sets dfa is label word some).leads),
)

-- words that lead to one state reach the same
same_run_reaches : (positions : PositionsValue) (first last : PositionSet) (follow masks sets : List PositionSet) (dfa : DfaValue) →
    IsSubsetDfa positions first last follow masks sets dfa →
    (l : Label) (v : List Label) (m : Label) (w : List Label) → run_from dfa 0 (l ∷ v) ≡ run_from dfa 0 (m ∷ w) → (position : ℕ) →
    Reaches positions (l ∷ v) position → Reaches positions (m ∷ w) position
same_run_reaches positions first last follow masks sets dfa is l v m w same position reaches =
    let state = state_of_word positions first last follow masks sets dfa is l v (position, reaches) in
    let other = led_state positions first last follow masks sets dfa is m w (suc state.place) (sym same ∙ state.leads) in
    (other.1 position).0 ((state.is position).1 reaches)

-- runs of words that reach the same are equal
same_runs : (run other : Option ℕ) (positions : PositionsValue) (first last : PositionSet) (follow masks sets : List PositionSet) (dfa : DfaValue) → IsSubsetDfa positions first last follow masks sets dfa →
    (l : Label) (v : List Label) (m : Label) (w : List Label) → StepFits positions sets (l ∷ v) run →
    StepFits positions sets (m ∷ w) other → ReachSame positions (l ∷ v) (m ∷ w) → run ≡ other
same_runs None None positions first last follow masks sets dfa is l v m w fits fits_other same = refl
same_runs None (Some state) positions first last follow masks sets dfa is l v m w fits fits_other same =
    let some = led_reaches state positions first last follow masks sets dfa is m w fits_other in absurd (fits (some.0, (same some.0).1 some.1))
same_runs (Some state) None positions first last follow masks sets dfa is l v m w fits fits_other same =
    let some = led_reaches state positions first last follow masks sets dfa is l v fits in absurd (fits_other (some.0, (same some.0).0 some.1))
same_runs (Some zero) (Some state) positions first last follow masks sets dfa is l v m w fits fits_other same = absurd fits
same_runs (Some (suc place)) (Some zero) positions first last follow masks sets dfa is l v m w fits fits_other same = absurd fits_other
same_runs (Some (suc a)) (Some (suc b)) positions first last follow masks sets dfa is l v m w fits fits_other same =
    let sets_equal = equal_sets positions (l ∷ v) (m ∷ w) (set_at sets a) (set_at sets b) fits.1 fits_other.1 same in
    ap (λ (n : ℕ). Some (suc n)) (one_place sets a b is.rows.apart fits.0 fits_other.0 sets_equal)

same_iff : (v w : List Label) (positions : PositionsValue) (first last : PositionSet) (follow masks sets : List PositionSet) (dfa : DfaValue) → IsSubsetDfa positions first last follow masks sets dfa →
    v ≢ [] → w ≢ [] → (run_from dfa 0 v ≡ run_from dfa 0 w) ↔ ReachSame positions v w
same_iff [] w positions first last follow masks sets dfa is some_v some_w = absurd (some_v refl)
same_iff (l ∷ v) [] positions first last follow masks sets dfa is some_v some_w = absurd (some_w refl)
same_iff (l ∷ v) (m ∷ w) positions first last follow masks sets dfa is some_v some_w = (
  (λ same position. (same_run_reaches positions first last follow masks sets dfa is l v m w same position, same_run_reaches positions first last follow masks sets dfa is m w l v (sym same) position)),
  (λ same. same_runs (run_from dfa 0 (l ∷ v)) (run_from dfa 0 (m ∷ w)) positions first last follow masks sets dfa is l v m w
      (word_fits positions first last follow masks sets dfa is l v) (word_fits positions first last follow masks sets dfa is m w) same),
)

reached : (state : ℕ) (positions : PositionsValue) (first last : PositionSet) (follow masks sets : List PositionSet) (dfa : DfaValue) →
    IsSubsetDfa positions first last follow masks sets dfa →
    state < length dfa.rows → IsReached dfa state
reached zero positions first last follow masks sets dfa is below = ([], refl)
reached (suc place) positions first last follow masks sets dfa is below =
    let within : place < length sets = omega (arith, below, is.rows.as_many) in
    let word = set_has_word positions first last follow masks sets dfa is place within in
    let reaches = (word.is word.some.0).0 word.some.1 in
    let state = state_of_word positions first last follow masks sets dfa is word.label word.word (word.some.0, reaches) in
    let sets_equal = equal_sets positions (word.label ∷ word.word) (word.label ∷ word.word) (set_at sets state.place) (set_at sets place) state.is word.is (λ position. ((λ there. there), (λ there. there))) in
    (word.label ∷ word.word, state.leads ∙ ap (λ (n : ℕ). Some (suc n)) (one_place sets state.place place is.rows.apart state.within within sets_equal))

-- the automaton has a state for each set
pub state_per_set : (positions : PositionsValue) (first last : PositionSet) (follow masks sets : List PositionSet) (dfa : DfaValue) →
    IsSubsetDfa positions first last follow masks sets dfa → HasStatePerSet positions dfa
state_per_set positions first last follow masks sets dfa is = record {
  leads = λ word nonempty. leads_iff word positions first last follow masks sets dfa is nonempty;
  same = λ v w some_v some_w. same_iff v w positions first last follow masks sets dfa is some_v some_w;
  reached = λ state below. reached state positions first last follow masks sets dfa is below;
}
