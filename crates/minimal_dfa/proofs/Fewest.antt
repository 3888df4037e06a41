-- The words that lead to the states of a least automaton lead to as many states of any other.
use Rattle.std.proofs.Common.{◌≡◌, ◌≢◌, ℕ, zero, suc, ◌<◌, false, List, [], ◌∷◌, ◌++◌, length, get_or, Option, Some, None, eqb, refl, sym, ap, ◌∙◌, subst, ⊎_elim, arith}
use Rattle.std.specs.Prelude.{All, IsSome}
use Rattle.std.specs.List.{IsDistinct}
use Rattle.std.proofs.lemmas.Bool.{false≢true, cases_eq, ne_eqb, eqb-true}
use Rattle.std.proofs.lemmas.List.{get_or_append_left, get_or_push, get_or_default, length_push}
use Rattle.std.proofs.lemmas.List.Elements.{All-contains, All-from_get_or}
use Rattle.std.proofs.lemmas.Map.Keys.{IsDistinct-from_apart}
use Rattle.std.proofs.lemmas.Map.Steps.{length-le_from_distinct_below}
use Rattle.std.proofs.lemmas.Map.Views.{Contains-from_any}
use Rattle.dfa_table.specs.DfaValue.{DfaValue, IsDfa}
use Rattle.dfa_table.specs.Runs.{run_from}
use Rattle.dfa_table.proofs.Numbering.{LeadToBoth}
use Rattle.dfa_table.proofs.Runs.{runs_stay_within}
use Rattle.minimal_dfa.specs.Laws.{LeastHasFewest}
use Rattle.minimal_dfa.specs.Least.{IsLeast}
use Rattle.minimal_dfa.proofs.OneLeast.{AcceptAlike, mirrored, leads_too, one_state}

-- for each number below a count one that goes with it, as a list
abbrev HasList : (ℕ → ℕ → Type 0) → ℕ → Type 0
HasList P count = (list : List ℕ) × (length list ≡ count) × ((number : ℕ) → number < count → P number (get_or list number 0))

one_longer : (P : ℕ → ℕ → Type 0) (count last : ℕ) → HasList P count → P count last → HasList P (suc count)
one_longer P count last has here = (
  has.0 ++ last ∷ [],
  length_push has.0 last ∙ omega (arith, has.1),
  λ number below. ⊎_elim
      (λ same. subst (P number) (sym (get_or_push has.0 last 0 number (has.1 ∙ sym same))) (subst (λ (n : ℕ). P n last) (sym same) here))
      (λ other. subst (P number) (sym (get_or_append_left has.0 (last ∷ []) 0 number (omega (arith, has.1)))) (has.2 number (omega arith)))
      (cases_eq number count),
)

as_list : (P : ℕ → ℕ → Type 0) (count : ℕ) → ((number : ℕ) → number < count → (other : ℕ) × P number other) → HasList P count
as_list P zero each = ([], refl, λ number below. absurd (omega arith))
as_list P (suc count) each =
    let last = each count (omega arith) in
    one_longer P count last.0 (as_list P count (λ number below. each number (omega arith))) last.1

-- a word that leads to the state leads to one of the other automaton
is_led : (o : Option ℕ) → IsSome o → (state : ℕ) × (o ≡ Some state)
is_led None some = absurd (false≢true some)
is_led (Some state) some = (state, refl)

led_to : (least other : DfaValue) (state : ℕ) → IsLeast least → AcceptAlike least other → state < length least.rows → (target : ℕ) × LeadToBoth least other state target
led_to least other state is alike below =
    let word = is.trim.reached state below in
    let found = is_led (run_from other 0 word.0) (leads_too (Some state) (run_from other 0 word.0) least other word.0 is alike word.1 refl refl) in
    (found.0, (word.0, word.1, found.1))

-- other states lead to other ones
led_apart : (least other : DfaValue) (first second one two : ℕ) → IsLeast least → IsDfa other → AcceptAlike least other → first < second →
    LeadToBoth least other first one → LeadToBoth least other second two → one ≢ two
led_apart least other first second one two is valid alike before both both2 same =
    let equal = one_state other least both.0 both2.0 first second valid is (mirrored least other alike) (both.2 ∙ (ap (λ (n : ℕ). Some n) same ∙ sym both2.2)) both.1 both2.1 in
    omega (arith, equal, before)

pub least_has_fewest : LeastHasFewest
least_has_fewest least other is valid alike =
    let count = length least.rows in
    let has = as_list (LeadToBoth least other) count (λ state below. led_to least other state is alike below) in
    let list = has.0 in
    let apart : (i j d : ℕ) → i < j → j < length list → eqb (get_or list i d) (get_or list j d) ≡ false = λ i j d before below.
    let within : j < count = omega (arith, below, has.1) in
    ne_eqb (get_or list i d) (get_or list j d) (λ same.
    led_apart least other i j (get_or list i 0) (get_or list j 0) is valid alike before (has.2 i (omega (arith, before, within))) (has.2 j within)
    (get_or_default list i 0 d (omega (arith, before, below)) ∙ (same ∙ sym (get_or_default list j 0 d below)))) in
    let distinct : IsDistinct eqb list = IsDistinct-from_apart eqb list apart in
    let few : All (λ (n : ℕ). n < length other.rows) list = All-from_get_or (λ (n : ℕ). n < length other.rows) list 0 (λ place below.
    let both = has.2 place (omega (arith, below, has.1)) in
    runs_stay_within other 0 (get_or list place 0) both.0 valid (omega (arith, valid.some)) both.2) in
    let most = length-le_from_distinct_below list (length other.rows) distinct (λ q member.
    All-contains (λ (n : ℕ). n < length other.rows) list q few (Contains-from_any (λ x y e. eqb-true x y e) q list member)) in
    omega (arith, most, has.1)
