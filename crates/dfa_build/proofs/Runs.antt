-- The automaton leads a nonempty word to the state of the set that the word reaches.
use Rattle.std.proofs.Common.{◌≡◌, ℕ, zero, suc, ◌<◌, false, List, [], ◌∷◌, ◌++◌, length, Option, Some, None, refl, sym, ◌∙◌, subst, arith}
use Rattle.std.specs.Prelude.{◌↔◌, IsTrue}
use Rattle.std.specs.List.{slice_get}
use Rattle.std.specs.Option.{option_and_then}
use Rattle.std.proofs.lemmas.Bool.{and_from, false≢true}
use Rattle.std.proofs.lemmas.List.{append_assoc, append-nil}
use Rattle.std.proofs.lemmas.Option.{slice_get_within, get_or_from_slice_get}
use Rattle.rpq_base.specs.declared.data.Label.{Label}
use Rattle.dfa_table.specs.DfaValue.{DfaValue, step_of, place_of, is_final}
use Rattle.dfa_table.specs.Runs.{step_with, run_from}
use Rattle.dfa_build.specs.declared.position_set.PositionSet.{PositionSet}
use Rattle.dfa_build.specs.PositionSet.{has}
use Rattle.dfa_build.specs.Positions.{PositionsValue, ArePositions}
use Rattle.dfa_build.specs.StateSets.{set_at, IsStepTo, AreRows}
use Rattle.dfa_build.specs.Subset.{ReachesSome}
use Rattle.rpq_base.proofs.Places.{label_got_at_place, no_place}
use Rattle.dfa_build.proofs.ReachedWords.{one_label_more, front_reaches}
use Rattle.dfa_build.proofs.Moves.{AreMoves, IsSetOf, IsEntry, cut_is_set, after_is_entry}

-- the automaton has the rows of the sets that are found, and final states where a set has a last position
pub record IsSubsetDfa (positions : PositionsValue) (first last : PositionSet) (follow masks sets : List PositionSet) (dfa : DfaValue) : Type 0 where
  pub moves : AreMoves positions dfa.labels first last follow masks
  pub rows : AreRows follow masks first sets dfa.rows (length sets)
  pub start : is_final dfa 0 ≡ false
  pub finals : (place : ℕ) → place < length sets → IsTrue (is_final dfa (suc place)) ↔ ((position : ℕ) × IsTrue (has (set_at sets place) position) × IsTrue (has last position))

-- the state is that of the set that the word reaches: the start for the empty word
abbrev pub IsStateOf : PositionsValue → List PositionSet → ℕ → List Label → Type 0
IsStateOf positions sets zero [] = Unit {0}
IsStateOf positions sets zero (label ∷ word) = ⊥
IsStateOf positions sets (suc place) [] = ⊥
IsStateOf positions sets (suc place) (label ∷ word) = (place < length sets) × IsSetOf positions (label ∷ word) (set_at sets place)

-- what a step with one label more leads to
abbrev pub StepFits : PositionsValue → List PositionSet → List Label → Option ℕ → Type 0
StepFits positions sets longer None = ReachesSome positions longer → ⊥
StepFits positions sets longer (Some state) = IsStateOf positions sets state longer

state_of_longer : (word : List Label) (positions : PositionsValue) (sets : List PositionSet) (label : Label) (place : ℕ) → place < length sets →
    IsSetOf positions (word ++ label ∷ []) (set_at sets place) → IsStateOf positions sets (suc place) (word ++ label ∷ [])
state_of_longer [] positions sets label place below is = (below, is)
state_of_longer (first ∷ word) positions sets label place below is = (below, is)

step_fits : (step : Option ℕ) (positions : PositionsValue) (labels : List Label) (first last : PositionSet) (follow masks : List PositionSet) → AreMoves positions labels first last follow masks →
    (sets : List PositionSet) (word : List Label) (label : Label) (place : ℕ) (reach : PositionSet) → place < length labels →
    slice_get labels place ≡ Some label →
    IsEntry positions word reach → IsStepTo sets reach (set_at masks place) step → StepFits positions sets (word ++ label ∷ []) step
step_fits None positions labels first last follow masks moves sets word label place reach below is entry none = λ some.
    let both = (one_label_more positions word label some.0 moves.are).0 some.1 in
    false≢true (sym (none some.0) ∙ and_from (has reach some.0) (has (set_at masks place) some.0) ((entry some.0).1 both.1) ((moves.sets.mask place some.0 below).1 (both.0 ∙ sym is)))
step_fits (Some zero) positions labels first last follow masks moves sets word label place reach below is entry right = absurd right
step_fits (Some (suc next)) positions labels first last follow masks moves sets word label place reach below is entry right =
    state_of_longer word positions sets label next right.0 (cut_is_set positions labels first last follow masks moves word label place reach (set_at sets next) below is entry right.1)

-- the step of a state with the label at a place
pub step_is_right : (state : ℕ) (word : List Label) (positions : PositionsValue) (first last : PositionSet) (follow masks sets : List PositionSet) (dfa : DfaValue) →
    IsSubsetDfa positions first last follow masks sets dfa → IsStateOf positions sets state word → (place : ℕ) (label : Label) →
    place < length dfa.labels → slice_get dfa.labels place ≡ Some label →
    StepFits positions sets (word ++ label ∷ []) (step_of dfa state place)
step_is_right zero [] positions first last follow masks sets dfa is state_of place label below has_label =
    step_fits (step_of dfa 0 place) positions dfa.labels first last follow masks is.moves sets [] label place first below has_label is.moves.sets.starts
    (is.rows.start.steps place (omega (arith, below, is.moves.sets.as_many_masks)))
step_is_right zero (next ∷ word) positions first last follow masks sets dfa is state_of place label below has_label = absurd state_of
step_is_right (suc at) [] positions first last follow masks sets dfa is state_of place label below has_label = absurd state_of
step_is_right (suc at) (next ∷ word) positions first last follow masks sets dfa is state_of place label below has_label =
    let row = is.rows.others at state_of.0 in
    step_fits (step_of dfa (suc at) place) positions dfa.labels first last follow masks is.moves sets (next ∷ word) label place row.reach below has_label
    (after_is_entry positions dfa.labels first last follow masks is.moves next word (set_at sets at) row.reach state_of.1 row.after)
    (row.is.steps place (omega (arith, below, is.moves.sets.as_many_masks)))

-- ---- words

-- the step with a label, by its place
step_with_fits : (place : Option ℕ) (positions : PositionsValue) (first last : PositionSet) (follow masks sets : List PositionSet) (dfa : DfaValue) →
    IsSubsetDfa positions first last follow masks sets dfa → (state : ℕ) (word : List Label) (label : Label) →
    IsStateOf positions sets state word → place_of dfa label ≡ place →
    StepFits positions sets (word ++ label ∷ []) (option_and_then (λ at. step_of dfa state at) place)
step_with_fits None positions first last follow masks sets dfa is state word label state_of none = λ some.
    let both = (one_label_more positions word label some.0 is.moves.are).0 some.1 in
    no_place dfa.labels label none ((is.moves.sets.labels_of_atoms label).1 (some.0, slice_get_within positions.atoms some.0 label both.0, get_or_from_slice_get positions.atoms some.0 label label both.0))
step_with_fits (Some place) positions first last follow masks sets dfa is state word label state_of found =
    let here = label_got_at_place dfa.labels label place found in
    step_is_right state word positions first last follow masks sets dfa is state_of place label here.0 here.1

-- where a word with a label and then a word reaches something, so does the word with the label
some_front : (before : List Label) (positions : PositionsValue) (label : Label) (word : List Label) → ArePositions positions →
    ReachesSome positions (before ++ label ∷ word) → ReachesSome positions (before ++ label ∷ [])
some_front [] positions label word are some = front_reaches word positions label [] are some
some_front (first ∷ before) positions label word are some =
    front_reaches word positions first (before ++ label ∷ []) are (subst (ReachesSome positions) (sym (append_assoc (first ∷ before) (label ∷ []) word)) some)

-- what a word with a label and then a word does, by the step with the label
further : (step : Option ℕ) (word : List Label) (positions : PositionsValue) (sets : List PositionSet) (dfa : DfaValue) (before : List Label) (label : Label) → ArePositions positions →
    StepFits positions sets (before ++ label ∷ []) step →
    ((state : ℕ) → IsStateOf positions sets state (before ++ label ∷ []) → StepFits positions sets ((before ++ label ∷ []) ++ word) (run_from dfa state word)) →
    StepFits positions sets (before ++ label ∷ word) (option_and_then (λ next. run_from dfa next word) step)
further None word positions sets dfa before label are none goes = λ some.
    none (some_front before positions label word are some)
further (Some next) word positions sets dfa before label are fits goes =
    let P : List Label → Type 0 = λ w. StepFits positions sets w (run_from dfa next word) in
    subst P (append_assoc before (label ∷ []) word) (goes next fits)

-- what a word does from a state
pub run_fits : (word : List Label) (positions : PositionsValue) (first last : PositionSet) (follow masks sets : List PositionSet) (dfa : DfaValue) →
    IsSubsetDfa positions first last follow masks sets dfa → (state : ℕ) (before : List Label) → IsStateOf positions sets state before →
    StepFits positions sets (before ++ word) (run_from dfa state word)
run_fits [] positions first last follow masks sets dfa is state before state_of =
    let P : List Label → Type 0 = λ w. IsStateOf positions sets state w in
    subst P (sym (append-nil before)) state_of
run_fits (label ∷ word) positions first last follow masks sets dfa is state before state_of =
    further (step_with dfa state label) word positions sets dfa before label is.moves.are
    (step_with_fits (place_of dfa label) positions first last follow masks sets dfa is state before label state_of refl)
    (λ next next_of. run_fits word positions first last follow masks sets dfa is next (before ++ label ∷ []) next_of)
