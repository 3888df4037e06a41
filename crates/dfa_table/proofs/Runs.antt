-- Runs over words.
use Rattle.std.proofs.Common.{◌≡◌, ℕ, ◌<◌, false, List, [], ◌∷◌, ◌++◌, length, get_or, map, Option, Some, None, refl, ap, sym, ◌∙◌, ⊎_elim, arith}
use Rattle.std.specs.Prelude.{All, IsTrue, unwrap_or, option_map}
use Rattle.std.specs.Option.{option_and_then}
use Rattle.std.proofs.lemmas.Bool.{false≢true, cases_lt}
use Rattle.std.proofs.lemmas.List.{get_or_default, get_or_past}
use Rattle.std.proofs.lemmas.List.Elements.{All-get_or, All-head, All-tail, All-cons, All-nil}
use Rattle.std.proofs.lemmas.Option.{none-some, option_and_then_some, same_Some, slice_get-get_or}
use Rattle.rpq_base.proofs.Places.{label_at_place}
use Rattle.rpq_base.specs.declared.data.Label.{Label}
use Rattle.dfa_table.specs.DfaValue.{DfaValue, IsDfa, step_of, place_of, label_at, is_final}
use Rattle.dfa_table.specs.Runs.{step_with, run_from, walk, Accepts}
use Rattle.dfa_table.specs.Laws.{StartIsApart, AcceptedWordsPass, RunsGoByNumbers}
use Rattle.dfa_table.proofs.Places.{labels_have_places}

-- one call after another, and both in one
and_then_twice : {A B C : Type 0} (f : A → Option C) (g : B → Option C) (h : A → Option B) (o : Option A) →
    ((x : A) → f x ≡ option_and_then g (h x)) → option_and_then f o ≡ option_and_then g (option_and_then h o)
and_then_twice f g h None same = refl
and_then_twice f g h (Some x) same = same x

pub runs_join : (dfa : DfaValue) (state : ℕ) (front rest : List Label) →
    run_from dfa state (front ++ rest) ≡ option_and_then (λ next. run_from dfa next rest) (run_from dfa state front)
runs_join dfa state [] rest = refl
runs_join dfa state (label ∷ front) rest =
    and_then_twice (λ next. run_from dfa next (front ++ rest)) (λ next. run_from dfa next rest) (λ next. run_from dfa next front)
    (step_with dfa state label) (λ next. runs_join dfa next front rest)

-- a step with a label leads to a state, and not to the start
step_leads : (dfa : DfaValue) (state target : ℕ) (label : Label) → IsDfa dfa → step_with dfa state label ≡ Some target →
    (0 < target) × (target < length dfa.rows)
step_leads dfa state target label valid steps =
    option_and_then_some (λ place. step_of dfa state place) (place_of dfa label) target steps
    (λ place found step. valid.targets state place target step)

back : (dfa : DfaValue) (state : ℕ) (label : Label) (word : List Label) → IsDfa dfa → run_from dfa state (label ∷ word) ≡ Some 0 → ⊥
back dfa state label [] valid runs =
    option_and_then_some (λ next. run_from dfa next []) (step_with dfa state label) 0 runs
    (λ next step ends. let above = step_leads dfa state next label valid step in let zero_is = same_Some next 0 ends in absurd (omega arith))
back dfa state label (second ∷ word) valid runs =
    option_and_then_some (λ next. run_from dfa next (second ∷ word)) (step_with dfa state label) 0 runs
    (λ next step further. back dfa next second word valid further)

empty : (dfa : DfaValue) → IsDfa dfa → Accepts dfa [] → ⊥
empty dfa valid accepts =
    let start = same_Some 0 accepts.0 accepts.1 in
    false≢true (sym valid.start ∙ (ap (is_final dfa) start ∙ accepts.2))

pub start_is_apart : StartIsApart
start_is_apart = record { back = back; empty = empty }

pub runs_stay_within : (dfa : DfaValue) (state target : ℕ) (word : List Label) → IsDfa dfa → state < length dfa.rows →
    run_from dfa state word ≡ Some target → target < length dfa.rows
runs_stay_within dfa state target [] valid within runs = let same = same_Some state target runs in omega arith
runs_stay_within dfa state target (label ∷ word) valid within runs =
    option_and_then_some (λ next. run_from dfa next word) (step_with dfa state label) target runs
    (λ next step further. runs_stay_within dfa next target word valid (step_leads dfa state next label valid step).1 further)

-- ---- accepted words

final_of : (o : Option ℕ) (dfa : DfaValue) → IsTrue (unwrap_or (option_map (is_final dfa) o) false) →
    (state : ℕ) × (o ≡ Some state) × IsTrue (is_final dfa state)
final_of None dfa is = absurd (false≢true is)
final_of (Some state) dfa is = (state, refl, is)

pub accepted_words_pass : AcceptedWordsPass
accepted_words_pass dfa word = (
  (λ accepts. ap (λ (o : Option ℕ). unwrap_or (option_map (is_final dfa) o) false) accepts.1 ∙ accepts.2),
  (λ is. final_of (run_from dfa 0 word) dfa is),
)

-- ---- numbers of labels

-- an entry that a row has stands within it
pub place_within : (row : List (Option ℕ)) (place target : ℕ) → get_or row place None ≡ Some target → place < length row
place_within row place target is = ⊎_elim
    (λ below. below)
    (λ far. absurd (none-some target (sym (get_or_past row place None far) ∙ is)))
    (cases_lt place (length row))

-- a step is one with the number of a label
pub label_within : (dfa : DfaValue) (state number target : ℕ) → IsDfa dfa → step_of dfa state number ≡ Some target → number < length dfa.labels
label_within dfa state number target valid is = ⊎_elim
    (λ below.
    let within = place_within (get_or dfa.rows state []) number target is in
    let even = All-get_or (λ (row : List (Option ℕ)). length row ≡ length dfa.labels) dfa.rows state [] below valid.even in
    omega (arith, within, even))
    (λ far. absurd (none-some target (ap (λ (row : List (Option ℕ)). get_or row number None) (sym (get_or_past dfa.rows state [] far)) ∙ is)))
    (cases_lt state (length dfa.rows))

-- the label of a number has that number
pub number_of_label_at : (dfa : DfaValue) (number : ℕ) → IsDfa dfa → number < length dfa.labels → place_of dfa (label_at dfa number) ≡ Some number
number_of_label_at dfa number valid below =
    (labels_have_places dfa (label_at dfa number) number valid).1
    (slice_get-get_or dfa.labels number (record { name = []; back = false }) below)

-- a step with the label is one with its number
pub step_with_label_at : (dfa : DfaValue) (state number : ℕ) → IsDfa dfa → number < length dfa.labels →
    step_with dfa state (label_at dfa number) ≡ step_of dfa state number
step_with_label_at dfa state number valid below =
    ap (option_and_then (λ (place : ℕ). step_of dfa state place)) (number_of_label_at dfa number valid below)

go_on : (o : Option ℕ) (one other : ℕ → Option ℕ) → ((next : ℕ) → one next ≡ other next) → option_and_then one o ≡ option_and_then other o
go_on None one other same = refl
go_on (Some next) one other same = same next

spelled : (dfa : DfaValue) (state : ℕ) (numbers : List ℕ) → IsDfa dfa → All (λ number. number < length dfa.labels) numbers →
    run_from dfa state (map (label_at dfa) numbers) ≡ walk dfa state numbers
spelled dfa state [] valid below = refl
spelled dfa state (number ∷ numbers) valid below =
    let within : ℕ → Type 0 = λ n. n < length dfa.labels in
    ap (option_and_then (λ (next : ℕ). run_from dfa next (map (label_at dfa) numbers)))
    (step_with_label_at dfa state number valid (All-head within number numbers below))
    ∙ go_on (step_of dfa state number) (λ next. run_from dfa next (map (label_at dfa) numbers)) (λ next. walk dfa next numbers)
    (λ next. spelled dfa next numbers valid (All-tail within number numbers below))

within_labels : (dfa : DfaValue) (state target : ℕ) (numbers : List ℕ) → IsDfa dfa → walk dfa state numbers ≡ Some target →
    All (λ number. number < length dfa.labels) numbers
within_labels dfa state target [] valid leads = All-nil (λ (n : ℕ). n < length dfa.labels)
within_labels dfa state target (number ∷ numbers) valid leads =
    option_and_then_some (λ next. walk dfa next numbers) (step_of dfa state number) target leads
    (λ next step further. All-cons (λ (n : ℕ). n < length dfa.labels) number numbers
    (label_within dfa state number next valid step) (within_labels dfa next target numbers valid further))

-- a word with numbers that lead to the same state
abbrev HasNumbers : DfaValue → ℕ → ℕ → List Label → Type 0
HasNumbers dfa state target word =
    (numbers : List ℕ) × (map (label_at dfa) numbers ≡ word) × (walk dfa state numbers ≡ Some target)

one_more : (dfa : DfaValue) (state next place target : ℕ) (label : Label) (word : List Label) → place_of dfa label ≡ Some place →
    step_of dfa state place ≡ Some next → HasNumbers dfa next target word → HasNumbers dfa state target (label ∷ word)
one_more dfa state next place target label word found step has =
    let here = label_at_place dfa.labels label place found in
    let spells : label_at dfa place ≡ label = get_or_default dfa.labels place (record { name = []; back = false }) label here.0 ∙ here.1 in (
      place ∷ has.0,
      ap (λ (first : Label). first ∷ map (label_at dfa) has.0) spells ∙ ap (λ (rest : List Label). label ∷ rest) has.1,
      ap (option_and_then (λ (after : ℕ). walk dfa after has.0)) step ∙ has.2,
    )

numbered : (dfa : DfaValue) (state target : ℕ) (word : List Label) → IsDfa dfa → run_from dfa state word ≡ Some target → HasNumbers dfa state target word
numbered dfa state target [] valid leads = ([], refl, leads)
numbered dfa state target (label ∷ word) valid leads =
    option_and_then_some (λ next. run_from dfa next word) (step_with dfa state label) target leads
    (λ next steps further. option_and_then_some (λ place. step_of dfa state place) (place_of dfa label) next steps
    (λ place found step. one_more dfa state next place target label word found step (numbered dfa next target word valid further)))

pub runs_go_by_numbers : RunsGoByNumbers
runs_go_by_numbers = record { spelled = spelled; within = within_labels; numbered = numbered }
