-- Words of numbers and pairs of states: a word leads a pair to a goal where it leads the second to a final state and the first not.
use Rattle.std.proofs.Common.{◌≡◌, ℕ, ◌+◌, ◌*◌, ◌<◌, ◌≤◌, Bool, true, false, not, ◌&&◌, ◌==◌, List, [], ◌∷◌, length, get_or, Option, Some, None, refl, sym, ap, ◌∙◌, subst, arith}
use Rattle.std.specs.Prelude.{unwrap_or, option_map}
use Rattle.std.specs.Option.{option_and_then}
use Rattle.std.proofs.lemmas.Bool.{false≢true, and_parts, and_from, eq-eqb, ne_eqb}
use Rattle.std.proofs.lemmas.List.{get_or_past}
use Rattle.std.proofs.lemmas.Nat.{div-mul-add, mod-mul-add}
use Rattle.std.proofs.lemmas.Option.{none-some, same_Some}
use Rattle.dfa_table.specs.DfaValue.{DfaValue, IsDfa, step_of, is_final}
use Rattle.dfa_table.specs.Runs.{walk}
use Rattle.dfa_table.proofs.Runs.{label_within}
use Rattle.state_pairs.specs.Goals.{ReachesGoal}
use Rattle.state_pairs.specs.PairGraph.{pair_of, first_of, second_of, step_or_none, pair_graph}

-- whether the word leads from the state, if there is one, to a final one
abbrev pub takes : DfaValue → List ℕ → Option ℕ → Bool
takes dfa word state = unwrap_or (option_map (is_final dfa) (option_and_then (λ from. walk dfa from word) state)) false

pub none_takes : (word : List ℕ) (dfa : DfaValue) → takes dfa word None ≡ false
none_takes word dfa = refl

-- the number after the last state takes no word
pub out_takes : (word : List ℕ) (dfa : DfaValue) → IsDfa dfa → takes dfa word (Some (length dfa.rows)) ≡ false
out_takes [] dfa valid = get_or_past dfa.finals (length dfa.rows) false (omega (arith, valid.finals))
out_takes (label ∷ word) dfa valid =
    let none : step_of dfa (length dfa.rows) label ≡ None = ap (λ (row : List (Option ℕ)). get_or row label None) (get_or_past dfa.rows (length dfa.rows) [] (omega arith)) in
    ap (takes dfa word) none ∙ none_takes word dfa

-- ---- pairs

first_is : (dfa : DfaValue) (first second : ℕ) → second < length dfa.rows → first_of dfa (pair_of dfa first second) ≡ first
first_is dfa first second below = div-mul-add first (length dfa.rows) second below

second_is : (dfa : DfaValue) (first second : ℕ) → second < length dfa.rows → second_of dfa (pair_of dfa first second) ≡ second
second_is dfa first second below = mod-mul-add first (length dfa.rows) second below

-- the word is accepted from the second and not from the first, and it isn't the empty word from the start
pub record Tells (dfa : DfaValue) (first second : ℕ) (word : List ℕ) : Type 0 where
  pub inside : takes dfa word (Some second) ≡ true
  pub outside : takes dfa word (Some first) ≡ false
  pub apart : first ≡ 0 → word ≡ [] → ⊥

not_true : (b : Bool) → not b ≡ true → b ≡ false
not_true true e = cc
not_true false e = refl

not_false : (b : Bool) → b ≡ false → not b ≡ true
not_false true e = cc
not_false false e = refl

pub both_take : (o : Option ℕ) (dfa : DfaValue) (word : List ℕ) → takes dfa word (Some (unwrap_or o (length dfa.rows))) ≡ false → takes dfa word o ≡ false
both_take None dfa word out = none_takes word dfa
both_take (Some state) dfa word out = out

pub either_takes : (o : Option ℕ) (dfa : DfaValue) (word : List ℕ) → IsDfa dfa → takes dfa word o ≡ false → takes dfa word (Some (unwrap_or o (length dfa.rows))) ≡ false
either_takes None dfa word valid out = out_takes word dfa valid
either_takes (Some state) dfa word valid out = out

-- the step of a pair
pair_step : (dfa : DfaValue) (first second label : ℕ) → second < length dfa.rows →
    (pair_graph dfa).leads (pair_of dfa first second) label ≡ option_map (λ next. pair_of dfa (step_or_none dfa first label) next) (step_of dfa second label)
pair_step dfa first second label below =
    ap (λ (x : ℕ). option_map (λ next. pair_of dfa (step_or_none dfa x label) next) (step_of dfa (second_of dfa (pair_of dfa first second)) label)) (first_is dfa first second below)
    ∙ ap (λ (y : ℕ). option_map (λ next. pair_of dfa (step_or_none dfa first label) next) (step_of dfa y label)) (second_is dfa first second below)

pair_ends : (dfa : DfaValue) (first second : ℕ) → second < length dfa.rows →
    (pair_graph dfa).is_goal (pair_of dfa first second) ≡ (is_final dfa second && (not (is_final dfa first) && not (first == 0)))
pair_ends dfa first second below =
    ap (λ (x : ℕ). is_final dfa (second_of dfa (pair_of dfa first second)) && (not (is_final dfa x) && not (x == 0))) (first_is dfa first second below)
    ∙ ap (λ (y : ℕ). is_final dfa y && (not (is_final dfa first) && not (first == 0))) (second_is dfa first second below)

to_step : (o : Option ℕ) (label : ℕ) (word : List ℕ) (dfa : DfaValue) (first second next : ℕ) → IsDfa dfa → second < length dfa.rows →
    ((target : ℕ) → target < length dfa.rows → ReachesGoal (pair_graph dfa) (pair_of dfa (step_or_none dfa first label) target) word → Tells dfa (step_or_none dfa first label) target word) →
    step_of dfa second label ≡ o → option_map (λ n. pair_of dfa (step_or_none dfa first label) n) o ≡ Some next → ReachesGoal (pair_graph dfa) next word → Tells dfa first second (label ∷ word)
to_step None label word dfa first second next valid below further is leads reaches = absurd (none-some next leads)
to_step (Some target) label word dfa first second next valid below further is leads reaches =
    let same = same_Some (pair_of dfa (step_or_none dfa first label) target) next leads in
    let tells = further target (valid.targets second label target is).1 (subst (λ (node : ℕ). ReachesGoal (pair_graph dfa) node word) (sym same) reaches) in
    record {
      inside = ap (takes dfa word) is ∙ tells.inside;
      outside = both_take (step_of dfa first label) dfa word tells.outside;
      apart = λ start none. cc;
    }

pub to_words : (word : List ℕ) (dfa : DfaValue) (first second : ℕ) → IsDfa dfa → second < length dfa.rows → ReachesGoal (pair_graph dfa) (pair_of dfa first second) word → Tells dfa first second word
to_words [] dfa first second valid below reaches =
    let all = sym (pair_ends dfa first second below) ∙ reaches in
    let parts = and_parts (is_final dfa second) (not (is_final dfa first) && not (first == 0)) all in
    let others = and_parts (not (is_final dfa first)) (not (first == 0)) parts.1 in
    record {
      inside = parts.0;
      outside = not_true (is_final dfa first) others.0;
      apart = λ start none. false≢true (sym (not_true (first == 0) others.1) ∙ eq-eqb first 0 start);
    }
to_words (label ∷ word) dfa first second valid below reaches =
    to_step (step_of dfa second label) label word dfa first second reaches.1.0 valid below
    (λ target within more. to_words word dfa (step_or_none dfa first label) target valid within more)
    refl (sym (pair_step dfa first second label below) ∙ reaches.1.1) reaches.1.2

-- a state's step, or none, isn't the start
step_apart : (o : Option ℕ) (dfa : DfaValue) (state label : ℕ) → IsDfa dfa → step_of dfa state label ≡ o → unwrap_or o (length dfa.rows) ≡ 0 → ⊥
step_apart None dfa state label valid is none = omega (arith, none, valid.some)
step_apart (Some target) dfa state label valid is none = let leads = valid.targets state label target is in omega (arith, none, leads.0)

from_step : (o : Option ℕ) (label : ℕ) (word : List ℕ) (dfa : DfaValue) (first second : ℕ) → IsDfa dfa → second < length dfa.rows →
    ((target : ℕ) → target < length dfa.rows → Tells dfa (step_or_none dfa first label) target word → ReachesGoal (pair_graph dfa) (pair_of dfa (step_or_none dfa first label) target) word) →
    step_of dfa second label ≡ o → Tells dfa first second (label ∷ word) → ReachesGoal (pair_graph dfa) (pair_of dfa first second) (label ∷ word)
from_step None label word dfa first second valid below further is tells =
    absurd (false≢true (sym (none_takes word dfa) ∙ (ap (takes dfa word) (sym is) ∙ tells.inside)))
from_step (Some target) label word dfa first second valid below further is tells =
    let within = (valid.targets second label target is).1 in
    let leads : (pair_graph dfa).leads (pair_of dfa first second) label ≡ Some (pair_of dfa (step_or_none dfa first label) target) =
    pair_step dfa first second label below ∙ ap (option_map (λ n. pair_of dfa (step_or_none dfa first label) n)) is in
    let more = further target within (record {
      inside = ap (takes dfa word) (sym is) ∙ tells.inside;
      outside = either_takes (step_of dfa first label) dfa word valid tells.outside;
      apart = λ start none. step_apart (step_of dfa first label) dfa first label valid refl start;
    }) in
    (label_within dfa second label target valid is, (pair_of dfa (step_or_none dfa first label) target, leads, more))

pub from_words : (word : List ℕ) (dfa : DfaValue) (first second : ℕ) → IsDfa dfa → second < length dfa.rows → Tells dfa first second word → ReachesGoal (pair_graph dfa) (pair_of dfa first second) word
from_words [] dfa first second valid below tells =
    let other : (first == 0) ≡ false = ne_eqb first 0 (λ start. tells.apart start refl) in
    pair_ends dfa first second below
    ∙ and_from (is_final dfa second) (not (is_final dfa first) && not (first == 0)) tells.inside
    (and_from (not (is_final dfa first)) (not (first == 0)) (not_false (is_final dfa first) tells.outside) (not_false (first == 0) other))
from_words (label ∷ word) dfa first second valid below tells =
    from_step (step_of dfa second label) label word dfa first second valid below
    (λ target within more. from_words word dfa (step_or_none dfa first label) target valid within more) refl tells

-- a state's step, or none, is at most the number after the last state
at_most : (o : Option ℕ) (dfa : DfaValue) (state label : ℕ) → IsDfa dfa → step_of dfa state label ≡ o → unwrap_or o (length dfa.rows) ≤ length dfa.rows
at_most None dfa state label valid is = omega arith
at_most (Some target) dfa state label valid is = let leads = valid.targets state label target is in omega (arith, leads.1)

pub in_rows : (x n y : ℕ) → x ≤ n → y < n → x * n + y < (n + 1) * n
in_rows x n y few below =
    let row : x * n ≤ n * n = grind (arith, few) in
    let all : (n + 1) * n ≡ n * n + n = grind arith in
    omega (arith, row, all, below)

-- steps of pairs stay within
pub pairs_stay : (dfa : DfaValue) → IsDfa dfa → (node label next : ℕ) → (pair_graph dfa).leads node label ≡ Some next → next < (pair_graph dfa).node_count
pairs_stay dfa valid node label next leads = by_step (step_of dfa (second_of dfa node) label) refl leads
  where
    by_step : (o : Option ℕ) → step_of dfa (second_of dfa node) label ≡ o → option_map (λ n. pair_of dfa (step_or_none dfa (first_of dfa node) label) n) o ≡ Some next → next < (length dfa.rows + 1) * length dfa.rows
    by_step None is e = absurd (none-some next e)
    by_step (Some target) is e =
        let within = (valid.targets (second_of dfa node) label target is).1 in
        let first = at_most (step_of dfa (first_of dfa node) label) dfa (first_of dfa node) label valid refl in
        let same = same_Some (pair_of dfa (step_or_none dfa (first_of dfa node) label) target) next e in
        subst (λ (n : ℕ). n < (length dfa.rows + 1) * length dfa.rows) same (in_rows (step_or_none dfa (first_of dfa node) label) (length dfa.rows) target first within)
