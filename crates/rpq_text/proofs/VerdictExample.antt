-- The least automaton for one label, and the verdict line of its query.
use Rattle.std.proofs.Common.{◌≡◌, ℕ, zero, suc, ◌<◌, true, false, List, [], ◌∷◌, length}
use Rattle.std.proofs.Common.{map, Option, Some, None, refl, sym, ap, subst, ◌∙◌, arith}
use Rattle.std.specs.Prelude.{codes, ◌↔◌, IsTrue, unwrap_or, option_map}
use Rattle.std.specs.Fmt.{digits}
use Rattle.std.specs.declared.cmp.Ordering.TheVariants.{Less}
use Rattle.std.proofs.lemmas.Bool.{false≢true}
use Rattle.std.proofs.lemmas.List.Elements.{All-nil, All-cons}
use Rattle.std.proofs.lemmas.Option.{same_Some}
use Rattle.rpq_base.proofs.Sorted.{sorted_nil, sorted_cons}
use Rattle.rpq_base.specs.Order.{label_cmp}
use Rattle.rpq_base.specs.declared.data.Label.{Label}
use Rattle.path_syntax.specs.Expression.{Atom}
use Rattle.path_syntax.specs.Language.{In}
use Rattle.path_syntax.specs.Laws.{nonempty}
use Rattle.dfa_table.specs.DfaValue.{DfaValue, IsDfa, value_of, step_of, label_at, is_final}
use Rattle.dfa_table.specs.Runs.{run_from, walk, Accepts, IsReached, ReachesFinal}
use Rattle.dfa_table.proofs.Runs.{runs_go_by_numbers}
use Rattle.minimal_dfa.specs.Least.{IsLeast}
use Rattle.containment_test.specs.Containment.{Contained}
use Rattle.containment_test.specs.declared.verdict.Verdict.TheVariants.{Yes}
use Rattle.rpq_text.specs.Examples.{label_named}
use Rattle.rpq_text.specs.VerdictExample.{VerdictExample}

abbrev a : Label
a = label_named (codes "a")

-- ---- the automaton: the start, and the state that the label leads to

abbrev start_row : List (Option ℕ)
start_row = Some 1 ∷ []

abbrev last_row : List (Option ℕ)
last_row = None ∷ []

abbrev two_states : DfaValue
two_states = value_of (a ∷ []) (start_row ∷ last_row ∷ []) (false ∷ true ∷ [])

-- the step with the label is the only one
only_step : (state number target : ℕ) → step_of two_states state number ≡ Some target → target ≡ 1
only_step zero zero target is = sym (same_Some 1 target is)
only_step zero (suc number) target is = absurd cc
only_step (suc zero) zero target is = absurd cc
only_step (suc zero) (suc number) target is = absurd cc
only_step (suc (suc state)) number target is = absurd cc

is_dfa : IsDfa two_states
is_dfa = record {
  sorted = sorted_cons label_cmp a [] (All-nil (λ each. label_cmp a each ≡ Less)) (sorted_nil label_cmp);
  few_labels = omega arith;
  some = omega arith;
  few = omega arith;
  even = All-cons (λ row. length row ≡ 1) start_row (last_row ∷ []) refl
      (All-cons (λ row. length row ≡ 1) last_row [] refl (All-nil (λ row. length row ≡ 1)));
  finals = refl;
  targets = λ state number target is.
      let one = only_step state number target is in (omega (arith, one), omega (arith, one));
  start = refl;
}

-- ---- its words

-- the label leads from the start to the other state
leads : run_from two_states 0 (a ∷ []) ≡ Some 1
leads = runs_go_by_numbers.spelled two_states 0 (0 ∷ []) is_dfa
    (All-cons (λ number. number < 1) 0 [] (omega arith) (All-nil (λ number. number < 1)))

-- numbers that lead to a final state are that of the label alone
only_number : (numbers : List ℕ) (target : ℕ) → walk two_states 0 numbers ≡ Some target
    → IsTrue (is_final two_states target) → numbers ≡ 0 ∷ []
only_number [] target is final =
    absurd (false≢true (ap (is_final two_states) (same_Some 0 target is) ∙ final))
only_number (zero ∷ []) target is final = refl
only_number (zero ∷ zero ∷ numbers) target is final = absurd cc
only_number (zero ∷ suc number ∷ numbers) target is final = absurd cc
only_number (suc number ∷ numbers) target is final = absurd cc

only_word : (word : List Label) → Accepts two_states word → word ≡ a ∷ []
only_word word accepts =
    let by = runs_go_by_numbers.numbered two_states 0 accepts.0 word is_dfa accepts.1 in
    sym by.1 ∙ ap (map (label_at two_states)) (only_number by.0 accepts.0 by.2 accepts.2)

accepted : (word : List Label) → Accepts two_states word ↔ nonempty (In (Atom a)) word
accepted word = (
  λ accepts. let is = only_word word accepts in (λ none. absurd (cc (sym is ∙ none)), is),
  λ within. subst (Accepts two_states) (sym within.1) (1, leads, refl),
)

-- ---- it is the least one

is_reached : (state : ℕ) → state < 2 → IsReached two_states state
is_reached zero below = ([], refl)
is_reached (suc zero) below = (a ∷ [], leads)
is_reached (suc (suc state)) below = absurd (omega (arith, below))

reaches_final : (state : ℕ) → state < 2 → ReachesFinal two_states state
reaches_final zero below =
    (a ∷ [], ap (λ (o : Option ℕ). unwrap_or (option_map (is_final two_states) o) false) leads)
reaches_final (suc zero) below = ([], refl)
reaches_final (suc (suc state)) below = absurd (omega (arith, below))

is_least : IsLeast two_states
is_least = record {
  trim = record { reached = is_reached; reaches = reaches_final };
  apart = λ first second above less below. absurd (omega (arith, above, less, below));
  order = (omega arith, tt);
  valid = is_dfa;
}

-- ---- the verdict

contained : Contained (In (Atom a))
contained [] [] w some inside = inside
contained [] (label ∷ []) [] some inside = absurd (some refl)
contained [] (label ∷ []) (next ∷ w) some inside = absurd cc
contained [] (label ∷ next ∷ q) w some inside = absurd cc
contained (label ∷ []) [] w some inside = inside
contained (label ∷ []) (next ∷ q) w some inside = absurd cc
contained (label ∷ next ∷ p) q w some inside = absurd cc

pub verdict_example : VerdictExample
unfolding digits
verdict_example = record {
  count = 2;
  states = record { dfa = two_states; least = is_least; accepts = accepted; counted = refl };
  verdict = Yes;
  is_verdict = contained;
  text = refl;
}
