-- The states that words lead to, and the words that are accepted.
use Rattle.std.specs.Prelude.{◌≡◌, ◌≢◌, ℕ, ◌<◌, Bool, false, List, [], ◌∷◌, length, Option, Some, IsTrue, unwrap_or, option_map}
use Rattle.std.specs.Option.{option_and_then}
use Rattle.rpq_base.specs.declared.data.Label.{Label}
use Rattle.dfa_table.specs.DfaValue.{DfaValue, step_of, place_of, is_final}

-- the state that a step with this label leads to, from the state
abbrev pub step_with : DfaValue → ℕ → Label → Option ℕ
step_with dfa state label =
    option_and_then (λ number. step_of dfa state number) (place_of dfa label)

-- the state that the word leads to from the state: for the empty word the state itself, else a
-- step with the first label and then the rest. Of a number that is no state this says nothing:
-- the empty word leads from it to itself.
abbrev pub run_from : DfaValue → ℕ → List Label → Option ℕ
run_from dfa state [] = Some state
run_from dfa state (label ∷ word) =
    option_and_then (λ next. run_from dfa next word) (step_with dfa state label)

-- the same with the numbers of the word's labels
abbrev pub walk : DfaValue → ℕ → List ℕ → Option ℕ
walk dfa state [] = Some state
walk dfa state (number ∷ numbers) =
    option_and_then (λ next. walk dfa next numbers) (step_of dfa state number)

-- from the start, the state is where the word leads to
abbrev pub LeadsTo : DfaValue → ℕ → List Label → Type 0
LeadsTo dfa state word = run_from dfa 0 word ≡ Some state

-- the word leads from the start to a final state
abbrev pub Accepts : DfaValue → List Label → Type 0
Accepts dfa word = (state : ℕ) × LeadsTo dfa state word × IsTrue (is_final dfa state)

-- whether the word leads from the state to a final one
abbrev pub accepts_from : DfaValue → ℕ → List Label → Bool
accepts_from dfa state word = unwrap_or (option_map (is_final dfa) (run_from dfa state word)) false

-- some word leads from the start to the state
abbrev pub IsReached : DfaValue → ℕ → Type 0
IsReached dfa state = (word : List Label) × LeadsTo dfa state word

-- some word leads from the state to a final one
abbrev pub ReachesFinal : DfaValue → ℕ → Type 0
ReachesFinal dfa state = (word : List Label) × IsTrue (accepts_from dfa state word)

-- every state is reached
abbrev pub AreReached : DfaValue → Type 0
AreReached dfa = (state : ℕ) → state < length dfa.rows → IsReached dfa state

-- every state is reached and reaches a final one
pub record IsTrim (dfa : DfaValue) : Type 0 where
  pub reached : AreReached dfa
  pub reaches : (state : ℕ) → state < length dfa.rows → ReachesFinal dfa state

-- a word leads from one of the states to a final one, and from the other it doesn't
abbrev pub AreToldApart : DfaValue → ℕ → ℕ → Type 0
AreToldApart dfa first second =
    (word : List Label) × (accepts_from dfa first word ≢ accepts_from dfa second word)
