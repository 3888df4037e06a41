-- The classes of states that accept the same words, each told by its least state. No public
-- contract cites this file.
use Rattle.std.specs.Prelude.{◌≡◌, ◌≢◌, ℕ, zero, suc, ◌<◌, false, List, length, Option, Some, None}
use Rattle.rpq_base.specs.declared.data.Label.{Label}
use Rattle.dfa_table.specs.DfaValue.{DfaValue, step_of}
use Rattle.dfa_table.specs.Discovery.{GraphValue, node_at}
use Rattle.dfa_table.specs.Runs.{accepts_from, ReachesFinal}
use Rattle.state_pairs.specs.Pairs.{accepts_at}

-- the state accepts the words that are accepted after a step
abbrev pub AcceptSame : DfaValue → ℕ → Option ℕ → Type 0
AcceptSame dfa state step =
    (word : List Label) → accepts_from dfa state word ≡ accepts_at dfa step word

-- a word is accepted from the state or after the step, and not both
abbrev pub AreTold : DfaValue → ℕ → Option ℕ → Type 0
AreTold dfa state step =
    (word : List Label) × (accepts_from dfa state word ≢ accepts_at dfa step word)

-- the state is the least, other than the start, that accepts the words that are accepted after
-- the step
pub record StandsFor (dfa : DfaValue) (step : Option ℕ) (state : ℕ) : Type 0 where
  pub above : 0 < state
  pub below : state < length dfa.rows
  pub same : AcceptSame dfa state step
  pub least : (other : ℕ) → 0 < other → other < state → AreTold dfa other step

-- the step leads to the class of this state, or to none where no word is accepted after it
abbrev pub LeadsToClass : DfaValue → Option ℕ → Option ℕ → Type 0
LeadsToClass dfa step None = (word : List Label) → accepts_at dfa step word ≡ false
LeadsToClass dfa step (Some state) = StandsFor dfa step state × ReachesFinal dfa state

-- the graph of the classes: a label leads from a state to the class of its step
abbrev pub class_graph : DfaValue → GraphValue
class_graph dfa = record {
  label_count = length dfa.labels;
  opens = λ node front. front ≡ node;
  leads = λ front label class. LeadsToClass dfa (step_of dfa front label) class;
}

-- the state for which the one of this number stands: the start for the start, and the node at the
-- place before for any other
abbrev pub state_at : List ℕ → ℕ → ℕ
state_at nodes zero = 0
state_at nodes (suc place) = node_at nodes place
