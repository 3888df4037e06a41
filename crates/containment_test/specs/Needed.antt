-- The labels that can't be left out after a state. No public contract cites this file.
use Rattle.std.specs.Prelude.{◌≡◌, ℕ, ◌<◌, List, length, Option, Some, None, is_some, slice_index_or}
use Rattle.dfa_table.specs.DfaValue.{DfaValue, IsDfa, step_of}
use Rattle.dfa_table.specs.Runs.{walk}
use Rattle.state_pairs.specs.Goals.{GoalGraph, IsLeastWord}
use Rattle.state_pairs.specs.Pairs.{HasExtraWord}
use Rattle.containment_test.specs.declared.needed.NeededLabel.{NeededLabel}

-- the label of this number leads from the state to one that accepts a word that the state doesn't
pub record IsNeeded (dfa : DfaValue) (state label next : ℕ) : Type 0 where
  pub leads : step_of dfa state label ≡ Some next
  pub extra : HasExtraWord dfa (Some state) next

-- the least such label, and where it leads
pub record IsLeastNeeded (dfa : DfaValue) (state : ℕ) (needed : NeededLabel) : Type 0 where
  pub is : IsNeeded dfa state needed.label needed.next
  pub least : (label next : ℕ) → label < needed.label → IsNeeded dfa state label next → ⊥

-- the least such label, or none where there is none
abbrev pub NeedsAtMost : DfaValue → ℕ → Option NeededLabel → Type 0
NeedsAtMost dfa state None = (label next : ℕ) → IsNeeded dfa state label next → ⊥
NeedsAtMost dfa state (Some needed) = IsLeastNeeded dfa state needed

-- the one of the state in a list
abbrev pub needed_at : List (Option NeededLabel) → ℕ → Option NeededLabel
needed_at list state = slice_index_or list state None

-- the list of all states of an automaton
pub record AreNeeded (dfa : DfaValue) (list : List (Option NeededLabel)) : Type 0 where
  pub valid : IsDfa dfa
  pub as_many : length list ≡ length dfa.rows
  pub each : (state : ℕ) → state < length dfa.rows → NeedsAtMost dfa state (needed_at list state)

-- the graph of the states; the goals are those with such a label
abbrev pub state_graph : DfaValue → List (Option NeededLabel) → GoalGraph
state_graph dfa list = record {
  leads = λ state label. step_of dfa state label;
  is_goal = λ state. is_some (needed_at list state);
  node_count = length dfa.rows;
  label_count = length dfa.labels;
}

-- the least word that leads from the start to such a state, by the numbers of its labels, the
-- state, and its label
pub record IsFront (dfa : DfaValue) (list : List (Option NeededLabel)) (word : List ℕ) (state : ℕ)
    (needed : NeededLabel) : Type 0 where
  pub least : IsLeastWord (state_graph dfa list) 0 word
  pub leads : walk dfa 0 word ≡ Some state
  pub within : state < length dfa.rows
  pub has : needed_at list state ≡ Some needed
