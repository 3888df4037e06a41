-- Deterministic automata over labels, as contracts see them.
use Rattle.std.specs.Prelude.{◌≡◌, ℕ, ◌^◌, ◌<◌, ◌≤◌, Bool, false, List, [], length, All, Option, None, Some, slice_index_or}
use Rattle.std.specs.List.{position}
use Rattle.std.specs.List.Sorted.{IsStrictlySortedBy}
use Rattle.rpq_base.specs.Order.{label_cmp}
use Rattle.rpq_base.specs.Same.{same_label}
use Rattle.rpq_base.specs.declared.data.Label.{Label}

-- the labels; for each state its row, which says for each label the state that the step leads to;
-- for each state whether it is final
pub record DfaValue : Type 0 where
  pub labels : List Label
  pub rows : List (List (Option ℕ))
  pub finals : List Bool

-- the automaton with these labels, rows and final states
abbrev pub value_of : List Label → List (List (Option ℕ)) → List Bool → DfaValue
value_of labels rows finals = record { labels = labels; rows = rows; finals = finals }

-- the state that a step with the label of this number leads to, from the state
abbrev pub step_of : DfaValue → ℕ → ℕ → Option ℕ
step_of dfa state number = slice_index_or (slice_index_or dfa.rows state []) number None

-- the number of the label: its place among the labels
abbrev pub place_of : DfaValue → Label → Option ℕ
place_of dfa label = position (λ each. same_label each label) dfa.labels

-- the label of this number
abbrev pub label_at : DfaValue → ℕ → Label
label_at dfa number = slice_index_or dfa.labels number (record { name = []; back = false })

-- the state is final
abbrev pub is_final : DfaValue → ℕ → Bool
is_final dfa state = slice_index_or dfa.finals state false

-- the steps lead to states, and none to the start
abbrev pub LeadsToStates : DfaValue → Type 0
LeadsToStates dfa = (state number target : ℕ) →
    step_of dfa state number ≡ Some target → (0 < target) × (target < length dfa.rows)

-- sorted distinct labels; 1 to 513 states, each with a place for each label; steps to states
-- other than the start, which isn't final
pub record IsDfa (dfa : DfaValue) : Type 0 where
  pub sorted : IsStrictlySortedBy label_cmp dfa.labels
  pub few_labels : length dfa.labels < 2 ^ 32
  pub some : 1 ≤ length dfa.rows
  pub few : length dfa.rows ≤ 513
  pub even : All (λ row. length row ≡ length dfa.labels) dfa.rows
  pub finals : length dfa.finals ≡ length dfa.rows
  pub targets : LeadsToStates dfa
  pub start : is_final dfa 0 ≡ false
