-- The graph of the pairs of states. The first of a pair may also be the number after the last
-- state, which stands for none. No public contract cites this file.
use Rattle.std.specs.Prelude.{ℕ, ◌+◌, ◌*◌, ◌/◌, ◌%◌, not, ◌&&◌, ◌==◌, length, Option, unwrap_or, option_map}
use Rattle.dfa_table.specs.DfaValue.{DfaValue, step_of, is_final}
use Rattle.state_pairs.specs.Goals.{GoalGraph}

-- the number of the state, or that of none
abbrev pub number_of : DfaValue → Option ℕ → ℕ
number_of dfa state = unwrap_or state (length dfa.rows)

-- the node of the pair
abbrev pub pair_of : DfaValue → ℕ → ℕ → ℕ
pair_of dfa first second = first * length dfa.rows + second

abbrev pub first_of : DfaValue → ℕ → ℕ
first_of dfa node = node / length dfa.rows

abbrev pub second_of : DfaValue → ℕ → ℕ
second_of dfa node = node % length dfa.rows

-- the step of the first, or none
abbrev pub step_or_none : DfaValue → ℕ → ℕ → ℕ
step_or_none dfa state label = number_of dfa (step_of dfa state label)

-- both go one step on; the goals are the pairs whose second is final and whose first is neither
-- final nor the start
abbrev pub pair_graph : DfaValue → GoalGraph
pair_graph dfa = record {
  leads = λ node label.
      option_map (λ next. pair_of dfa (step_or_none dfa (first_of dfa node) label) next)
      (step_of dfa (second_of dfa node) label);
  is_goal = λ node.
      is_final dfa (second_of dfa node)
      && (not (is_final dfa (first_of dfa node)) && not (first_of dfa node == 0));
  node_count = (length dfa.rows + 1) * length dfa.rows;
  label_count = length dfa.labels;
}
