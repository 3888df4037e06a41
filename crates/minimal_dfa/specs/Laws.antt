-- What the definitions are meant to say, as laws.
use Rattle.std.specs.Prelude.{◌≡◌, ◌≤◌, ◌↔◌, List, length}
use Rattle.rpq_base.specs.declared.data.Label.{Label}
use Rattle.dfa_table.specs.DfaValue.{DfaValue, IsDfa}
use Rattle.dfa_table.specs.Runs.{Accepts}
use Rattle.minimal_dfa.specs.Least.{IsLeast}

-- a language has one least automaton over a list of labels
abbrev pub OneLeast : Type 0
OneLeast = (first second : DfaValue) → IsLeast first → IsLeast second →
    first.labels ≡ second.labels →
    ((word : List Label) → Accepts first word ↔ Accepts second word) →
    first ≡ second

-- no automaton that accepts the same words has fewer states
abbrev pub LeastHasFewest : Type 0
LeastHasFewest = (least other : DfaValue) → IsLeast least → IsDfa other →
    ((word : List Label) → Accepts least word ↔ Accepts other word) →
    length least.rows ≤ length other.rows
