-- The least automaton that accepts the words of a language.
use Rattle.std.specs.Prelude.{ℕ, ◌<◌, length}
use Rattle.dfa_table.specs.DfaValue.{DfaValue, IsDfa}
use Rattle.dfa_table.specs.Order.{IsInDiscoveryOrder}
use Rattle.dfa_table.specs.Runs.{IsTrim, AreToldApart}

-- any two states other than the start are told apart by a word
abbrev pub AreApart : DfaValue → Type 0
AreApart dfa = (first second : ℕ) →
    0 < first → first < second → second < length dfa.rows → AreToldApart dfa first second

-- every state is reached and reaches a final one, any two states but the start are told apart, and
-- the states are numbered in the order of discovery; the start is a state of its own, also where it
-- behaves as another one does
pub record IsLeast (dfa : DfaValue) : Type 0 where
  pub trim : IsTrim dfa
  pub apart : AreApart dfa
  pub order : IsInDiscoveryOrder dfa
  pub valid : IsDfa dfa
