-- The change that an act makes.
use Rattle.std.proofs.Common.{◌≡◌, ℕ, List, Option, sym, subst}
use Rattle.rpq_base.specs.declared.data.Act.{Act}
use Rattle.dfa_table.specs.DfaValue.{DfaValue}
use Rattle.window_clock.specs.Clock.{ClockValue}
use Rattle.edge_store.specs.declared.edge.EdgeId.{EdgeId}
use Rattle.source_tree.specs.declared.change.Change.{Change}
use Rattle.query_index.specs.Answering.{IsEdgeFor}
use Rattle.query_index.specs.Stepping.{Suits}

-- the same time and act
pub suits_same : (names : List (List ℕ)) (dfa : DfaValue) (clock : ClockValue)
    (time moment : ℕ) (act deed : Act) (id : Option EdgeId) (change : Option Change) →
    moment ≡ time → deed ≡ act →
    (IsEdgeFor names dfa deed id → Suits names dfa clock moment deed change) →
    IsEdgeFor names dfa act id → Suits names dfa clock time act change
suits_same names dfa clock time moment act deed id change time_is act_is given is =
    subst (λ (t : ℕ). Suits names dfa clock t act change) time_is
    (subst (λ (a : Act). Suits names dfa clock moment a change) act_is
    (given (subst (λ (a : Act). IsEdgeFor names dfa a id) (sym act_is) is)))
