-- Raises of edges whose vertices have small numbers.
use Rattle.std.proofs.Common.{ℕ, List, Some}
use Rattle.rpq_base.specs.declared.data.Act.{Act}
use Rattle.rpq_base.specs.declared.data.Act.TheVariants.{Insert, Delete, Tick}
use Rattle.dfa_table.specs.DfaValue.{DfaValue}
use Rattle.name_table.specs.Names.{AreSmall}
use Rattle.window_clock.specs.Clock.{ClockValue}
use Rattle.source_tree.specs.declared.change.Change.{Change}
use Rattle.source_tree.specs.declared.change.Change.TheVariants.{Raise, Remove, Expire}
use Rattle.delta_forest.specs.Changes.{RaisesSmall}
use Rattle.query_index.specs.Stepping.{Suits}

-- the change that an act makes raises an edge by the numbers of its names, if it raises one
pub raises_small : (names : List (List ℕ)) (dfa : DfaValue) (clock : ClockValue) (time : ℕ)
    (act : Act) (change : Change) → AreSmall names →
    Suits names dfa clock time act (Some change) → RaisesSmall change
raises_small names dfa clock time (Insert edge until) (Raise id value) small is = (
  small edge.from id.from is.numbers.from,
  small edge.to id.to is.numbers.to,
)
raises_small names dfa clock time (Insert edge until) (Remove id) small is = absurd is
raises_small names dfa clock time (Insert edge until) (Expire now) small is = absurd is
raises_small names dfa clock time (Delete edge) (Raise id value) small is = absurd is
raises_small names dfa clock time (Delete edge) (Remove id) small is = tt
raises_small names dfa clock time (Delete edge) (Expire now) small is = absurd is
raises_small names dfa clock time Tick change small is = absurd is
