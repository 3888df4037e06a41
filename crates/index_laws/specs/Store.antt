-- The store of a history: its edges with live entries, each with the greatest deadline of these.
-- That an edge has the greatest one is this project's own rule.
use Rattle.std.specs.Prelude.{ℕ, List, [], ◌∷◌, ◌++◌, Contains, Option}
use Rattle.rpq_base.specs.declared.data.Edge.{Edge}
use Rattle.rpq_base.specs.declared.data.Entry.{Entry}
use Rattle.rpq_model.specs.Window.{WindowValue, Placed, Inserts, clock, live_entries}
use Rattle.rpq_model.specs.WindowLaws.{IsTupleDeadline}
use Rattle.tree_insert.specs.Best.{IsGreatestOf}

-- the clock once one entry more has followed a history
abbrev pub clock_after : List Entry → Entry → ℕ
clock_after history last = clock (history ++ last ∷ [])

-- the deadline is that of a live entry of the history, which inserts the edge
pub record HasDeadline (window : WindowValue) (history : List Entry) (edge : Edge)
    (deadline : ℕ) : Type 0 where
  pub live : Placed
  pub member : Contains (live_entries window (clock history) history) live
  pub inserts : Inserts live.entry.tuple.act edge
  pub due : IsTupleDeadline window live.entry.tuple deadline

-- the map from each edge with a live entry to the greatest deadline of its live entries, and from
-- each other edge to none
abbrev pub IsStoreOf : WindowValue → List Entry → (Edge → Option ℕ) → Type 0
IsStoreOf window history store =
    (edge : Edge) → IsGreatestOf (HasDeadline window history edge) (store edge)
