-- The live entries of an edge, and the one that lasts longest.
use Rattle.std.specs.Prelude.{◌≡◌, ℕ, ◌+◌, ◌<◌, ◌≤◌, ◌⊎◌, List, Contains, Option, IfSome, IfNone}
use Rattle.rpq_base.specs.declared.data.Edge.{Edge}
use Rattle.rpq_base.specs.declared.data.Entry.{Entry}
use Rattle.rpq_model.specs.Window.{WindowValue, Placed, Inserts, clock, live_entries}
use Rattle.rpq_model.specs.WindowLaws.{IsTupleDeadline}
use Rattle.path_witness.specs.declared.mark.Mark.{Mark}

-- the position of an entry with its place: positions count from 1
abbrev pub position_of : Placed → ℕ
position_of placed = placed.place + 1

-- the mark has the position and the deadline of an entry in the window that inserts the edge
pub record IsLiveMark (window : WindowValue) (history : List Entry) (edge : Edge)
    (mark : Mark) : Type 0 where
  pub live : Placed
  pub seen : Contains (live_entries window (clock history) history) live
  pub inserts : Inserts live.entry.tuple.act edge
  pub position : mark.position ≡ position_of live
  pub deadline : IsTupleDeadline window live.entry.tuple mark.deadline

-- a mark has no later deadline than another one, and where both have the same, no later position
abbrev pub IsAtMost : Mark → Mark → Type 0
IsAtMost mark other = (mark.deadline < other.deadline)
    ⊎ ((mark.deadline ≡ other.deadline) × (mark.position ≤ other.position))

-- the mark is that of the live entry of greatest deadline, and of those of the greatest position
pub record IsBestMark (window : WindowValue) (history : List Entry) (edge : Edge)
    (mark : Mark) : Type 0 where
  pub live : IsLiveMark window history edge mark
  pub best : (other : Mark) → IsLiveMark window history edge other → IsAtMost other mark

-- no entry of the edge is live
abbrev pub HasNoLiveMark : WindowValue → List Entry → Edge → Type 0
HasNoLiveMark window history edge = (mark : Mark) → IsLiveMark window history edge mark → ⊥

-- the best mark of the edge, or none where no entry of it is live
pub record IsFound (window : WindowValue) (history : List Entry) (edge : Edge)
    (found : Option Mark) : Type 0 where
  pub none : IfNone found (HasNoLiveMark window history edge)
  pub some : IfSome found (IsBestMark window history edge)
