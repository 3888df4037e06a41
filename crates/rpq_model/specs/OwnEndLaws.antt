-- What the ends of inserts' own are meant to be, as laws.
-- Such an end is as that of a lease, or of the interval in which a fact of a stream is valid.
use Rattle.std.specs.Prelude.{◌≡◌, ℕ, ◌<◌, ◌≤◌, ◌↔◌, ◌⊎◌, max, true, List, Contains, Option}
use Rattle.std.specs.Prelude.{Some, None}
use Rattle.rpq_base.specs.OwnEnds.{own_end}
use Rattle.rpq_base.specs.declared.data.Edge.{Edge}
use Rattle.rpq_base.specs.declared.data.Act.{Act}
use Rattle.rpq_base.specs.declared.data.Entry.{Entry}
use Rattle.rpq_model.specs.Window.{WindowValue, Placed, Inserts, clock, is_in_window, is_seen}
use Rattle.rpq_model.specs.Window.{live_entries, edges_at}
use Rattle.rpq_model.specs.WindowLaws.{IsUndeletedAt, IsDeadline, IsDeadlineOf, IsTupleDeadline}
use Rattle.rpq_model.specs.Ends.{with_tick}

-- each insert has one deadline
abbrev pub InsertsHaveDeadlines : Type 0
InsertsHaveDeadlines = (window : WindowValue) (time : ℕ) (until : Option ℕ) → 0 < window.slide →
    (deadline : ℕ) × IsDeadlineOf window time until deadline
    × ((other : ℕ) → IsDeadlineOf window time until other → other ≡ deadline)

-- while it is in the window, an insert that no later entry deletes is live exactly below its own
-- end: the end isn't rounded to the slide
abbrev pub LiveBelowItsEnd : Type 0
LiveBelowItsEnd = (window : WindowValue) (now : ℕ) (entries : List Entry) (edge : Edge)
    (live : Placed) (end : ℕ) →
    IsUndeletedAt entries edge live.place live.entry →
    own_end live.entry.tuple.act ≡ Some end →
    is_in_window window now live.entry.tuple.time ≡ true →
    Contains (live_entries window now entries) live ↔ (now < end)

-- an insert whose end isn't above its own time is live in no history that has it, nor later
abbrev pub EarlyEndNeverLives : Type 0
EarlyEndNeverLives = (window : WindowValue) (now : ℕ) (history : List Entry) (live : Placed)
    (end : ℕ) →
    own_end live.entry.tuple.act ≡ Some end → end ≤ live.entry.tuple.time →
    clock history ≤ now → Contains (live_entries window now history) live → ⊥

-- an end that isn't below the deadline of the time changes nothing
abbrev pub EndBeyondTheWindow : Type 0
EndBeyondTheWindow = (window : WindowValue) (now time of_time end : ℕ) → 0 < window.slide →
    IsDeadline window time of_time → of_time ≤ end →
    is_seen window now time (Some end) ≡ is_seen window now time None

-- the inserts of the edge that no later entry deletes are these two
pub record AreItsInserts (entries : List Entry) (edge : Edge) (first second : Placed) : Type 0 where
  pub first_is : IsUndeletedAt entries edge first.place first.entry
  pub second_is : IsUndeletedAt entries edge second.place second.entry
  pub no_others : (other : Placed) → IsUndeletedAt entries edge other.place other.entry →
      (other ≡ first) ⊎ (other ≡ second)

-- of two inserts of an edge, with ends of their own or without, the later deadline decides
abbrev pub LaterDeadlineDecides : Type 0
LaterDeadlineDecides = (window : WindowValue) (now : ℕ) (entries : List Entry) (edge : Edge)
    (first second : Placed) (deadline other : ℕ) →
    0 < window.slide → AreItsInserts entries edge first second →
    IsTupleDeadline window first.entry.tuple deadline →
    IsTupleDeadline window second.entry.tuple other →
    Contains (edges_at window now entries) edge ↔ (now < max deadline other)

-- the act gives an end that is at most this one
abbrev pub HasEndBy : Act → ℕ → Type 0
HasEndBy act end = (until : ℕ) × (own_end act ≡ Some until) × (until ≤ end)

-- where each insert of an edge has an end, a tick at the last of them takes the edge out
abbrev pub TickAtTheEnd : Type 0
TickAtTheEnd = (window : WindowValue) (history : List Entry) (edge : Edge) (end : ℕ) →
    ((entry : Entry) → Contains history entry → Inserts entry.tuple.act edge →
    HasEndBy entry.tuple.act end) →
    Contains (edges_at window (clock (with_tick history end)) (with_tick history end)) edge → ⊥
