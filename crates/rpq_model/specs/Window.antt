-- Windows, the clock of a history, and the entries that a query sees: those that are live at a
-- clock.
-- Source: the time-based sliding windows of Pacaci, Bonifati and Özsu, SIGMOD 2020, here with late
-- tuples, ticks and deletes by position. An end of its own is to an insert what the end of a lease
-- is to its holder, or the end of a valid-time interval to a fact: it holds before that time alone.
use Rattle.std.specs.Prelude.{◌≡◌, ℕ, suc, ◌+◌, ◌*◌, ◌/◌, ◌≤◌, max, Bool, false, not, ◌&&◌}
use Rattle.std.specs.Prelude.{nat_lt, List, [], ◌∷◌, Option, Some, None, map, fold, if◌then◌else◌}
use Rattle.std.specs.List.{list_any, filter_map}
use Rattle.rpq_base.specs.OwnEnds.{is_before_end}
use Rattle.rpq_base.specs.Same.{same_edge}
use Rattle.rpq_base.specs.declared.data.TheConstants.{MAX_TIME}
use Rattle.rpq_base.specs.declared.data.Edge.{Edge}
use Rattle.rpq_base.specs.declared.data.Act.{Act}
use Rattle.rpq_base.specs.declared.data.Act.TheVariants.{Insert, Delete, Tick}
use Rattle.rpq_base.specs.declared.data.Entry.{Entry}

-- how long a window is, and at the multiples of which number it moves
pub record WindowValue : Type 0 where
  pub size : ℕ
  pub slide : ℕ

-- the size and the slide of a window are from 1 to the greatest time
pub record HasBounds (window : WindowValue) : Type 0 where
  pub size_from : 1 ≤ window.size
  pub size_to : window.size ≤ MAX_TIME
  pub slide_from : 1 ≤ window.slide
  pub slide_to : window.slide ≤ MAX_TIME

-- the greatest time so far, and 0 before any
abbrev pub clock : List Entry → ℕ
clock history = fold max 0 (map (λ entry. entry.tuple.time) history)

-- whether an edge of this time is still in the window at a clock: the window slides at the
-- multiples of its slide
abbrev pub is_in_window : WindowValue → ℕ → ℕ → Bool
is_in_window window now time = nat_lt (now / window.slide * window.slide) (time + window.size)

-- whether an edge of this time, with this end of its own if it has one, is still seen at a clock:
-- it is in the window, and the clock is before the end, whatever the slide
abbrev pub is_seen : WindowValue → ℕ → ℕ → Option ℕ → Bool
is_seen window now time until = is_in_window window now time && is_before_end now until

-- the edge that an act inserts
abbrev pub inserted_edge : Act → Option Edge
inserted_edge (Insert edge until) = Some edge
inserted_edge (Delete edge) = None
inserted_edge Tick = None

-- the act inserts the edge, with an end of its own or without
abbrev pub Inserts : Act → Edge → Type 0
Inserts act edge = inserted_edge act ≡ Some edge

-- whether an act deletes the edge
abbrev pub deletes : Edge → Act → Bool
deletes edge (Insert other until) = false
deletes edge (Delete other) = same_edge edge other
deletes edge Tick = false

-- whether one of the entries deletes the edge
abbrev pub is_deleted : List Entry → Edge → Bool
is_deleted entries edge = list_any (λ entry. deletes edge entry.tuple.act) entries

-- whether an act of this time is live at a clock, before these later entries: it inserts an edge
-- that is still seen and that none of them deletes
abbrev pub is_live_act : WindowValue → ℕ → ℕ → Act → List Entry → Bool
is_live_act window now time (Insert edge until) later =
    is_seen window now time until && not (is_deleted later edge)
is_live_act window now time (Delete edge) later = false
is_live_act window now time Tick later = false

-- whether an entry is live at a clock, before these later entries
abbrev pub is_live : WindowValue → ℕ → Entry → List Entry → Bool
is_live window now entry later = is_live_act window now entry.tuple.time entry.tuple.act later

-- an entry and its place in a history, from 0
pub record Placed : Type 0 where
  pub place : ℕ
  pub entry : Entry

-- the entries that are live at a clock, in order, where the first of these entries has this place
unfoldable pub live_from : WindowValue → ℕ → ℕ → List Entry → List Placed
live_from window now place [] = []
live_from window now place (entry ∷ later) =
    if is_live window now entry later
    then record { place = place; entry = entry } ∷ live_from window now (suc place) later
    else live_from window now (suc place) later

-- the entries of a history that are live at a clock, which may be any number, in order of place
abbrev pub live_entries : WindowValue → ℕ → List Entry → List Placed
live_entries window now entries = live_from window now 0 entries

-- the edges that these entries insert
abbrev pub inserted_edges : List Placed → List Edge
inserted_edges live = filter_map (λ each. inserted_edge each.entry.tuple.act) live

-- the edges of the entries that are live at a clock, in order of place
abbrev pub edges_at : WindowValue → ℕ → List Entry → List Edge
edges_at window now entries = inserted_edges (live_entries window now entries)
