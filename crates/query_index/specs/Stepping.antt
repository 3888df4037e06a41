-- The changes that an entry makes in an index. No public contract cites this file.
use Rattle.std.specs.Prelude.{◌≡◌, ◌⊎◌, ℕ, ◌+◌, ◌<◌, ◌≤◌, max, Bool, false}
use Rattle.std.specs.Prelude.{List, [], Option, Some, None, if◌then◌else◌}
use Rattle.rpq_base.specs.declared.data.Edge.{Edge}
use Rattle.rpq_base.specs.declared.data.Act.{Act}
use Rattle.rpq_base.specs.declared.data.Act.TheVariants.{Insert, Delete, Tick}
use Rattle.rpq_base.specs.declared.data.Entry.{Entry}
use Rattle.dfa_table.specs.DfaValue.{DfaValue, place_of}
use Rattle.window_clock.specs.Clock.{ClockValue, IsDeadlineOf, IsSameWindow}
use Rattle.edge_store.specs.declared.edge.EdgeId.{EdgeId}
use Rattle.source_tree.specs.declared.change.Change.{Change}
use Rattle.source_tree.specs.declared.change.Change.TheVariants.{Raise, Remove, Expire}
use Rattle.source_tree.specs.declared.change.EndChange.{EndChange}
use Rattle.delta_forest.specs.Forest.{ForestValue, IsIndexed}
use Rattle.delta_forest.specs.Changes.{AreEndChangesOf, KeepsTrees, TakesChange}
use Rattle.index_laws.specs.Numbered.{HasNumbers}
use Rattle.query_index.specs.IndexValue.{IndexValue}
use Rattle.query_index.specs.Showing.{LeavesFresh}

-- an insert's edge is raised to its deadline, which is above the clock
pub record IsRaise (names : List (List ℕ)) (dfa : DfaValue) (clock : ClockValue) (time : ℕ)
    (edge : Edge) (until : Option ℕ) (id : EdgeId) (value : ℕ) : Type 0 where
  pub numbers : HasNumbers names dfa edge id
  pub deadline : IsDeadlineOf clock time until value
  pub above : clock.clock < value

-- the deadline is not above the clock
pub record IsPast (clock : ClockValue) (time : ℕ) (until : Option ℕ) (value : ℕ) : Type 0 where
  pub deadline : IsDeadlineOf clock time until value
  pub reached : value ≤ clock.clock

-- the change that an act of this time makes at the clock, if it makes one
abbrev pub Suits : List (List ℕ) → DfaValue → ClockValue → ℕ → Act → Option Change → Type 0
Suits names dfa clock time (Insert edge until) None =
    (place_of dfa edge.label ≡ None) ⊎ ((value : ℕ) × IsPast clock time until value)
Suits names dfa clock time (Insert edge until) (Some (Raise id value)) =
    IsRaise names dfa clock time edge until id value
Suits names dfa clock time (Insert edge until) (Some (Remove id)) = ⊥
Suits names dfa clock time (Insert edge until) (Some (Expire now)) = ⊥
Suits names dfa clock time (Delete edge) None = (id : EdgeId) → HasNumbers names dfa edge id → ⊥
Suits names dfa clock time (Delete edge) (Some (Remove id)) = HasNumbers names dfa edge id
Suits names dfa clock time (Delete edge) (Some (Raise id value)) = ⊥
Suits names dfa clock time (Delete edge) (Some (Expire now)) = ⊥
Suits names dfa clock time Tick None = Unit {0}
Suits names dfa clock time Tick (Some change) = ⊥

-- the forest took the change, with which these ends came or went
pub record HasApplied (change : Change) (old new : ForestValue) (log : List EndChange)
    : Type 0 where
  pub store : TakesChange change old.store new.store
  pub indexed : IsIndexed new
  pub keeps : KeepsTrees change old new
  pub changed : AreEndChangesOf old new log
  pub calls : new.calls ≡ old.calls + 1
  pub dfa : new.dfa ≡ old.dfa
  pub unbroken : new.broken ≡ false

-- the forest took the change, if there is one
abbrev pub MayHaveApplied : Option Change → ForestValue → ForestValue → List EndChange → Type 0
MayHaveApplied None old new log = (new ≡ old) × (log ≡ [])
MayHaveApplied (Some change) old new log = HasApplied change old new log

-- the ends that came or went with the last change of a forest, if they are asked for
abbrev pub log_if : Bool → ForestValue → List EndChange
log_if asked forest = if asked then forest.log else []

-- the clock went on, the forest expired and then took the change that suits the entry; these are
-- the ends that came or went with the one and with the other; the rows are as they were, and what
-- was touched is stale
pub record HasStepped (names : List (List ℕ)) (entry : Entry) (old new : IndexValue)
    (first second : List EndChange) : Type 0 where
  pub window : IsSameWindow old.clock new.clock
  pub time : new.clock.clock ≡ max old.clock.clock entry.tuple.time
  pub middle : ForestValue
  pub expired : HasApplied (Expire new.clock.clock) old.forest middle first
  pub change : Option Change
  pub suits : Suits names middle.dfa new.clock entry.tuple.time entry.tuple.act change
  pub changed : MayHaveApplied change middle new.forest second
  pub shown : new.shown ≡ old.shown
  pub fresh : LeavesFresh old.stale old.forest new.stale new.forest
