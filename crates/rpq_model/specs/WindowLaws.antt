-- What the definitions of windows are meant to say, as laws.
use Rattle.std.specs.Prelude.{◌≡◌, ℕ, ◌+◌, ◌*◌, ◌<◌, ◌≤◌, ◌↔◌, ◌⊎◌, max, true, List, [], ◌∷◌, ◌++◌}
use Rattle.std.specs.Prelude.{Contains, AllPairs, Bool, Option, Some, slice_get}
use Rattle.rpq_base.specs.declared.data.Edge.{Edge}
use Rattle.rpq_base.specs.declared.data.Entry.{Entry}
use Rattle.rpq_base.specs.declared.data.Act.TheVariants.{Delete}
use Rattle.rpq_base.specs.OwnEnds.{own_end, at_most_end}
use Rattle.rpq_base.specs.TupleValue.{TupleValue}
use Rattle.rpq_model.specs.Window.{WindowValue, Placed, Inserts, clock, is_seen}
use Rattle.rpq_model.specs.Window.{live_entries, edges_at}

-- whether the edge of this tuple is still seen at a clock
abbrev pub is_tuple_seen : WindowValue → ℕ → TupleValue → Bool
is_tuple_seen window now tuple = is_seen window now tuple.time (own_end tuple.act)

-- ---- by places

-- the entry is the one at this place, from 0, and inserts the edge, and no entry at a later place
-- deletes it
pub record IsUndeletedAt (entries : List Entry) (edge : Edge) (place : ℕ)
    (entry : Entry) : Type 0 where
  pub there : slice_get entries place ≡ Some entry
  pub inserts : Inserts entry.tuple.act edge
  pub stays : (later : ℕ) (other : Entry) → place < later → slice_get entries later ≡ Some other →
      other.tuple.act ≡ Delete edge → ⊥

-- and the edge is seen at a clock
pub record IsLiveAt (window : WindowValue) (now : ℕ) (entries : List Entry) (edge : Edge)
    (place : ℕ) (entry : Entry) : Type 0 where
  pub undeleted : IsUndeletedAt entries edge place entry
  pub seen : is_tuple_seen window now entry.tuple ≡ true

-- the live entries are those that are live by their places
abbrev pub LiveByPlaces : Type 0
LiveByPlaces = (window : WindowValue) (now : ℕ) (entries : List Entry) (live : Placed) →
    Contains (live_entries window now entries) live
    ↔ ((edge : Edge) × IsLiveAt window now entries edge live.place live.entry)

-- and they come in the order of their places, each once
abbrev pub LiveInOrder : Type 0
LiveInOrder = (window : WindowValue) (now : ℕ) (entries : List Entry) →
    AllPairs (λ earlier later. earlier.place < later.place) (live_entries window now entries)

-- the live edges are those that an entry inserts which is live by its place
abbrev pub EdgesByPlaces : Type 0
EdgesByPlaces = (window : WindowValue) (now : ℕ) (entries : List Entry) (edge : Edge) →
    Contains (edges_at window now entries) edge
    ↔ ((place : ℕ) × (entry : Entry) × IsLiveAt window now entries edge place entry)

-- ---- by deadlines

-- the deadline of an edge of this time: the least multiple of the slide that is at least its time
-- and the size of the window together
pub record IsDeadline (window : WindowValue) (time deadline : ℕ) : Type 0 where
  pub multiple : (n : ℕ) × (deadline ≡ n * window.slide)
  pub reached : time + window.size ≤ deadline
  pub least : (n : ℕ) → time + window.size ≤ n * window.slide → deadline ≤ n * window.slide

-- the deadline of an insert of this time: that of its time, or its own end, if it has one that is
-- less
abbrev pub IsDeadlineOf : WindowValue → ℕ → Option ℕ → ℕ → Type 0
IsDeadlineOf window time until deadline =
    (of_time : ℕ) × IsDeadline window time of_time × (deadline ≡ at_most_end of_time until)

-- the deadline of the insert that this tuple is
abbrev pub IsTupleDeadline : WindowValue → TupleValue → ℕ → Type 0
IsTupleDeadline window tuple deadline = IsDeadlineOf window tuple.time (own_end tuple.act) deadline

-- each time has one deadline
abbrev pub TimesHaveDeadlines : Type 0
TimesHaveDeadlines = (window : WindowValue) (time : ℕ) → 0 < window.slide →
    (deadline : ℕ) × IsDeadline window time deadline
    × ((other : ℕ) → IsDeadline window time other → other ≡ deadline)

-- the deadline is that of an entry which is live at a clock
abbrev pub IsLiveDeadline : WindowValue → ℕ → List Entry → ℕ → Type 0
IsLiveDeadline window now entries deadline = (live : Placed)
    × Contains (live_entries window now entries) live
    × IsTupleDeadline window live.entry.tuple deadline

-- an insert that no later entry deletes is live exactly where its deadline is above the clock
abbrev pub LiveBelowDeadline : Type 0
LiveBelowDeadline = (window : WindowValue) (now : ℕ) (entries : List Entry) (edge : Edge)
    (live : Placed) (deadline : ℕ) →
    0 < window.slide → IsUndeletedAt entries edge live.place live.entry →
    IsTupleDeadline window live.entry.tuple deadline →
    Contains (live_entries window now entries) live ↔ (now < deadline)

-- a later clock sees less
abbrev pub LaterSeesLess : Type 0
LaterSeesLess = (window : WindowValue) (now later : ℕ) (entries : List Entry) (live : Placed) →
    0 < window.slide → now ≤ later →
    Contains (live_entries window later entries) live →
    Contains (live_entries window now entries) live

-- ---- one entry more

-- the entry inserts the edge, which is seen at a clock
abbrev pub IsSeenInsert : WindowValue → ℕ → Entry → Edge → Type 0
IsSeenInsert window now entry edge =
    Inserts entry.tuple.act edge × (is_tuple_seen window now entry.tuple ≡ true)

-- one entry more, at any clock: a live edge is the one that it inserts, if that is seen, or was
-- live before and isn't deleted by it; and the clock of the history is the greater of the clock
-- before and its time
pub record IsOneMore (window : WindowValue) (now : ℕ) (entries : List Entry)
    (last : Entry) : Type 0 where
  pub edges : (edge : Edge) → Contains (edges_at window now (entries ++ last ∷ [])) edge
      ↔ (IsSeenInsert window now last edge
      ⊎ (Contains (edges_at window now entries) edge × (last.tuple.act ≡ Delete edge → ⊥)))
  pub clocks : clock (entries ++ last ∷ []) ≡ max (clock entries) last.tuple.time

-- that is all that one entry more changes
abbrev pub OneEntryMore : Type 0
OneEntryMore = (window : WindowValue) (now : ℕ) (entries : List Entry) (last : Entry) →
    IsOneMore window now entries last

-- a delete takes each insert of its edge before it
abbrev pub DeleteTakesAllBefore : Type 0
DeleteTakesAllBefore =
    (window : WindowValue) (now : ℕ) (entries : List Entry) (last : Entry) (edge : Edge) →
    last.tuple.act ≡ Delete edge → Contains (edges_at window now (entries ++ last ∷ [])) edge → ⊥

-- an insert is live while it is in the window and before its own end, also a late one, and also one
-- after a delete of its edge
abbrev pub LastInsertIsSeen : Type 0
LastInsertIsSeen = (window : WindowValue) (now : ℕ) (entries : List Entry) (last : Entry)
    (edge : Edge) →
    IsSeenInsert window now last edge → Contains (edges_at window now (entries ++ last ∷ [])) edge
