-- The joins of a run, and what they make of the events of entries. Only private contracts cite this
-- file.
use Rattle.std.specs.Prelude.{◌≡◌, ℕ, false, List, [], ◌∷◌, length, Option, Some, None}
use Rattle.rpq_base.specs.declared.data.Entry.{Entry}
use Rattle.rpq_base.specs.declared.data.Event.{Event}
use Rattle.rpq_model.specs.Query.{Query}
use Rattle.join_bindings.specs.declared.event.JoinEvent.{JoinEvent}
use Rattle.join_bindings.specs.Events.{AreJoinEvents}
use Rattle.join_file.specs.Joins.{JoinValue}
use Rattle.join_bindings.specs.JoinText.{join_lines}
use Rattle.join_bindings.specs.Leading.{HoldAnswers}
use Rattle.join_bindings.specs.State.{JoinsValue, family, MayCome, ArePut}

-- these joins are kept with the answers of each query over the history; where nothing is kept,
-- there are none
abbrev pub HaveJoins : List JoinValue → List Query → List Entry → Option JoinsValue → Type 0
HaveJoins joins queries history None = joins ≡ []
HaveJoins joins queries history (Some state) =
    (state.joins ≡ joins) × (state.spent ≡ false) × HoldAnswers queries history state.pairs

-- joins that are kept can take these events
abbrev pub MayTake : Option JoinsValue → List Event → Type 0
MayTake None events = Unit {0}
MayTake (Some state) events = (state.spent ≡ false) × MayCome state.pairs events

-- the joins took the events, and these are the lines of the bindings that they lost and gained by
-- them
pub record HaveTaken (old : JoinsValue) (events : List Event) (new : JoinsValue) (lines : List ℕ)
    : Type 0 where
  pub same : new.joins ≡ old.joins
  pub sound : new.spent ≡ false
  pub many : length new.pairs ≡ length old.pairs
  pub put : ArePut old.pairs new.pairs events
  pub changes : List JoinEvent
  pub are : AreJoinEvents old.joins (family old.pairs) (family new.pairs) changes
  pub lines_are : lines ≡ join_lines old.joins changes

-- joins that are kept took the events; where none are, there are no lines
abbrev pub Takes : Option JoinsValue → List Event → Option JoinsValue → List ℕ → Type 0
Takes None events None lines = lines ≡ []
Takes None events (Some new) lines = ⊥
Takes (Some old) events None lines = ⊥
Takes (Some old) events (Some new) lines = HaveTaken old events new lines

-- they can take the events of one entry after another
abbrev pub MayTakeEach : Option JoinsValue → List (List Event) → Type 0
MayTakeEach old [] = Unit {0}
MayTakeEach old (events ∷ rest) = MayTake old events
    × ((next : Option JoinsValue) (lines : List ℕ) → Takes old events next lines →
    MayTakeEach next rest)

-- they took the events of one entry after another, each with the lines in its place
abbrev pub TakesEach : Option JoinsValue → List (List Event) → Option JoinsValue →
    List (List ℕ) → Type 0
TakesEach old [] new [] = new ≡ old
TakesEach old [] new (lines ∷ more) = ⊥
TakesEach old (events ∷ rest) new [] = ⊥
TakesEach old (events ∷ rest) new (lines ∷ more) = (next : Option JoinsValue)
    × Takes old events next lines × TakesEach next rest new more
