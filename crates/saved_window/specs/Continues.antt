-- What it means that one history stands in another's place, whatever follows.
use Rattle.std.specs.Prelude.{ℕ, ◌<◌, ◌↔◌, List, ◌++◌, All, Contains}
use Rattle.rpq_base.specs.declared.data.Entry.{Entry}
use Rattle.rpq_base.specs.declared.data.Pair.{Pair}
use Rattle.rpq_base.specs.declared.data.Event.{Event}
use Rattle.rpq_model.specs.Answers.{IsAnswer}
use Rattle.rpq_model.specs.Ends.{IsUntil}
use Rattle.rpq_model.specs.Query.{Query, path_query}
use Rattle.rpq_model.specs.QueryEvents.{AreEntryEvents}
use Rattle.saved_window.specs.Saved.{saved, first_stream}

-- one history stands in another's place for these queries: whatever entries follow, each query has
-- the same answers, with the same ends, and a further entry brings the same events
pub record StandsIn (queries : List Query) (history other : List Entry) : Type 0 where
  pub answers : (query : Query) → Contains queries query → (later : List Entry) (pair : Pair) →
      IsAnswer (path_query query) (history ++ later) pair
      ↔ IsAnswer (path_query query) (other ++ later) pair
  pub ends : (query : Query) → Contains queries query →
      (later : List Entry) (pair : Pair) (until : ℕ) →
      IsUntil (path_query query) (history ++ later) pair until
      ↔ IsUntil (path_query query) (other ++ later) pair until
  pub events : (later : List Entry) (entry : Entry) (events : List Event) →
      AreEntryEvents queries (history ++ later) entry events
      ↔ AreEntryEvents queries (other ++ later) entry events

-- what is saved of a history, as the first stream, stands in its place, where each query's window
-- slides, as that of each query definition does
abbrev pub SavedContinues : Type 0
SavedContinues = (queries : List Query) → All (λ query. 0 < query.window.slide) queries →
    (history : List Entry) → StandsIn queries history (first_stream (saved queries history))
