-- What an entry does to an engine.
use Rattle.std.specs.Prelude.{◌≡◌, ◌+◌, ◌<◌, true, List, [], ◌∷◌, ◌++◌, length, All}
use Rattle.rpq_base.specs.declared.data.Entry.{Entry}
use Rattle.rpq_base.specs.declared.data.Event.{Event}
use Rattle.rpq_model.specs.QueryEvents.{AreAllEventsFrom, AreEntryEvents}
use Rattle.name_table.specs.Names.{KeepsNumbers}
use Rattle.path_engine.specs.Engine.{EngineValue, StandsFor, definitions, forests}
use Rattle.path_engine.specs.Keeping.{BringsNoName, KeepForestsThrough, KeepsPlaces}

-- the engine answered the entry by these events: of each history that it stood for these are the
-- events of the entry, and now it stands for the history with the entry behind; it keeps what it
-- has of names and trees, and numbers no name in vain; each event has the number of a query, and
-- one entry more was fed
pub record Feeds (old : EngineValue) (entry : Entry) (new : EngineValue) (answer : List Event)
    : Type 0 where
  pub stands : (history : List Entry) → StandsFor old history →
      StandsFor new (history ++ entry ∷ [])
  pub events : (history : List Entry) → StandsFor old history →
      AreEntryEvents (definitions old) history entry answer
  pub keeps : KeepsPlaces entry.tuple.act old new
  pub names : BringsNoName entry.tuple.act old.queries → new.names ≡ old.names
  pub numbers : All (λ (event : Event). event.query < length old.queries) answer
  pub position : new.position ≡ old.position + 1

-- the engine answered the entries one after another, each by the events in its place: of each
-- history that it stood for these are the events of each entry over the history with the entries
-- before it, now it stands for the history with all entries behind, and with each entry it keeps
-- what it has of trees; it keeps the numbers of names, and numbers none where no entry brings one;
-- each event has the number of a query, and as many entries more were fed
pub record FeedsFront (old : EngineValue) (entries : List Entry) (new : EngineValue)
    (answers : List (List Event)) : Type 0 where
  pub stands : (history : List Entry) → StandsFor old history → StandsFor new (history ++ entries)
  pub events : (history : List Entry) → StandsFor old history →
      AreAllEventsFrom (definitions old) history entries answers
  pub keeps : (history : List Entry) → StandsFor old history →
      KeepForestsThrough entries old.queries new.names history (forests old) (forests new)
  pub known : KeepsNumbers old.names new.names
  pub names : All (λ (entry : Entry). BringsNoName entry.tuple.act old.queries) entries →
      new.names ≡ old.names
  pub numbers : All (λ (answer : List Event).
      All (λ (event : Event). event.query < length old.queries) answer) answers
  pub position : new.position ≡ old.position + length entries

-- the engine answers no more until it is rebuilt, and counts no entry more
pub record Spends (old new : EngineValue) : Type 0 where
  pub spent : new.spent ≡ true
  pub position : new.position ≡ old.position
