-- What an engine does with the entries of a history, whose edges its queries may take backwards.
use Rattle.std.specs.Prelude.{◌<◌, Bool, List, ◌++◌, length, All}
use Rattle.rpq_base.specs.declared.data.Entry.{Entry}
use Rattle.rpq_base.specs.declared.data.Event.{Event}
use Rattle.name_table.specs.Names.{KeepsNumbers}
use Rattle.path_engine.specs.Engine.{EngineValue, StandsFor, definitions, forests}
use Rattle.path_engine.specs.Keeping.{KeepForestsThrough}
use Rattle.two_way.specs.TwoWay.{walked, AreAllWalkedEventsFrom}

-- the engine answered the entries, each by the events in its place: of each history over which it
-- stood for what queries are evaluated over these are the events of each entry behind the history
-- and the entries before it, now it stands so for the history with all entries behind, and with
-- each entry that it was fed it keeps what it has of trees; it keeps the numbers of names, and each
-- event has the number of a query
pub record FeedsEntries (two_way : Bool) (old : EngineValue) (entries : List Entry)
    (new : EngineValue) (lists : List (List Event)) : Type 0 where
  pub stands : (history : List Entry) → StandsFor old (walked two_way history) →
      StandsFor new (walked two_way (history ++ entries))
  pub events : (history : List Entry) → StandsFor old (walked two_way history) →
      AreAllWalkedEventsFrom two_way (definitions old) history entries lists
  pub keeps : (history : List Entry) → StandsFor old (walked two_way history) →
      KeepForestsThrough (walked two_way entries) old.queries new.names (walked two_way history)
      (forests old) (forests new)
  pub known : KeepsNumbers old.names new.names
  pub numbers : All (λ (own : List Event).
      All (λ (event : Event). event.query < length old.queries) own) lists
