-- Some steps, and the world that they lead to.
use Rattle.std.specs.Prelude.{◌≡◌, List, [], ◌∷◌}
use Rattle.rpq_base.specs.declared.data.Entry.{Entry}
use Rattle.rpq_base.specs.declared.data.Event.{Event}
use Rattle.rpq_model.specs.Query.{Query}
use Rattle.rpq_model.specs.QueryEvents.{AreEntryEvents}
use Rattle.history_model.specs.declared.line.Why.TheVariants.{Write}
use Rattle.history_model.specs.Lines.{append_line, end_line, publish_line, shut_line}
use Rattle.history_model.specs.Examples.{tick}
use Rattle.history_model.specs.World.{World, start, pairs_after, no_pairs}
use Rattle.history_model.specs.Steps.{Step, Appends, Ends, Shuts, Feeds, Publishes, Looks}
use Rattle.history_model.specs.Steps.{after_all, AreAllowed}

-- the entries of this run
abbrev pub one_entry : Entry
one_entry = record { stream = 2; tuple = tick 8 }

abbrev pub other_entry : Entry
other_entry = record { stream = 1; tuple = tick 7 }

-- two streams append a tuple each; the engine is fed the first entry and publishes; a reader looks;
-- the engine is fed the second entry and publishes; another reader looks; the streams end, one of
-- them after a shut
abbrev pub some_steps : List Event → List Event → List Step
some_steps events others =
    Appends 2 (tick 8) ∷ Appends 1 (tick 7)
    ∷ Feeds (record { entry = one_entry; events = events }) ∷ Publishes ∷ Looks 2
    ∷ Feeds (record { entry = other_entry; events = others }) ∷ Publishes ∷ Looks 3
    ∷ Ends 2 ∷ Shuts Write ∷ Ends 1 ∷ []

-- what these steps lead to
pub record IsWorldOf (events others : List Event) (world : World) : Type 0 where
  pub lines : world.lines
      ≡ append_line 2 (tick 8) ∷ append_line 1 (tick 7) ∷ publish_line 1 ∷ publish_line 2
      ∷ end_line 2 ∷ shut_line Write ∷ end_line 1 ∷ []
  pub fed : world.fed ≡ 2
  pub kept : world.kept ≡ pairs_after (pairs_after no_pairs events) others
  pub shown : world.shown ≡ record { position = 2; pairs = world.kept }
  pub early : world.readers 2 ≡ record { position = 1; pairs = pairs_after no_pairs events }
  pub late : world.readers 3 ≡ world.shown
  pub never : (world.readers 4).position ≡ 0
  pub blocks : world.blocks
      ≡ record { entry = one_entry; events = events }
      ∷ record { entry = other_entry; events = others } ∷ []

-- the steps are allowed, with whatever events the entries bring, and lead there
pub record RunsSo (queries : List Query) (events others : List Event) : Type 0 where
  pub allowed : AreAllowed (record { queries = queries; streams = 2; cap = 2 }) start
      (some_steps events others)
  pub world : IsWorldOf events others (after_all start (some_steps events others))

abbrev pub RunExample : Type 0
RunExample = (queries : List Query) (events others : List Event) →
    AreEntryEvents queries [] one_entry events →
    AreEntryEvents queries (one_entry ∷ []) other_entry others → RunsSo queries events others
