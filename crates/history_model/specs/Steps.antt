-- The steps of the world: where each is allowed, and what it does.
use Rattle.std.specs.Prelude.{◌≡◌, ℕ, ◌+◌, ◌<◌, ◌==◌, List, [], ◌∷◌, ◌++◌, Some, take, fold}
use Rattle.std.specs.Prelude.{slice_get, if◌then◌else◌}
use Rattle.rpq_base.specs.declared.data.Tuple.{Tuple}
use Rattle.rpq_base.specs.declared.data.Entry.{Entry}
use Rattle.rpq_model.specs.Query.{Query}
use Rattle.rpq_model.specs.QueryEvents.{AreEntryEvents}
use Rattle.history_model.specs.declared.line.Why.{Why}
use Rattle.history_model.specs.declared.line.Line.{Line}
use Rattle.history_model.specs.Lines.{append_line, end_line, publish_line, shut_line, entries}
use Rattle.history_model.specs.Lines.{IsShut}
use Rattle.history_model.specs.Legal.{IsLegal}
use Rattle.history_model.specs.World.{Terms, Block, World, pairs_after}

-- a stream appends a tuple; a stream ends; the engine shuts the history; the engine is fed an entry
-- and emits a block; the engine publishes; a reader looks
pub data Step : Type 0 where
  Appends : ℕ → Tuple → Step
  Ends : ℕ → Step
  Shuts : Why → Step
  Feeds : Block → Step
  Publishes : Step
  Looks : ℕ → Step

-- the block is that of the entry at this place of a history, from 0: the entry, and its events
-- after the entries before it
pub record IsBlockAt (queries : List Query) (history : List Entry) (place : ℕ)
    (block : Block) : Type 0 where
  pub entry : slice_get history place ≡ Some block.entry
  pub events : AreEntryEvents queries (take place history) block.entry block.events

-- the lines of the world stay legal with one more
abbrev pub StaysLegal : Terms → World → Line → Type 0
StaysLegal terms world line = IsLegal terms.streams terms.cap (world.lines ++ line ∷ [])

-- where a step is allowed
abbrev pub IsAllowed : Terms → World → Step → Type 0
IsAllowed terms world (Appends stream tuple) = StaysLegal terms world (append_line stream tuple)
IsAllowed terms world (Ends stream) = StaysLegal terms world (end_line stream)
IsAllowed terms world (Shuts why) = StaysLegal terms world (shut_line why)
IsAllowed terms world (Feeds block) =
    (IsShut world.lines → ⊥) × IsBlockAt terms.queries (entries world.lines) world.fed block
IsAllowed terms world Publishes =
    (IsShut world.lines → ⊥) × (world.shown.position < world.fed)
IsAllowed terms world (Looks reader) = Unit {0}

-- the world with one line more
abbrev pub with_line : World → Line → World
with_line world line = record world { lines = world.lines ++ line ∷ [] }

-- the world after a step
abbrev pub after : World → Step → World
after world (Appends stream tuple) = with_line world (append_line stream tuple)
after world (Ends stream) = with_line world (end_line stream)
after world (Shuts why) = with_line world (shut_line why)
after world (Feeds block) = record world {
  fed = world.fed + 1;
  kept = pairs_after world.kept block.events;
  blocks = world.blocks ++ block ∷ [];
}
after world Publishes = record (with_line world (publish_line world.fed)) {
  shown = record { position = world.fed; pairs = world.kept };
}
after world (Looks reader) = record world {
  readers = λ other. if other == reader then world.shown else world.readers other;
}

-- the world after these steps
abbrev pub after_all : World → List Step → World
after_all world steps = fold after world steps

-- each of the steps is allowed where it is taken
abbrev pub AreAllowed : Terms → World → List Step → Type 0
AreAllowed terms world [] = Unit {0}
AreAllowed terms world (step ∷ steps) =
    IsAllowed terms world step × AreAllowed terms (after world step) steps
