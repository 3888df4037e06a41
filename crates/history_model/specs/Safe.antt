-- What it means that the world is safe.
use Rattle.std.specs.Prelude.{◌≡◌, ℕ, ◌≤◌, ◌↔◌, IsTrue, List, Some, length, take, map, slice_get}
use Rattle.rpq_base.specs.declared.data.Entry.{Entry}
use Rattle.rpq_base.specs.declared.data.Pair.{Pair}
use Rattle.rpq_model.specs.Answers.{IsAnswer}
use Rattle.rpq_model.specs.Query.{Query, path_query}
use Rattle.rpq_model.specs.QueryEvents.{AreAllEvents}
use Rattle.history_model.specs.Lines.{entries, published}
use Rattle.history_model.specs.Legal.{IsLegal}
use Rattle.history_model.specs.World.{Terms, Pairs, Snapshot, Block, World}
use Rattle.history_model.specs.Steps.{IsBlockAt}

-- the blocks are those of a history: one for each of its entries, in order, and together they have
-- the events of all
pub record AreBlocks (queries : List Query) (history : List Entry)
    (blocks : List Block) : Type 0 where
  pub heads : map (λ block. block.entry) blocks ≡ history
  pub each : (place : ℕ) (block : Block) → slice_get blocks place ≡ Some block →
      IsBlockAt queries history place block
  pub all : AreAllEvents queries history (map (λ block. block.events) blocks)

-- the pairs are the answers over a history, of each query under its place
abbrev pub HoldsAnswers : List Query → List Entry → Pairs → Type 0
HoldsAnswers queries history pairs = (place : ℕ) (query : Query) (pair : Pair) →
    slice_get queries place ≡ Some query →
    IsTrue (pairs place pair) ↔ IsAnswer (path_query query) history pair

-- the pairs of a snapshot are the answers over as many entries of a history as its position says
abbrev pub ShowsAnswers : List Query → List Entry → Snapshot → Type 0
ShowsAnswers queries history snapshot =
    HoldsAnswers queries (take snapshot.position history) snapshot.pairs

-- what a reader got last isn't ahead of what was published last, and its pairs are the answers
-- there
pub record IsBehind (terms : Terms) (world : World) (snapshot : Snapshot) : Type 0 where
  pub position : snapshot.position ≤ world.shown.position
  pub answers : ShowsAnswers terms.queries (entries world.lines) snapshot

-- the world is safe: its lines are legal; the position that was published is that of the lines,
-- and isn't ahead of what was fed, which isn't ahead of the entries; the blocks are those of the
-- entries that were fed, and the pairs kept are the answers over them; what was published and what
-- the readers got are the answers at their positions
pub record IsSafe (terms : Terms) (world : World) : Type 0 where
  pub legal : IsLegal terms.streams terms.cap world.lines
  pub position : world.shown.position ≡ published world.lines
  pub shown_behind : world.shown.position ≤ world.fed
  pub fed_behind : world.fed ≤ length (entries world.lines)
  pub blocks : AreBlocks terms.queries (take world.fed (entries world.lines)) world.blocks
  pub kept : HoldsAnswers terms.queries (take world.fed (entries world.lines)) world.kept
  pub shown : ShowsAnswers terms.queries (entries world.lines) world.shown
  pub readers : (reader : ℕ) → IsBehind terms world (world.readers reader)

-- what a reader gets when it looks: the answers at the position that was published last
pub record IsPublished (terms : Terms) (world : World) (snapshot : Snapshot) : Type 0 where
  pub position : snapshot.position ≡ published world.lines
  pub answers : ShowsAnswers terms.queries (entries world.lines) snapshot
