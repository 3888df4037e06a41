-- What holds of all steps that are allowed, as laws.
use Rattle.std.specs.Prelude.{◌≡◌, ℕ, ◌≤◌, ◌↔◌, List, ◌++◌}
use Rattle.rpq_base.specs.declared.data.Tuple.{Tuple}
use Rattle.history_model.specs.declared.line.Why.{Why}
use Rattle.history_model.specs.declared.line.CallAct.TheVariants.{Append, EndStream, Publish, Shut}
use Rattle.history_model.specs.Lines.{entries, IsShut}
use Rattle.history_model.specs.Follow.{MayCall}
use Rattle.history_model.specs.World.{Terms, Block, World, start}
use Rattle.history_model.specs.Steps.{Step, Appends, Ends, Shuts, Feeds, Publishes, Looks}
use Rattle.history_model.specs.Steps.{IsAllowed, IsBlockAt, after, after_all, AreAllowed}
use Rattle.history_model.specs.Safe.{IsBehind, IsSafe, IsPublished}

-- the steps are safe: the world after them is; whoever looks next gets what is published; no
-- reader's position has fallen; and what a reader got earlier are the answers still, at its
-- position, over all entries
pub record AreSafe (terms : Terms) (steps : List Step) : Type 0 where
  pub world : IsSafe terms (after_all start steps)
  pub look : (reader : ℕ) →
      IsPublished terms (after_all start steps)
      ((after (after_all start steps) (Looks reader)).readers reader)
  pub onward : (earlier later : List Step) (reader : ℕ) → steps ≡ earlier ++ later →
      ((after_all start earlier).readers reader).position
      ≤ ((after_all start steps).readers reader).position
  pub stays : (earlier later : List Step) (reader : ℕ) → steps ≡ earlier ++ later →
      IsBehind terms (after_all start steps) ((after_all start earlier).readers reader)

-- all steps that are allowed from the start are safe
abbrev pub CoreSafe : Type 0
CoreSafe = (terms : Terms) (steps : List Step) → AreAllowed terms start steps → AreSafe terms steps

-- the second world has the entries, the blocks and the published snapshot of the first
pub record IsStill (before later : World) : Type 0 where
  pub appended : entries later.lines ≡ entries before.lines
  pub fed : later.fed ≡ before.fed
  pub blocks : later.blocks ≡ before.blocks
  pub shown : later.shown ≡ before.shown

-- after a shut nothing is appended, fed or published
abbrev pub ShutIsFinal : Type 0
ShutIsFinal = (terms : Terms) (world : World) (step : Step) → IsShut world.lines →
    IsAllowed terms world step → IsStill world (after world step)

-- the steps that add a line are allowed exactly where their calls may come next; until a shut the
-- next entry may be fed, also where what was fed before isn't published; and anyone may look at any
-- time, also where nothing new is published
pub record AreCalls (terms : Terms) (world : World) : Type 0 where
  pub appends : (stream : ℕ) (tuple : Tuple) → IsAllowed terms world (Appends stream tuple)
      ↔ MayCall terms.streams terms.cap world.lines stream Append
  pub ends : (stream : ℕ) → IsAllowed terms world (Ends stream)
      ↔ MayCall terms.streams terms.cap world.lines stream EndStream
  pub shuts : (why : Why) → IsAllowed terms world (Shuts why)
      ↔ MayCall terms.streams terms.cap world.lines 0 (Shut why)
  pub publishes : IsAllowed terms world Publishes
      ↔ MayCall terms.streams terms.cap world.lines 0 (Publish world.fed)
  pub feeds : (block : Block) → IsBlockAt terms.queries (entries world.lines) world.fed block →
      (IsShut world.lines → ⊥) → IsAllowed terms world (Feeds block)
  pub looks : (reader : ℕ) → IsAllowed terms world (Looks reader)

abbrev pub StepsAreCalls : Type 0
StepsAreCalls = (terms : Terms) (world : World) → IsSafe terms world → AreCalls terms world
