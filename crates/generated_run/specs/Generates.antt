-- What a run over generated tuples is given, and what it does.
use Rattle.std.specs.Prelude.{◌≡◌, ℕ, ◌≤◌, min, Bool, List, ◌++◌, length, map, All, IsSome, IfSome}
use Rattle.rpq_base.specs.declared.data.Entry.{Entry}
use Rattle.rpq_base.specs.declared.data.Event.{Event}
use Rattle.rpq_model.specs.Query.{Query}
use Rattle.two_way.specs.TwoWay.{AreAllWalkedEvents}
use Rattle.containment_laws.specs.Accepted.{IsAccepted}
use Rattle.tuple_generator.specs.Generator.{generated_history}
use Rattle.standing.specs.Circles.{Parts, CircleValue, as_seen}
use Rattle.standing.specs.Objects.{ObjectValue}
use Rattle.standing.specs.Stood.{HaveStood}
use Rattle.generated_run.specs.declared.generation.Generation.{Generation}
use Rattle.generated_run.specs.declared.generation.GenerationResult.{GenerationResult}
use Rattle.generated_run.specs.Summary.{all_of, IsSummary}

-- the definitions of the queries, in order
abbrev pub queries_of : Generation → List Query
queries_of task = map (λ each. each.def) task.queries.items

-- what a run is given: from 1 to 64 queries, all accepted; and at most a million tuples
pub record IsGeneration (task : Generation) : Type 0 where
  pub some : 1 ≤ length task.queries.items
  pub few : length task.queries.items ≤ 64
  pub accepted : All (λ each. IsAccepted each.def) task.queries.items
  pub count : task.count ≤ 1000000

-- the objects were told of the events of the history, of queries that may take edges backwards or
-- not, and where `whole` holds, of all of them
pub record AreTold (two_way : Bool) (queries : List Query) (history : List Entry)
    (objects : List ObjectValue) (whole : Type 0) (circle : CircleValue) : Type 0 where
  pub events : List (List Event)
  pub are_events : AreAllWalkedEvents two_way queries history events
  pub told : HaveStood objects (all_of events) whole circle.members circle.left

-- what each object says: first those that stayed, then those that left
abbrev pub said_by : CircleValue → List (List ℕ)
said_by circle =
    map (λ object. object.said) circle.members ++ map (λ object. object.said) circle.left

-- the history has as many of the first generated tuples as are wanted and as it may have; the
-- objects were told of all events; and the summary is that of the history and of what they say.
-- Where there is no summary, memory ran out: there may be fewer tuples, and the objects were told
-- of the first events
pub record Generates {O : Type 0} (seen : O → ObjectValue) (task : Generation)
    (circle : Parts O) (run : GenerationResult O) : Type 0 where
  pub made : ℕ
  pub history : run.history.items ≡ generated_history made
  pub wanted : made ≤ task.count
  pub within : made ≤ task.limit
  pub all : IsSome run.summary → made ≡ min task.count task.limit
  pub told : AreTold task.two_way (queries_of task) run.history.items (map seen circle.members)
      (IsSome run.summary) (as_seen seen run.circle)
  pub summary : IfSome run.summary (λ text. IsSummary task.two_way (queries_of task)
      run.history.items (said_by (as_seen seen run.circle)) text.items)
