-- Paths that show an answer: entries of the window which join the pair as the query wants it, and
-- of which none can be replaced by one that makes the answer last longer.
use Rattle.std.specs.Prelude.{◌≡◌, ℕ, ◌<◌, ◌≤◌, List, All, Contains, map}
use Rattle.rpq_base.specs.declared.data.Entry.{Entry}
use Rattle.rpq_base.specs.declared.data.Pair.{Pair}
use Rattle.rpq_model.specs.Window.{WindowValue, Placed, clock, live_entries}
use Rattle.rpq_model.specs.Window.{inserted_edges, edges_at}
use Rattle.rpq_model.specs.WindowLaws.{IsTupleDeadline}
use Rattle.rpq_model.specs.Answers.{Joins, IsAnswer}
use Rattle.rpq_model.specs.Ends.{IsUntil}
use Rattle.rpq_model.specs.Query.{Query, language_of, path_query}
use Rattle.containment_laws.specs.Accepted.{IsAccepted}
use Rattle.path_witness.specs.Found.{position_of}

-- until when the answer lasts, and the positions of a path's entries, in its order
pub record Shown : Type 0 where
  pub until : ℕ
  pub positions : List ℕ

-- the entries are in the query's window, and in this order their edges are a path from the one
-- vertex of the pair to the other, whose word is in the query's language; a simple path for a
-- query that wants one
pub record IsWindowPath (query : Query) (history : List Entry) (pair : Pair)
    (path : List Placed) : Type 0 where
  pub seen : All (Contains (live_entries query.window (clock history) history)) path
  pub joins : Joins (edges_at query.window (clock history) history) (language_of query) query.mode
      pair (inserted_edges path)

-- this is the least of the deadlines of the entries
pub record IsLeastDeadline (window : WindowValue) (path : List Placed) (least : ℕ) : Type 0 where
  pub met : (each : Placed) × Contains path each × IsTupleDeadline window each.entry.tuple least
  pub from : (each : Placed) (deadline : ℕ) → Contains path each →
      IsTupleDeadline window each.entry.tuple deadline → least ≤ deadline

-- what is shown is a path for the pair, whose least deadline is the end of the answer
pub record Shows (query : Query) (history : List Entry) (pair : Pair) (shown : Shown) : Type 0 where
  pub path : List Placed
  pub positions : map position_of path ≡ shown.positions
  pub is_path : IsWindowPath query history pair path
  pub least : IsLeastDeadline query.window path shown.until
  pub until : IsUntil (path_query query) history pair shown.until

-- each answer of an accepted query has what shows it
abbrev pub AnswersAreShown : Type 0
AnswersAreShown = (query : Query) (history : List Entry) (pair : Pair) →
    0 < query.window.slide → IsAccepted query → IsAnswer (path_query query) history pair →
    (shown : Shown) × Shows query history pair shown
