-- What a queries file gives, by its parts: without going through it line by line. Whether a '^'
-- before a label takes it backwards is said by `inverses`.
use Rattle.std.specs.Prelude.{◌≡◌, ◌≢◌, ℕ, ◌+◌, Bool, not, ◌||◌, ◌⊎◌, ◌↔◌, List, [], ◌∷◌, ◌++◌}
use Rattle.std.specs.Prelude.{length, take, filter, Some, slice_get, Ok, Err}
use Rattle.text_parts.specs.Lines.{lines, is_blank_line, is_comment}
use Rattle.rpq_model.specs.Query.{Query}
use Rattle.query_file.specs.declared.fault.QueryFault.{QueryFault}
use Rattle.query_file.specs.declared.fault.QueryKind.TheVariants.{NoQuery}
use Rattle.query_file.specs.Queries.{IsQueryLine, fault_at, QueriesOf}
use Rattle.query_file.specs.QueryLine.{IsFirstFault, IsLineOf}

-- whether a line is neither blank nor a comment
abbrev pub is_query_line : List ℕ → Bool
is_query_line line = not (is_blank_line line || is_comment line)

-- the lines that are neither blank nor comments
abbrev pub query_lines : List (List ℕ) → List (List ℕ)
query_lines all = filter is_query_line all

-- the queries of these lines: one for each that is neither blank nor a comment, in their order;
-- each line has no fault behind the queries before its own
pub record AreQueriesOf (inverses : Bool) (all : List (List ℕ))
    (queries : List Query) : Type 0 where
  pub as_many : length queries ≡ length (query_lines all)
  pub each : (place : ℕ) (line : List ℕ) (query : Query) →
      slice_get (query_lines all) place ≡ Some line → slice_get queries place ≡ Some query →
      IsLineOf inverses (take place queries) line query

-- the fault is that of a line; the lines in front of it have none, and give these queries
pub record HasFirstFault (inverses : Bool) (all : List (List ℕ))
    (fault : QueryFault) : Type 0 where
  pub front : List (List ℕ)
  pub line : List ℕ
  pub rest : List (List ℕ)
  pub queries : List Query
  pub split : all ≡ front ++ line ∷ rest
  pub good : AreQueriesOf inverses front queries
  pub is_one : IsQueryLine line
  pub number : fault.line ≡ length front + 1
  pub first : IsFirstFault inverses queries line fault.kind

-- no line is a query, which is the fault
abbrev pub LacksQuery : List (List ℕ) → QueryFault → Type 0
LacksQuery all fault = (query_lines all ≡ []) × (fault ≡ fault_at (length all) NoQuery)

-- a file gives the queries of its lines, if there are any; or the first fault of a line, or that
-- no line is a query
pub record QueriesByParts (inverses : Bool) : Type 0 where
  pub ok : (bytes : List ℕ) (queries : List Query) →
      QueriesOf inverses bytes (Ok queries)
      ↔ ((queries ≢ []) × AreQueriesOf inverses (lines bytes) queries)
  pub err : (bytes : List ℕ) (fault : QueryFault) →
      QueriesOf inverses bytes (Err fault)
      ↔ (HasFirstFault inverses (lines bytes) fault ⊎ LacksQuery (lines bytes) fault)
