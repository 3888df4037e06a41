-- The queries of a queries file, or the first fault of it, line by line. Whether a '^' before a
-- label takes it backwards is said by `inverses`.
use Rattle.std.specs.Prelude.{◌≡◌, ◌≢◌, ℕ, suc, ◌⊎◌, Bool, true, List, [], ◌∷◌, ◌++◌, Result, Ok}
use Rattle.std.specs.Prelude.{Err}
use Rattle.path_syntax.specs.Grammar.{one_way, two_way}
use Rattle.text_parts.specs.Lines.{lines, is_blank_line, IsComment}
use Rattle.rpq_model.specs.Query.{Query}
use Rattle.query_file.specs.declared.fault.QueryFault.{QueryFault}
use Rattle.query_file.specs.declared.fault.QueryKind.{QueryKind}
use Rattle.query_file.specs.declared.fault.QueryKind.TheVariants.{NoQuery}
use Rattle.query_file.specs.QueryLine.{IsFirstFault, IsLineOf}

-- a line that gives nothing: a blank one or a comment
abbrev pub IsPassedOver : List ℕ → Type 0
IsPassedOver line = (is_blank_line line ≡ true) ⊎ IsComment line

-- a line that gives a query or has a fault
abbrev pub IsQueryLine : List ℕ → Type 0
IsQueryLine line = IsPassedOver line → ⊥

-- this kind of fault in the line with this number, from 1
abbrev pub fault_at : ℕ → QueryKind → QueryFault
fault_at number kind = record { line = number; kind = kind }

-- what the lines give that follow so many lines with these queries: at the end the queries, of
-- which there is one at least; a line gives nothing, one more query, or the fault of the whole
pub data Gives (inverses : Bool) : List Query → ℕ → List (List ℕ) →
    Result (List Query) QueryFault → Type 0 where
  AtEnd : (queries : List Query) (count : ℕ) → queries ≢ [] →
      Gives inverses queries count [] (Ok queries)
  NoneAtEnd : (count : ℕ) → Gives inverses [] count [] (Err (fault_at count NoQuery))
  PassedOver : (queries : List Query) (count : ℕ) (line : List ℕ) (rest : List (List ℕ))
      (outcome : Result (List Query) QueryFault) → IsPassedOver line →
      Gives inverses queries (suc count) rest outcome →
      Gives inverses queries count (line ∷ rest) outcome
  OneMore : (queries : List Query) (count : ℕ) (line : List ℕ) (rest : List (List ℕ))
      (outcome : Result (List Query) QueryFault) (query : Query) → IsQueryLine line →
      IsLineOf inverses queries line query →
      Gives inverses (queries ++ query ∷ []) (suc count) rest outcome →
      Gives inverses queries count (line ∷ rest) outcome
  Faulty : (queries : List Query) (count : ℕ) (line : List ℕ) (rest : List (List ℕ))
      (kind : QueryKind) → IsQueryLine line → IsFirstFault inverses queries line kind →
      Gives inverses queries count (line ∷ rest) (Err (fault_at (suc count) kind))

-- what the bytes of a queries file give: its queries, or its first fault
abbrev pub QueriesOf : Bool → List ℕ → Result (List Query) QueryFault → Type 0
QueriesOf inverses bytes outcome = Gives inverses [] 0 (lines bytes) outcome

-- what they give where no label is taken backwards
abbrev pub Queries : List ℕ → Result (List Query) QueryFault → Type 0
Queries = QueriesOf one_way

-- what they give where a '^' before a label takes it backwards
abbrev pub TwoWayQueries : List ℕ → Result (List Query) QueryFault → Type 0
TwoWayQueries = QueriesOf two_way
