-- What the definitions are meant to say, as laws.
use Rattle.std.specs.Prelude.{◌≡◌, ◌↔◌, ℕ, ◌≤◌, Bool, List, ◌++◌, map, filter, flat_map, take}
use Rattle.std.specs.Prelude.{length, All, Some, Ok, codes, decimal, slice_get}
use Rattle.rpq_base.specs.Same.{same_name}
use Rattle.rpq_base.specs.declared.data.Entry.{Entry}
use Rattle.rpq_base.specs.declared.data.Pair.{Pair as PairOf}
use Rattle.rpq_model.specs.Answers.{PathQuery, IsAnswer, AreAnswers}
use Rattle.rpq_model.specs.Ends.{IsUntil}
use Rattle.rpq_model.specs.Query.{Query, path_query}
use Rattle.rpq_model.specs.Window.{clock as clock_of}
use Rattle.answer_rows.specs.Answers.{pair, AreTargets, end_of}
use Rattle.answer_rows.specs.declared.target.Target.{Target}
use Rattle.ask_text.specs.declared.ask.Ask.{Ask}
use Rattle.ask_text.specs.declared.ask.Ask.TheVariants.{Answers, From, Pair, Count, Until}
use Rattle.ask_text.specs.declared.ask.Ask.TheVariants.{Stats, Clock, Ends, To}
use Rattle.ask_text.specs.Asks.{asks}
use Rattle.ask_text.specs.Ranges.{IsSession}
use Rattle.ask_text.specs.Reply.{pair_line, end_line, count_line, query_front, IsReply}

-- what a file gives are at most 64 sessions about the queries
abbrev pub SessionsAreFew : Type 0
SessionsAreFew = (queries : List Query) (bytes : List ℕ) (sessions : List (List Ask)) →
    asks queries bytes ≡ Ok sessions →
    (length sessions ≤ 64) × All (IsSession (length queries)) sessions

-- an ask has one reply at a position of a history
abbrev pub OneReply : Type 0
OneReply = (queries : List Query) (history : List Entry) (position : ℕ) (ask : Ask) (ended : Bool)
    (text other : List ℕ) → IsReply queries history position ask ended text →
    IsReply queries history position ask ended other → text ≡ other

-- the text ends with these bytes
abbrev pub EndsWith : List ℕ → List ℕ → Type 0
EndsWith text last = (front : List ℕ) × (text ≡ front ++ last)

-- every reply to this ask, at a position of a history, ends with these bytes
abbrev pub IsTold : List Query → List Entry → ℕ → Ask → List ℕ → Type 0
IsTold queries history position ask last = (ended : Bool) (text : List ℕ) →
    IsReply queries history position ask ended text → EndsWith text last

-- the targets of a vertex among some pairs, in their order
abbrev pub targets : List ℕ → List PairOf → List (List ℕ)
targets from pairs = map (λ each. each.to) (filter (λ each. same_name each.from from) pairs)

-- the sources of a vertex among some pairs, in their order
abbrev pub sources : List ℕ → List PairOf → List (List ℕ)
sources to pairs = map (λ each. each.from) (filter (λ each. same_name each.to to) pairs)

-- the text ends with the number of the queries and a line for each of them, and this is the line of
-- the query with this number
pub record HasLine (queries number : ℕ) (line text : List ℕ) : Type 0 where
  pub lines : List (List ℕ)
  pub ends : EndsWith text
      (codes " stats " ++ decimal queries ++ codes "\n" ++ flat_map (λ each. each) lines)
  pub each : length lines ≡ queries
  pub own : slice_get lines number ≡ Some line

-- what is told of one pair: whether it is an answer over the entries up to the position, and when
-- it ends
pub record TellsPair (queries : List Query) (history : List Entry) (position number : ℕ)
    (query : Query) (from to : List ℕ) : Type 0 where
  pub yes : (ended : Bool) (text : List ℕ) →
      IsReply queries history position (Pair number from to) ended text →
      EndsWith text (codes " yes\n")
      ↔ IsAnswer (path_query query) (take position history) (pair from to)
  pub no : (ended : Bool) (text : List ℕ) →
      IsReply queries history position (Pair number from to) ended text →
      EndsWith text (codes " no\n")
      ↔ (IsAnswer (path_query query) (take position history) (pair from to) → ⊥)
  pub until : (until : ℕ) →
      IsUntil (path_query query) (take position history) (pair from to) until →
      IsTold queries history position (Until number from to)
      (codes " " ++ decimal until ++ codes "\n")
  pub none : (IsAnswer (path_query query) (take position history) (pair from to) → ⊥) →
      IsTold queries history position (Until number from to) (codes " none\n")

-- what is told of all pairs, where these are the answers over the entries up to the position, in
-- order and each once: they themselves, their number, alone and among the numbers of all queries,
-- the targets of a vertex, and its sources
pub record TellsPairs (queries : List Query) (history : List Entry) (position number : ℕ)
    (query : Query) (answers : List PairOf) : Type 0 where
  pub all : IsTold queries history position (Answers number)
      (query_front (codes " answers") query.name ++ decimal (length answers) ++ codes "\n"
      ++ flat_map pair_line answers)
  pub count : IsTold queries history position (Count number)
      (query_front (codes " count") query.name ++ decimal (length answers) ++ codes "\n")
  pub stats : (ended : Bool) (text : List ℕ) →
      IsReply queries history position Stats ended text →
      HasLine (length queries) number (count_line query.name (length answers)) text
  pub row : (from : List ℕ) → IsTold queries history position (From number from)
      (query_front (codes " from") query.name ++ from ++ codes " "
      ++ decimal (length (targets from answers)) ++ codes "\n"
      ++ flat_map (λ to. to ++ codes "\n") (targets from answers))
  pub column : (to : List ℕ) → IsTold queries history position (To number to)
      (query_front (codes " to") query.name ++ to ++ codes " "
      ++ decimal (length (sources to answers)) ++ codes "\n"
      ++ flat_map (λ from. from ++ codes "\n") (sources to answers))

-- the targets of a vertex over a history, each with the end of its pair, in order and each once
pub record AreEndsFrom (query : PathQuery) (history : List Entry) (from : List ℕ)
    (row : List Target) : Type 0 where
  pub sorted : AreTargets row
  pub exact : (to : List ℕ) (until : ℕ) →
      (end_of row to ≡ Some until) ↔ IsUntil query history (pair from to) until

-- the replies at a position tell the answers of the query over the entries up to there, and the
-- clock there
pub record RepliesTellAnswers (query : Query) : Type 0 where
  pub one : (queries : List Query) (history : List Entry) (position number : ℕ)
      (from to : List ℕ) → slice_get queries number ≡ Some query →
      TellsPair queries history position number query from to
  pub all : (queries : List Query) (history : List Entry) (position number : ℕ)
      (answers : List PairOf) → slice_get queries number ≡ Some query →
      AreAnswers (path_query query) (take position history) answers →
      TellsPairs queries history position number query answers
  pub ends : (queries : List Query) (history : List Entry) (position number : ℕ)
      (from : List ℕ) (row : List Target) → slice_get queries number ≡ Some query →
      AreEndsFrom (path_query query) (take position history) from row →
      IsTold queries history position (Ends number from)
      (query_front (codes " ends") query.name ++ from ++ codes " " ++ decimal (length row)
      ++ codes "\n" ++ flat_map end_line row)
  pub clock : (queries : List Query) (history : List Entry) (position : ℕ) →
      IsTold queries history position Clock
      (codes " clock " ++ decimal (clock_of (take position history)) ++ codes "\n")
