-- What a line of an asks file gives: an ask, or its first fault. Lines stand without their line
-- feed and their carriage return.
use Rattle.std.specs.Prelude.{ℕ, bytes_eq, codes, if◌then◌else◌}
use Rattle.std.specs.Prelude.{List, [], ◌∷◌, Result, Ok, Err}
use Rattle.std.specs.Option.{ok_or}
use Rattle.text_parts.specs.Numbers.{number_within}
use Rattle.text_parts.specs.Reading.{◌>>=◌}
use Rattle.rpq_base.specs.Names.{is_name}
use Rattle.rpq_base.specs.declared.data.TheConstants.{MAX_TIME}
use Rattle.rpq_base.specs.declared.data.Pair.{Pair as PairOf}
use Rattle.rpq_model.specs.Query.{Query, query_named}
use Rattle.answer_rows.specs.Answers.{pair}
use Rattle.ask_text.specs.declared.ask.Ask.{Ask}
use Rattle.ask_text.specs.declared.ask.Ask.TheVariants.{Answers, From, Pair, Count, Wait, Until}
use Rattle.ask_text.specs.declared.ask.Ask.TheVariants.{Stats, Clock, Ends, To}
use Rattle.ask_text.specs.declared.fault.AskKind.{AskKind}
use Rattle.ask_text.specs.declared.fault.AskKind.TheVariants.{Shape, UnknownQuery, BadName, Number}

-- the vertex that a field names
unfoldable pub vertex_of : List ℕ → Result (List ℕ) AskKind
vertex_of field = if is_name field then Ok field else Err BadName

-- the position that a field writes
unfoldable pub position_of : List ℕ → Result ℕ AskKind
position_of field = ok_or (number_within MAX_TIME field) Number

-- an ask of one field
unfoldable pub ask_of_one : List ℕ → Result Ask AskKind
ask_of_one word =
    if bytes_eq word (codes "stats") then Ok Stats
    else if bytes_eq word (codes "clock") then Ok Clock
    else Err Shape

-- an ask of two fields
unfoldable pub ask_of_two : List Query → List ℕ → List ℕ → Result Ask AskKind
ask_of_two queries word field =
    if bytes_eq word (codes "answers") then
    (query_named UnknownQuery queries field >>= λ q. Ok (Answers q))
    else if bytes_eq word (codes "count") then
    (query_named UnknownQuery queries field >>= λ q. Ok (Count q))
    else if bytes_eq word (codes "wait") then (position_of field >>= λ n. Ok (Wait n))
    else Err Shape

-- a query and a vertex
unfoldable pub vertex_at : List Query → List ℕ → List ℕ → Result (ℕ × List ℕ) AskKind
vertex_at queries name field = do
  query ← query_named UnknownQuery queries name
  vertex ← vertex_of field
  Ok (query, vertex)

-- an ask of three fields
unfoldable pub ask_of_three : List Query → List ℕ → List ℕ → List ℕ → Result Ask AskKind
ask_of_three queries word name field =
    if bytes_eq word (codes "from") then
    (vertex_at queries name field >>= λ p. Ok (From p.0 p.1))
    else if bytes_eq word (codes "ends") then
    (vertex_at queries name field >>= λ p. Ok (Ends p.0 p.1))
    else if bytes_eq word (codes "to") then (vertex_at queries name field >>= λ p. Ok (To p.0 p.1))
    else Err Shape

-- a query and the pair of two vertices
unfoldable pub pair_of : List Query → List ℕ → List ℕ → List ℕ → Result (ℕ × PairOf) AskKind
pair_of queries name from to = do
  query ← query_named UnknownQuery queries name
  source ← vertex_of from
  target ← vertex_of to
  Ok (query, pair source target)

-- an ask of four fields
unfoldable pub ask_of_four : List Query → List ℕ → List ℕ → List ℕ → List ℕ → Result Ask AskKind
ask_of_four queries word name from to =
    if bytes_eq word (codes "pair") then
    (pair_of queries name from to >>= λ p. Ok (Pair p.0 p.1.from p.1.to))
    else if bytes_eq word (codes "until") then
    (pair_of queries name from to >>= λ p. Ok (Until p.0 p.1.from p.1.to))
    else Err Shape

-- the ask that the fields of a line give
unfoldable pub ask_of_fields : List Query → List (List ℕ) → Result Ask AskKind
ask_of_fields queries (word ∷ []) = ask_of_one word
ask_of_fields queries (word ∷ field ∷ []) = ask_of_two queries word field
ask_of_fields queries (word ∷ name ∷ field ∷ []) = ask_of_three queries word name field
ask_of_fields queries (word ∷ name ∷ from ∷ to ∷ []) = ask_of_four queries word name from to
ask_of_fields queries others = Err Shape
