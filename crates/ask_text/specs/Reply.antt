-- What a reader is told.
use Rattle.std.specs.Prelude.{◌≡◌, ℕ, Bool, List, [], ◌++◌, map, length, flat_map, take, codes}
use Rattle.std.specs.Prelude.{decimal, Option, Some, None, is_some, slice_index_or, zip}
use Rattle.std.specs.Prelude.{if◌then◌else◌}
use Rattle.rpq_base.specs.declared.data.Pair.{Pair as PairOf}
use Rattle.rpq_base.specs.declared.data.Entry.{Entry}
use Rattle.rpq_model.specs.Query.{Query}
use Rattle.answer_rows.specs.declared.target.Target.{Target}
use Rattle.answer_rows.specs.Answers.{Answer, pair, pairs, row_of, sources_of, until_of}
use Rattle.answer_rows.specs.Listing.{source_line}
use Rattle.answer_view.specs.View.{ViewValue, rows_at, IsViewOf}
use Rattle.ask_text.specs.declared.ask.Ask.{Ask}
use Rattle.ask_text.specs.declared.ask.Ask.TheVariants.{Answers, From, Pair, Count, Wait, Until}
use Rattle.ask_text.specs.declared.ask.Ask.TheVariants.{Stats, Clock, Ends, To}

-- the name of the query with this number, from 0
abbrev pub name_at : List Query → ℕ → List ℕ
name_at queries number = slice_index_or (map (λ query. query.name) queries) number []

-- two vertices in a line
abbrev pub pair_line : PairOf → List ℕ
pair_line pair = pair.from ++ codes " " ++ pair.to ++ codes "\n"

-- a target in a line
abbrev pub target_line : Target → List ℕ
target_line target = target.to ++ codes "\n"

-- a target with the end of its pair in a line
abbrev pub end_line : Target → List ℕ
end_line target = target.to ++ codes " " ++ decimal target.until ++ codes "\n"

-- a query with the number of its answers in a line
abbrev pub count_line : List ℕ → ℕ → List ℕ
count_line name count = name ++ codes " " ++ decimal count ++ codes "\n"

-- what is asked, and the name of the query
abbrev pub query_front : List ℕ → List ℕ → List ℕ
query_front word name = word ++ codes " " ++ name ++ codes " "

-- all answers of a query
unfoldable pub answers_text : List ℕ → List Answer → List ℕ
answers_text name rows =
    query_front (codes "answers") name ++ decimal (length rows) ++ codes "\n"
    ++ flat_map pair_line (pairs rows)

-- a word about a vertex, and how many lines follow
abbrev pub vertex_front : List ℕ → List ℕ → List ℕ → ℕ → List ℕ
vertex_front word name vertex count =
    query_front word name ++ vertex ++ codes " " ++ decimal count ++ codes "\n"

-- the targets of a vertex among the answers of a query
unfoldable pub from_text : List ℕ → List ℕ → List Target → List ℕ
from_text name from row =
    vertex_front (codes "from") name from (length row) ++ flat_map target_line row

-- the targets of a vertex, each with the end of its pair
unfoldable pub ends_text : List ℕ → List ℕ → List Target → List ℕ
ends_text name from row =
    vertex_front (codes "ends") name from (length row) ++ flat_map end_line row

-- the sources of a vertex among the answers of a query
unfoldable pub to_text : List ℕ → List ℕ → List (List ℕ) → List ℕ
to_text name to sources =
    vertex_front (codes "to") name to (length sources) ++ flat_map source_line sources

-- a word about the pair of two vertices
unfoldable pub pair_text : List ℕ → List ℕ → List ℕ → List ℕ → List ℕ → List ℕ
pair_text word name from to said =
    query_front word name ++ from ++ codes " " ++ to ++ codes " " ++ said ++ codes "\n"

-- whether the pair is an answer
abbrev pub yes_or_no : Bool → List ℕ
yes_or_no holds = if holds then codes "yes" else codes "no"

-- when it ends
abbrev pub end_text : Option ℕ → List ℕ
end_text None = codes "none"
end_text (Some until) = decimal until

-- the number of answers of a query
unfoldable pub count_text : List ℕ → ℕ → List ℕ
count_text name count = query_front (codes "count") name ++ decimal count ++ codes "\n"

-- the number of answers of each query
unfoldable pub stats_text : List Query → List (List Answer) → List ℕ
stats_text queries all =
    codes "stats " ++ decimal (length queries) ++ codes "\n"
    ++ flat_map (λ each. count_line each.0.name (length each.1)) (zip queries all)

-- the clock
unfoldable pub clock_text : ℕ → List ℕ
clock_text clock = codes "clock " ++ decimal clock ++ codes "\n"

-- that the position was waited for, or that it can't come
unfoldable pub wait_text : ℕ → Bool → List ℕ
wait_text number ended =
    codes "wait " ++ decimal number ++ (if ended then codes " ended" else []) ++ codes "\n"

-- what is told behind the position
unfoldable pub told : List Query → ViewValue → Ask → Bool → List ℕ
told queries view (Answers query) ended = answers_text (name_at queries query) (rows_at view query)
told queries view (From query from) ended =
    from_text (name_at queries query) from (row_of (rows_at view query) from)
told queries view (Pair query from to) ended =
    pair_text (codes "pair") (name_at queries query) from to
    (yes_or_no (is_some (until_of (rows_at view query) (pair from to))))
told queries view (Count query) ended =
    count_text (name_at queries query) (length (rows_at view query))
told queries view (Wait number) ended = wait_text number ended
told queries view (Until query from to) ended =
    pair_text (codes "until") (name_at queries query) from to
    (end_text (until_of (rows_at view query) (pair from to)))
told queries view Stats ended = stats_text queries view.rows
told queries view Clock ended = clock_text view.clock
told queries view (Ends query from) ended =
    ends_text (name_at queries query) from (row_of (rows_at view query) from)
told queries view (To query to) ended =
    to_text (name_at queries query) to (sources_of (rows_at view query) to)

-- what a reader is told: the position, and what is asked for there
unfoldable pub reply : List Query → ViewValue → Ask → Bool → List ℕ
reply queries view ask ended =
    codes "@" ++ decimal view.position ++ codes " " ++ told queries view ask ended

-- the text is the reply over the answers and their ends after so many entries of a history
pub record IsReply (queries : List Query) (history : List Entry) (position : ℕ) (ask : Ask)
    (ended : Bool) (text : List ℕ) : Type 0 where
  pub view : ViewValue
  pub is_view : IsViewOf queries (take position history) view
  pub is_text : text ≡ reply queries view ask ended
