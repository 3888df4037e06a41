-- The summary of a history: its entries, its events and the answers over it, in numbers, and what
-- objects say.
use Rattle.std.specs.Prelude.{◌≡◌, ℕ, Bool, not, List, [], ◌∷◌, ◌++◌, length, map, count_by, codes}
use Rattle.std.specs.Prelude.{decimal}
use Rattle.std.specs.List.{AllZip, flat_map}
use Rattle.rpq_base.specs.declared.data.Entry.{Entry}
use Rattle.rpq_base.specs.declared.data.Event.{Event}
use Rattle.rpq_model.specs.Query.{Query, path_query}
use Rattle.two_way.specs.TwoWay.{walked, AreAllWalkedEvents}
use Rattle.answer_rows.specs.Answers.{Answer}
use Rattle.answer_view.specs.View.{AreRowsOf}

-- the events of all entries, one after another
abbrev pub all_of : List (List Event) → List Event
all_of events = flat_map (λ own. own) events

-- how many events add a pair
abbrev pub additions : List Event → ℕ
additions events = count_by (λ event. event.added) events

-- how many events retract a pair
abbrev pub retractions : List Event → ℕ
retractions events = count_by (λ event. not event.added) events

-- a line that ends with a number
abbrev pub number_line : List ℕ → ℕ → List ℕ
number_line front number = front ++ decimal number ++ codes "\n"

-- the lines of so many entries, and of so many events that add and that retract
unfoldable pub total_lines : ℕ → ℕ → ℕ → List ℕ
total_lines entries added retracted =
    number_line (codes "entries ") entries ++ number_line (codes "added ") added
    ++ number_line (codes "retracted ") retracted

-- the line of a query: its name, and how many answers it has
unfoldable pub query_line : Query → ℕ → List ℕ
query_line query answers = codes "query " ++ query.name ++ number_line (codes " ") answers

-- the lines of the queries, in their order, each with the number of its answers
abbrev pub query_lines : List Query → List ℕ → List ℕ
query_lines [] counts = []
query_lines (query ∷ queries) [] = []
query_lines (query ∷ queries) (count ∷ counts) =
    query_line query count ++ query_lines queries counts

-- the lines of what is said
abbrev pub said_lines : List (List ℕ) → List ℕ
said_lines said = flat_map (λ own. own ++ codes "\n") said

-- the text of a summary: the numbers of the entries and of the events that add and that retract,
-- then for each query the number of its answers, and then what is said
abbrev pub summary_text : ℕ → ℕ → ℕ → List Query → List ℕ → List (List ℕ) → List ℕ
summary_text entries added retracted queries counts said =
    total_lines entries added retracted ++ query_lines queries counts ++ said_lines said

-- the text is the summary of the history of its entries, of the events that these bring, of the
-- answers of each query over them, and of what is said; where edges may be taken backwards, the
-- events and the answers are those over the entries with their inverses
pub record IsSummary (two_way : Bool) (queries : List Query) (history : List Entry)
    (said : List (List ℕ)) (text : List ℕ) : Type 0 where
  pub events : List (List Event)
  pub are_events : AreAllWalkedEvents two_way queries history events
  pub answers : List (List Answer)
  pub are_answers : AllZip (λ query own.
      AreRowsOf (path_query query) (walked two_way history) own) queries answers
  pub is : text ≡ summary_text (length history) (additions (all_of events))
      (retractions (all_of events)) queries (map (λ own. length own) answers) said
