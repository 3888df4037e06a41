-- What a line of a stream gives: a tuple, nothing, or its first fault. The line stands without its
-- line feed and its carriage return.
use Rattle.std.specs.Prelude.{ℕ, ◌&&◌, ◌||◌, not, nat_le, false, bytes_eq, codes, if◌then◌else◌}
use Rattle.std.specs.Prelude.{List, [], ◌∷◌, length, Option, Some, None, Result, Ok, Err}
use Rattle.text_parts.specs.Lines.{is_blank_line, is_comment}
use Rattle.text_parts.specs.Fields.{fields}
use Rattle.text_parts.specs.Numbers.{is_digit_text, number_of}
use Rattle.rpq_base.specs.Names.{is_name}
use Rattle.rpq_base.specs.declared.data.TheConstants.{MAX_TIME}
use Rattle.rpq_base.specs.declared.data.Edge.{Edge}
use Rattle.rpq_base.specs.declared.data.Act.{Act}
use Rattle.rpq_base.specs.declared.data.Act.TheVariants.{Insert, Delete, Tick}
use Rattle.rpq_base.specs.declared.data.Tuple.{Tuple}
use Rattle.tuple_text.specs.declared.read.BadLine.{BadLine}
use Rattle.tuple_text.specs.declared.read.BadLine.TheVariants.{Fields, Time, TimeRange}
use Rattle.tuple_text.specs.declared.read.BadLine.TheVariants.{BadName, Op, Until}

-- a step and the next one, which takes what the first gave; the first fault ends the reading
infixl 10 ◌>>=◌
abbrev pub ◌>>=◌ : {A B : Type 0} → Result A BadLine → (A → Result B BadLine) → Result B BadLine
(Ok x) >>= next = next x
(Err fault) >>= next = Err fault

-- the time that a field writes: a digit text of at most the greatest time
unfoldable pub time_of : List ℕ → Result ℕ BadLine
time_of field =
    if not (is_digit_text field) then Err Time
    else if nat_le (number_of field) MAX_TIME then Ok (number_of field)
    else Err TimeRange

-- the name that the field at this place is
unfoldable pub name_of : ℕ → List ℕ → Result (List ℕ) BadLine
name_of place field = if is_name field then Ok field else Err (BadName place)

-- the edge from one vertex to another with a label that points forwards
abbrev pub edge_named : List ℕ → List ℕ → List ℕ → Edge
edge_named from label to =
    record { from = from; label = record { name = label; back = false }; to = to }

-- the edge that the second to the fourth field name
unfoldable pub edge_of : List ℕ → List ℕ → List ℕ → Result Edge BadLine
edge_of source label target = do
  from ← name_of 2 source
  name ← name_of 3 label
  to ← name_of 4 target
  Ok (edge_named from name to)

-- what a sign does with an edge: '+' inserts it, and '-' deletes it
unfoldable pub act_of : Edge → List ℕ → Result Act BadLine
act_of edge sign =
    if bytes_eq sign (codes "+") then Ok (Insert edge None)
    else if bytes_eq sign (codes "-") then Ok (Delete edge)
    else Err Op

-- the end that two fields give: the word, and a digit text of at most the greatest time
unfoldable pub end_of : List ℕ → List ℕ → Result ℕ BadLine
end_of word field =
    if bytes_eq word (codes "until") && is_digit_text field && nat_le (number_of field) MAX_TIME
    then Ok (number_of field)
    else Err Until

-- what a sign and an end do with an edge: '+' inserts it up to the end, and '-' takes none
unfoldable pub ending_of : Edge → List ℕ → Result ℕ BadLine → Result Act BadLine
ending_of edge sign until =
    if bytes_eq sign (codes "+") then (until >>= λ end. Ok (Insert edge (Some end))) else Err Op

-- the tuple of a time and an act
abbrev pub tuple_at : ℕ → Act → Tuple
tuple_at time act = record { time = time; act = act }

-- the tick at a time
unfoldable pub tick_of : List ℕ → Result Tuple BadLine
tick_of field = time_of field >>= λ time. Ok (tuple_at time Tick)

-- what is done with an edge at a time
abbrev pub done_at : List ℕ → List ℕ → List ℕ → List ℕ → (Edge → Result Act BadLine)
    → Result Tuple BadLine
done_at field source label target act_with = do
  time ← time_of field
  edge ← edge_of source label target
  act ← act_with edge
  Ok (tuple_at time act)

-- the insert or the delete of an edge at a time
unfoldable pub change_of : List ℕ → List ℕ → List ℕ → List ℕ → List ℕ → Result Tuple BadLine
change_of field source label target sign =
    done_at field source label target (λ edge. act_of edge sign)

-- the insert of an edge at a time, up to an end
unfoldable pub lasting_of : List ℕ → List ℕ → List ℕ → List ℕ → List ℕ → Result ℕ BadLine
    → Result Tuple BadLine
lasting_of field source label target sign until =
    done_at field source label target (λ edge. ending_of edge sign until)

-- the tuple that the fields of a line give: TIME, or TIME SOURCE LABEL TARGET with a sign or
-- without one, as an insert; behind an insert, `until` and an end
unfoldable pub tuple_of_fields : List (List ℕ) → Result Tuple BadLine
tuple_of_fields (time ∷ []) = tick_of time
tuple_of_fields (time ∷ source ∷ label ∷ target ∷ []) =
    change_of time source label target (codes "+")
tuple_of_fields (time ∷ source ∷ label ∷ target ∷ sign ∷ []) =
    change_of time source label target sign
tuple_of_fields (time ∷ source ∷ label ∷ target ∷ word ∷ end ∷ []) =
    lasting_of time source label target (codes "+") (end_of word end)
tuple_of_fields (time ∷ source ∷ label ∷ target ∷ sign ∷ word ∷ end ∷ []) =
    lasting_of time source label target sign (end_of word end)
tuple_of_fields others = Err (Fields (length others))

-- what a line gives: nothing where it is a blank line or a comment, else the tuple of its fields
unfoldable pub line_tuple : List ℕ → Result (Option Tuple) BadLine
line_tuple line =
    if is_blank_line line || is_comment line then Ok None
    else (tuple_of_fields (fields line) >>= λ tuple. Ok (Some tuple))
