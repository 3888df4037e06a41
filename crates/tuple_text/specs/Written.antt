-- Tuples as they are written: one space between fields, and always an insert's or a delete's sign.
use Rattle.std.specs.Prelude.{◌≡◌, ℕ, ◌+◌, ◌*◌, ◌≤◌, codes, decimal}
use Rattle.std.specs.Prelude.{List, [], ◌++◌, length, map, All, Option, Some, None, Ok}
use Rattle.text_parts.specs.Lines.{lines, text_of}
use Rattle.rpq_base.specs.TupleValue.{IsInRange}
use Rattle.rpq_base.specs.declared.data.Edge.{Edge}
use Rattle.rpq_base.specs.declared.data.Act.{Act}
use Rattle.rpq_base.specs.declared.data.Act.TheVariants.{Insert, Delete, Tick}
use Rattle.rpq_base.specs.declared.data.Tuple.{Tuple}
use Rattle.tuple_text.specs.Reading.{line_tuple}
use Rattle.tuple_text.specs.Parts.{IsStreamEdge}

-- an edge: its source, its label and its target, each after a space
abbrev pub written_edge : Edge → List ℕ
written_edge edge = codes " " ++ edge.from ++ codes " " ++ edge.label.name ++ codes " " ++ edge.to

-- the own end of an insert, if it has one, behind the word and each after a space
abbrev pub written_until : Option ℕ → List ℕ
written_until None = []
written_until (Some end) = codes " until " ++ decimal end

-- an act: nothing for a tick, else the edge, the sign and the own end
abbrev pub written_act : Act → List ℕ
written_act (Insert edge until) = written_edge edge ++ codes " +" ++ written_until until
written_act (Delete edge) = written_edge edge ++ codes " -"
written_act Tick = []

-- a tuple: its time in decimal, and its act
abbrev pub written : Tuple → List ℕ
written tuple = decimal tuple.time ++ written_act tuple.act

-- an act of an edge that a line may name, or a tick
abbrev pub IsStreamAct : Act → Type 0
IsStreamAct (Insert edge until) = IsStreamEdge edge
IsStreamAct (Delete edge) = IsStreamEdge edge
IsStreamAct Tick = Unit {0}

-- a tuple of such an act, with a time and an end in range: a tuple that some line gives
pub record IsStreamTuple (tuple : Tuple) : Type 0 where
  pub range : IsInRange tuple.time tuple.act
  pub act : IsStreamAct tuple.act

-- what is written is read as the tuple that it was
abbrev pub WrittenIsRead : Type 0
WrittenIsRead =
    (tuple : Tuple) → IsStreamTuple tuple → line_tuple (written tuple) ≡ Ok (Some tuple)

-- what is written has at most the 19 digits of a time, three names of 255 bytes and a sign, each of
-- these four after a space, the word of an end, and the 19 digits of the end
abbrev pub WrittenIsShort : Type 0
WrittenIsShort =
    (tuple : Tuple) → IsStreamTuple tuple
    → length (written tuple) ≤ 19 + 3 * (1 + 255) + 2 + 7 + 19

-- the lines of a text of written tuples, each followed by a line feed, are read as these tuples
abbrev pub WrittenLinesAreRead : Type 0
WrittenLinesAreRead =
    (tuples : List Tuple) → All IsStreamTuple tuples
    → map line_tuple (lines (text_of (map written tuples))) ≡ map (λ tuple. Ok (Some tuple)) tuples
