-- The same by its parts: which fields give a tuple, and which faults they have.
use Rattle.std.specs.Prelude.{◌≡◌, ◌≢◌, ℕ, ◌+◌, ◌-◌, ◌<◌, ◌≤◌, ◌⊎◌, ◌↔◌, IsTrue, codes}
use Rattle.std.specs.Prelude.{List, [], ◌∷◌, ◌++◌, length, slice_index_or, Some, None, Ok, Err}
use Rattle.text_parts.specs.Lines.{is_blank_line, IsComment}
use Rattle.text_parts.specs.Fields.{fields}
use Rattle.text_parts.specs.Numbers.{IsDigitText, number_of}
use Rattle.rpq_base.specs.Names.{IsName}
use Rattle.rpq_base.specs.Plain.{IsPlainLabel}
use Rattle.rpq_base.specs.declared.data.TheConstants.{MAX_TIME}
use Rattle.rpq_base.specs.declared.data.Edge.{Edge}
use Rattle.rpq_base.specs.declared.data.Act.{Act}
use Rattle.rpq_base.specs.declared.data.Act.TheVariants.{Insert, Delete, Tick}
use Rattle.rpq_base.specs.declared.data.Tuple.{Tuple}
use Rattle.tuple_text.specs.Reading.{line_tuple}
use Rattle.tuple_text.specs.declared.read.BadLine.{BadLine}
use Rattle.tuple_text.specs.declared.read.BadLine.TheVariants.{Fields, Time, TimeRange}
use Rattle.tuple_text.specs.declared.read.BadLine.TheVariants.{BadName, Op, Until, Memory}

-- the field at a place, counted from 1
abbrev pub field_at : List (List ℕ) → ℕ → List ℕ
field_at list place = slice_index_or list (place - 1) []

-- an edge that a line may name: its names are names, and its label points forwards
pub record IsStreamEdge (edge : Edge) : Type 0 where
  pub from : IsName edge.from
  pub label : IsName edge.label.name
  pub to : IsName edge.to
  pub forwards : IsPlainLabel edge.label

-- the fields of an edge: its source, its label and its target
abbrev pub edge_fields : Edge → List (List ℕ)
edge_fields edge = edge.from ∷ edge.label.name ∷ edge.to ∷ []

-- a field that writes a time
pub record IsTimeText (time : ℕ) (text : List ℕ) : Type 0 where
  pub digits : IsDigitText text
  pub value : number_of text ≡ time
  pub range : time ≤ MAX_TIME

-- an act, and what fields follow the time for it
abbrev pub IsActOf : Act → List (List ℕ) → Type 0
IsActOf Tick list = list ≡ []
IsActOf (Insert edge None) list =
    IsStreamEdge edge × ((list ≡ edge_fields edge) ⊎ (list ≡ edge_fields edge ++ codes "+" ∷ []))
IsActOf (Insert edge (Some end)) list =
    IsStreamEdge edge
    × ((text : List ℕ) × IsTimeText end text
    × ((list ≡ edge_fields edge ++ codes "until" ∷ text ∷ [])
    ⊎ (list ≡ edge_fields edge ++ codes "+" ∷ codes "until" ∷ text ∷ [])))
IsActOf (Delete edge) list = IsStreamEdge edge × (list ≡ edge_fields edge ++ codes "-" ∷ [])

-- two fields that give no end: not the word, or no time behind it
abbrev pub GivesNoEnd : List ℕ → List ℕ → Type 0
GivesNoEnd word field = (word ≢ codes "until") ⊎ ¬ ((end : ℕ) × IsTimeText end field)

-- the fields write this tuple: first its time, and then its act
abbrev pub IsTupleOf : Tuple → List (List ℕ) → Type 0
IsTupleOf tuple list =
    (time : List ℕ) × (rest : List (List ℕ))
    × (list ≡ time ∷ rest) × IsTimeText tuple.time time × IsActOf tuple.act rest

-- the fields have this fault, whichever others they have
abbrev pub HasFault : BadLine → List (List ℕ) → Type 0
HasFault (Fields n) list =
    (n ≡ length list) × (n ≢ 1) × (n ≢ 4) × (n ≢ 5) × (n ≢ 6) × (n ≢ 7)
HasFault Time list = ¬ (IsDigitText (field_at list 1))
HasFault TimeRange list =
    IsDigitText (field_at list 1) × (MAX_TIME < number_of (field_at list 1))
HasFault (BadName place) list =
    (2 ≤ place) × (place ≤ 4) × (place ≤ length list) × ¬ (IsName (field_at list place))
HasFault Op list =
    ((length list ≡ 5) × (field_at list 5 ≢ codes "+") × (field_at list 5 ≢ codes "-"))
    ⊎ ((length list ≡ 7) × (field_at list 5 ≢ codes "+"))
HasFault Until list =
    ((length list ≡ 6) × GivesNoEnd (field_at list 5) (field_at list 6))
    ⊎ ((length list ≡ 7) × GivesNoEnd (field_at list 6) (field_at list 7))
HasFault Memory list = ⊥

-- the place of a fault in the order in which they are tested, names from field 2 to field 4
abbrev pub rank : BadLine → ℕ
rank (Fields n) = 1
rank Time = 2
rank TimeRange = 3
rank (BadName place) = 2 + place
rank Op = 7
rank Until = 8
rank Memory = 9

-- the fields have this fault, and none that is tested before it
pub record IsFirstFault (fault : BadLine) (list : List (List ℕ)) : Type 0 where
  pub has : HasFault fault list
  pub first : (other : BadLine) → HasFault other list → rank fault ≤ rank other

-- a line that gives nothing: a blank line or a comment
abbrev pub GivesNothing : List ℕ → Type 0
GivesNothing line = IsTrue (is_blank_line line) ⊎ IsComment line

-- exactly when a line gives nothing, which tuple, and which fault
pub record IsReadByParts (line : List ℕ) : Type 0 where
  pub nothing : (line_tuple line ≡ Ok None) ↔ GivesNothing line
  pub tuple : (tuple : Tuple)
      → (line_tuple line ≡ Ok (Some tuple))
      ↔ (¬ (GivesNothing line) × IsTupleOf tuple (fields line))
  pub fault : (fault : BadLine)
      → (line_tuple line ≡ Err fault)
      ↔ (¬ (GivesNothing line) × IsFirstFault fault (fields line))

abbrev pub LineByParts : Type 0
LineByParts = (line : List ℕ) → IsReadByParts line
