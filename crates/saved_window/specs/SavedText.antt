-- The text of a saved window, and what it is as a stream.
use Rattle.std.specs.Prelude.{◌≡◌, ℕ, ◌+◌, ◌-◌, ◌<◌, ◌≤◌, List, [], ◌∷◌, ◌++◌, length, All}
use Rattle.std.specs.List.{flat_map}
use Rattle.text_parts.specs.Lines.{line_feed}
use Rattle.rpq_base.specs.TupleValue.{TupleValue}
use Rattle.tuple_text.specs.Written.{written, IsStreamTuple}
use Rattle.stream_tuples.specs.declared.ends.StreamEnd.TheVariants.{Whole}
use Rattle.stream_tuples.specs.declared.faults.FaultPolicy.{FaultPolicy}
use Rattle.stream_tuples.specs.StreamText.{tuples_with, tuples_before, tuples_from}
use Rattle.stream_tuples.specs.StreamText.{reports_from}

-- the written form of each tuple, followed by a line feed
abbrev pub saved_text : List TupleValue → List ℕ
saved_text tuples = flat_map (λ tuple. written tuple ++ line_feed ∷ []) tuples

-- as a stream, whatever its policy, the text of the tuples gives them, and is read to its end; and in
-- front of another text it gives them first, and then what the other text does, whose lines and
-- bytes count behind its own; whatever the limit of its bytes. None of its lines is told as faulty
pub record IsReadBack (policy : FaultPolicy) (tuples : List TupleValue) : Type 0 where
  pub alone : (limit : ℕ) → length (saved_text tuples) < limit →
      tuples_from policy 1 limit (saved_text tuples) ≡ tuples_with tuples Whole
  pub in_front : (limit : ℕ) (rest : List ℕ) → length (saved_text tuples) ≤ limit →
      tuples_from policy 1 limit (saved_text tuples ++ rest)
      ≡ tuples_before tuples
      (tuples_from policy (length tuples + 1) (limit - length (saved_text tuples)) rest)
  pub reports : (limit : ℕ) (rest : List ℕ) → length (saved_text tuples) ≤ limit →
      reports_from 1 limit (saved_text tuples ++ rest)
      ≡ reports_from (length tuples + 1) (limit - length (saved_text tuples)) rest

-- the text of tuples that a line may give is read back
abbrev pub SavedTextIsRead : Type 0
SavedTextIsRead = (policy : FaultPolicy) (tuples : List TupleValue) → All IsStreamTuple tuples
    → IsReadBack policy tuples
