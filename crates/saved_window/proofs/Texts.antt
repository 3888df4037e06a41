-- The text of tuples is read back.
use Rattle.std.proofs.Common.{◌≡◌, ℕ, ◌+◌, ◌-◌, ◌<◌, ◌≤◌, List, [], ◌∷◌, ◌++◌, length, map, Some}
use Rattle.std.proofs.Common.{None, Ok, refl, sym, ap, subst, ◌∙◌, inl, inr, arith, append_assoc, append-nil, get_or, take}
use Rattle.std.specs.Prelude.{All}
use Rattle.std.proofs.lemmas.List.{length-map, take_more, flat_map_more}
use Rattle.std.proofs.lemmas.List.Elements.{All-nil, All-cons, All-head, All-tail, All-push}
use Rattle.text_parts.specs.Lines.{IsLine, raw_lines, without_return, text_of}
use Rattle.text_parts.proofs.Cuts.{raw_lines_nil, raw_lines_first}
use Rattle.text_parts.proofs.LineLengths.{first_cut}
use Rattle.rpq_base.specs.OwnEnds.{own_end}
use Rattle.rpq_base.specs.TupleValue.{TupleValue}
use Rattle.rpq_base.specs.declared.data.TheConstants.{MAX_TIME}
use Rattle.rpq_base.specs.declared.data.Act.{Act}
use Rattle.rpq_base.specs.declared.data.Act.TheVariants.{Insert, Delete, Tick}
use Rattle.tuple_text.specs.Reading.{line_tuple}
use Rattle.tuple_text.specs.Parts.{IsActOf, LineByParts}
use Rattle.tuple_text.specs.Written.{written, IsStreamAct, IsStreamTuple, WrittenIsShort, WrittenLinesAreRead}
use Rattle.stream_tuples.specs.declared.ends.StreamEnd.TheVariants.{Whole}
use Rattle.stream_tuples.specs.declared.faults.FaultPolicy.{FaultPolicy}
use Rattle.stream_tuples.specs.StreamText.{StreamTuples, tuples_with, tuples_before, tuples_from}
use Rattle.stream_tuples.specs.StreamText.{reports_from}
use Rattle.stream_tuples.proofs.StreamTexts.{nothing_left}
use Rattle.stream_tuples.proofs.TupleLines.{GivesTuple, tuples_behind, reports_behind}
use Rattle.saved_window.specs.SavedText.{saved_text, SavedTextIsRead}

-- ---- a line that gives a tuple

-- the fields of an act are those of one that a line may name, whose end is in range
act_in_stream : (act : Act) (list : List (List ℕ)) → IsActOf act list →
    IsStreamAct act × ((until : ℕ) → own_end act ≡ Some until → until ≤ MAX_TIME)
act_in_stream (Insert edge None) list is = (is.0, λ until e. absurd cc)
act_in_stream (Insert edge (Some end)) list is = (is.0, λ until e. let same : end ≡ until = cc in omega (arith, same, is.1.1.range))
act_in_stream (Delete edge) list is = (is.0, λ until e. absurd cc)
act_in_stream Tick list is = (tt, λ until e. absurd cc)

-- a tuple that some line gives
pub in_stream : LineByParts → (line : List ℕ) (tuple : TupleValue) → line_tuple line ≡ Ok (Some tuple) → IsStreamTuple tuple
in_stream by_parts line tuple gives =
    let is = ((by_parts line).tuple tuple).0 gives in
    let fields = is.1 in
    let acts = act_in_stream tuple.act fields.1 fields.4 in
    record {
      range = record { time_to = fields.3.range; end_to = acts.1 };
      act = acts.0;
    }

-- ---- one line

-- a text that ends with a line feed has a line
some_line : (bytes : List ℕ) → 0 < length (raw_lines (bytes ++ 10 ∷ []))
some_line bytes = elim (first_cut bytes) [
  | inl one ↦ let is = ap length (raw_lines_first bytes [] one.0) in omega (arith, is)
  | inr cut ↦
      let joined : bytes ++ 10 ∷ [] ≡ cut.0 ++ 10 ∷ (cut.1 ++ 10 ∷ []) =
      ap (λ (text : List ℕ). text ++ 10 ∷ []) cut.2 ∙ append_assoc cut.0 (10 ∷ cut.1) (10 ∷ []) in
      let is = ap length (ap raw_lines joined ∙ raw_lines_first cut.0 (cut.1 ++ 10 ∷ []) cut.3) in
      omega (arith, is)
]

-- bytes that with a line feed are one line have none themselves
one_is_line : (bytes : List ℕ) → length (raw_lines (bytes ++ 10 ∷ [])) ≡ 1 → IsLine bytes
one_is_line bytes single = elim (first_cut bytes) [
  | inl one ↦ one.0
  | inr cut ↦
      let joined : bytes ++ 10 ∷ [] ≡ cut.0 ++ 10 ∷ (cut.1 ++ 10 ∷ []) =
      ap (λ (text : List ℕ). text ++ 10 ∷ []) cut.2 ∙ append_assoc cut.0 (10 ∷ cut.1) (10 ∷ []) in
      let is = ap length (ap raw_lines joined ∙ raw_lines_first cut.0 (cut.1 ++ 10 ∷ []) cut.3) in
      absurd (omega (arith, is, single, some_line cut.1))
]

-- what is written of a tuple is one line, which gives it
abbrev IsItsLine : TupleValue → Type 0
IsItsLine tuple = GivesTuple (written tuple) tuple

its_line : WrittenIsShort → WrittenLinesAreRead → (tuple : TupleValue) → IsStreamTuple tuple → IsItsLine tuple
its_line short lines_read tuple is =
    let raw = raw_lines (written tuple ++ 10 ∷ []) in
    let of_one : map line_tuple (map without_return raw) ≡ Ok (Some tuple) ∷ [] =
    ap (λ (text : List ℕ). map line_tuple (map without_return (raw_lines text))) (sym (append-nil (written tuple ++ 10 ∷ [])))
    ∙ lines_read (tuple ∷ []) (All-cons IsStreamTuple tuple [] is (All-nil IsStreamTuple)) in
    let single : length raw ≡ 1 = sym (length-map raw without_return) ∙ (sym (length-map (map without_return raw) line_tuple) ∙ ap length of_one) in
    let whole = one_is_line (written tuple) single in
    let cut : raw ≡ written tuple ∷ [] = raw_lines_first (written tuple) [] whole ∙ ap (λ (rest : List (List ℕ)). written tuple ∷ rest) raw_lines_nil in
    let first : line_tuple (without_return (written tuple)) ∷ [] ≡ Ok (Some tuple) ∷ [] =
    sym (ap (λ (lines : List (List ℕ)). map line_tuple (map without_return lines)) cut) ∙ of_one in
    record {
      whole = whole;
      short = let few = short tuple is in omega (arith, few);
      gives = cc;
    }

-- ---- many lines

all_its_lines : WrittenIsShort → WrittenLinesAreRead → (tuples : List TupleValue) → All IsStreamTuple tuples → All IsItsLine tuples
all_its_lines short lines_read [] are = All-nil IsItsLine
all_its_lines short lines_read (tuple ∷ tuples) are =
    All-cons IsItsLine tuple tuples (its_line short lines_read tuple (All-head IsStreamTuple tuple tuples are))
    (all_its_lines short lines_read tuples (All-tail IsStreamTuple tuple tuples are))

-- the text of the tuples is that of their lines
text_is : (tuples : List TupleValue) → text_of (map written tuples) ≡ saved_text tuples
text_is [] = refl
text_is (tuple ∷ tuples) = ap (λ (rest : List ℕ). (written tuple ++ 10 ∷ []) ++ rest) (text_is tuples)

-- ---- the whole text

module _ (tuples : List TupleValue) (are : All IsItsLine tuples) where
  read_in_front : (policy : FaultPolicy) (limit : ℕ) (rest : List ℕ)
      → length (saved_text tuples) ≤ limit → tuples_from policy 1 limit (saved_text tuples ++ rest)
      ≡ tuples_before tuples (tuples_from policy (length tuples + 1) (limit - length (saved_text tuples)) rest)
  read_in_front policy limit rest =
      subst (λ (text : List ℕ). length text ≤ limit → tuples_from policy 1 limit (text ++ rest)
      ≡ tuples_before tuples (tuples_from policy (length tuples + 1) (limit - length text) rest))
      (text_is tuples) (λ fits. tuples_behind written tuples are limit rest fits policy)

  read_alone : (policy : FaultPolicy) (limit : ℕ) → length (saved_text tuples) < limit
      → tuples_from policy 1 limit (saved_text tuples) ≡ tuples_with tuples Whole
  read_alone policy limit short =
      let left = limit - length (saved_text tuples) in
      ap (tuples_from policy 1 limit) (sym (append-nil (saved_text tuples)))
      ∙ (read_in_front policy limit [] (omega (arith, short))
      ∙ (ap (λ (rest : StreamTuples). tuples_before tuples rest)
      (nothing_left policy (length tuples + 1) left (omega (arith, short)))
      ∙ ap (λ (all : List TupleValue). tuples_with all Whole) (append-nil tuples)))

  none_reported : (limit : ℕ) (rest : List ℕ)
      → length (saved_text tuples) ≤ limit → reports_from 1 limit (saved_text tuples ++ rest)
      ≡ reports_from (length tuples + 1) (limit - length (saved_text tuples)) rest
  none_reported limit rest =
      subst (λ (text : List ℕ). length text ≤ limit → reports_from 1 limit (text ++ rest)
      ≡ reports_from (length tuples + 1) (limit - length text) rest)
      (text_is tuples) (λ fits. reports_behind written tuples are limit rest fits)

pub saved_text_is_read : WrittenIsShort → WrittenLinesAreRead → SavedTextIsRead
saved_text_is_read short lines_read policy tuples are =
    let its = all_its_lines short lines_read tuples are in
    record {
      alone = read_alone tuples its policy;
      in_front = read_in_front tuples its policy;
      reports = none_reported tuples its;
    }

-- ---- one line more

-- the tuples up to the next
up_to_next : (tuples : List TupleValue) (index : ℕ) (tuple : TupleValue) → index < length tuples → tuple ≡ get_or tuples index tuple →
    take index tuples ++ tuple ∷ [] ≡ take (index + 1) tuples
up_to_next tuples index tuple below is =
    ap (λ (each : TupleValue). take index tuples ++ each ∷ []) is ∙ sym (take_more tuples index tuple below)

-- their text
pub text_more : (tuples : List TupleValue) (index : ℕ) (tuple : TupleValue) (before text : List ℕ) →
    index < length tuples → tuple ≡ get_or tuples index tuple →
    text ≡ before ++ saved_text (take index tuples) → text ++ (written tuple ++ 10 ∷ []) ≡ before ++ saved_text (take (index + 1) tuples)
text_more tuples index tuple before text below is so_far =
    ap (λ (front : List ℕ). front ++ (written tuple ++ 10 ∷ [])) so_far
    ∙ (flat_map_more (λ (each : TupleValue). written each ++ 10 ∷ []) before (take index tuples) tuple
    ∙ ap (λ (front : List TupleValue). before ++ saved_text front) (up_to_next tuples index tuple below is))

-- and that a line may give each
pub stream_more : (tuples : List TupleValue) (index : ℕ) (tuple : TupleValue) → index < length tuples → tuple ≡ get_or tuples index tuple →
    All IsStreamTuple (take index tuples) → IsStreamTuple tuple → All IsStreamTuple (take (index + 1) tuples)
stream_more tuples index tuple below is so_far one =
    subst (All IsStreamTuple) (up_to_next tuples index tuple below is) (All-push IsStreamTuple (take index tuples) tuple so_far one)
