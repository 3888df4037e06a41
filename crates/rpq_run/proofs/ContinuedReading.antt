-- What is read of a stream that begins with saved tuples, and which tuples a stream may give.
use Rattle.std.proofs.Common.{◌≡◌, ℕ, ◌+◌, ◌-◌, ◌<◌, ◌≤◌, Bool, true, false, List, [], ◌∷◌, ◌++◌, length}
use Rattle.std.proofs.Common.{Option, Some, None, Result, Ok, Err, refl, sym, ap, subst, ◌∙◌, inl, inr}
use Rattle.std.proofs.Common.{arith, append_assoc, length-append, take}
use Rattle.std.specs.Prelude.{All, nat_le, option_map, option_to_list, if◌then◌else◌}
use Rattle.std.proofs.lemmas.Bool.{cases_lt}
use Rattle.std.proofs.lemmas.List.Elements.{All-nil, All-cons, All-head, All-tail}
use Rattle.text_parts.specs.Lines.{IsLine, raw_lines, without_return, text_of}
use Rattle.text_parts.specs.EndedLines.{ended_lines, open_line}
use Rattle.rpq_base.specs.OwnEnds.{own_end}
use Rattle.rpq_base.specs.declared.data.TheConstants.{MAX_TIME}
use Rattle.rpq_base.specs.declared.data.Act.{Act}
use Rattle.rpq_base.specs.declared.data.Act.TheVariants.{Insert, Delete, Tick}
use Rattle.rpq_base.specs.declared.data.Tuple.{Tuple}
use Rattle.tuple_text.specs.declared.read.BadLine.{BadLine}
use Rattle.tuple_text.specs.Parts.{IsActOf, LineByParts}
use Rattle.tuple_text.specs.FaultTexts.{fault_text}
use Rattle.tuple_text.specs.Reading.{line_tuple}
use Rattle.tuple_text.specs.Written.{IsStreamAct, IsStreamTuple}
use Rattle.stream_tuples.specs.declared.ends.StreamEnd.{StreamEnd}
use Rattle.stream_tuples.specs.declared.ends.StreamEnd.TheVariants.{Whole, Line, LongLine, LongStream}
use Rattle.stream_tuples.specs.declared.ends.StreamEnd.TheVariants.{Read, Faults, Full, Closed, Memory}
use Rattle.stream_tuples.specs.declared.faults.FaultPolicy.{FaultPolicy}
use Rattle.stream_tuples.specs.declared.faults.FaultPolicy.TheVariants.{Stop, Report}
use Rattle.stream_tuples.specs.declared.faults.StreamItem.{StreamItem}
use Rattle.stream_tuples.specs.declared.faults.StreamItem.TheVariants as item
use Rattle.stream_tuples.specs.Faults.{fault_report, long_report, tuples_in}
use Rattle.stream_tuples.specs.History.{AreTuplesOfEnd}
use Rattle.stream_tuples.specs.Limits.{line_limit}
use Rattle.stream_tuples.specs.StreamText.{StreamTuples, tuples_with, tuples_before, numbered, line_gives}
use Rattle.stream_tuples.specs.StreamText.{fault_gives, long_end, tuples_of_lines, cut_end, tuples_from}
use Rattle.stream_tuples.proofs.StreamTexts.{first_gives, no_lines, within, beyond, cut_is, tuples_after}
use Rattle.stream_tuples.proofs.StreamTexts.{long_gives, short_gives}
use Rattle.saved_window.specs.SavedText.{saved_text, SavedTextIsRead}
use Rattle.rpq_run.specs.Continued.{IsNote}

-- ---- one line

-- what a line gives that is faulty or too long has the same tuples whatever is told of it: none
fault_alike : (policy : FaultPolicy) (end other : StreamEnd) (told told' : List ℕ)
    (found : Option StreamItem) → fault_gives policy end told ≡ Ok found →
    (again : Option StreamItem) × (fault_gives policy other told' ≡ Ok again)
    × (tuples_in (option_to_list again) ≡ tuples_in (option_to_list found))
fault_alike Stop end other told told' found is = absurd (cc is)
fault_alike Report end other told told' found is =
    let same : Some (item.Fault told) ≡ found = cc is in (
      Some (item.Fault told'),
      refl,
      ap (λ (one : Option StreamItem). tuples_in (option_to_list one)) same,
    )

numbered_alike : (policy : FaultPolicy) (number other : ℕ) (line : List ℕ)
    (gives : Result (Option Tuple) BadLine) (found : Option StreamItem) →
    numbered policy number line gives ≡ Ok found →
    (again : Option StreamItem) × (numbered policy other line gives ≡ Ok again)
    × (tuples_in (option_to_list again) ≡ tuples_in (option_to_list found))
numbered_alike policy number other line (Ok one) found is =
    let same : option_map (λ (tuple : Tuple). item.Tuple tuple) one ≡ found = cc is in (
      option_map (λ (tuple : Tuple). item.Tuple tuple) one,
      refl,
      ap (λ (each : Option StreamItem). tuples_in (option_to_list each)) same,
    )
numbered_alike policy number other line (Err fault) found is =
    fault_alike policy (Line number fault) (Line other fault) (fault_report number (fault_text fault) line)
    (fault_report other (fault_text fault) line) found is

-- a line that doesn't end its stream gives the same tuples under every number
gives_alike : (policy : FaultPolicy) (line : List ℕ) (number other : ℕ) (found : Option StreamItem) →
    line_gives policy number line ≡ Ok found →
    (again : Option StreamItem) × (line_gives policy other line ≡ Ok again)
    × (tuples_in (option_to_list again) ≡ tuples_in (option_to_list found))
gives_alike policy line number other found is = elim (cases_lt line_limit (length line)) [
  | inl long ↦
      let cut = take line_limit line in
      let same = fault_alike policy (LongLine number) (LongLine other) (long_report number cut)
      (long_report other cut) found (sym (long_gives policy number line long) ∙ is) in
      (same.0, long_gives policy other line long ∙ same.1, same.2)
  | inr short ↦
      let own = without_return line in
      let same = numbered_alike policy number other own (line_tuple own) found
      (sym (short_gives policy number line short) ∙ is) in
      (same.0, short_gives policy other line short ∙ same.1, same.2)
]

-- what a line gives as a tuple is its own
own_tuple : (policy : FaultPolicy) (number : ℕ) (line : List ℕ)
    (gives : Result (Option Tuple) BadLine) (tuple : Tuple) →
    numbered policy number line gives ≡ Ok (Some (item.Tuple tuple)) → gives ≡ Ok (Some tuple)
own_tuple policy number line (Ok None) tuple is = absurd (cc is)
own_tuple policy number line (Ok (Some one)) tuple is =
    let same : one ≡ tuple = cc is in
    ap (λ (t : Tuple). Ok (Some t)) same
own_tuple Stop number line (Err fault) tuple is = absurd (cc is)
own_tuple Report number line (Err fault) tuple is = absurd (cc is)

not_fault : (policy : FaultPolicy) (end : StreamEnd) (told : List ℕ) (tuple : Tuple) →
    fault_gives policy end told ≡ Ok (Some (item.Tuple tuple)) → ⊥
not_fault Stop end told tuple is = absurd (cc is)
not_fault Report end told tuple is = absurd (cc is)

given_by : (policy : FaultPolicy) (line : List ℕ) (number : ℕ) (tuple : Tuple) →
    line_gives policy number line ≡ Ok (Some (item.Tuple tuple)) →
    line_tuple (without_return line) ≡ Ok (Some tuple)
given_by policy line number tuple is = elim (cases_lt line_limit (length line)) [
  | inl long ↦ absurd (not_fault policy (LongLine number) (long_report number (take line_limit line)) tuple
      (sym (long_gives policy number line long) ∙ is))
  | inr short ↦ own_tuple policy number (without_return line) (line_tuple (without_return line)) tuple
      (sym (short_gives policy number line short) ∙ is)
]

-- no line ends a stream as whole
fault_not_whole : (policy : FaultPolicy) (end : StreamEnd) (told : List ℕ) → (end ≡ Whole → ⊥) →
    fault_gives policy end told ≡ Err Whole → ⊥
fault_not_whole Stop end told other is = other (cc is)
fault_not_whole Report end told other is = absurd (cc is)

numbered_not_whole : (policy : FaultPolicy) (number : ℕ) (line : List ℕ)
    (gives : Result (Option Tuple) BadLine) → numbered policy number line gives ≡ Err Whole → ⊥
numbered_not_whole policy number line (Ok one) is = absurd (cc is)
numbered_not_whole policy number line (Err fault) is =
    fault_not_whole policy (Line number fault) (fault_report number (fault_text fault) line)
    (λ same. absurd (cc same)) is

not_whole : (policy : FaultPolicy) (line : List ℕ) (number : ℕ) → line_gives policy number line ≡ Err Whole → ⊥
not_whole policy line number is = elim (cases_lt line_limit (length line)) [
  | inl long ↦ fault_not_whole policy (LongLine number) (long_report number (take line_limit line))
      (λ same. absurd (cc same)) (sym (long_gives policy number line long) ∙ is)
  | inr short ↦ numbered_not_whole policy number (without_return line) (line_tuple (without_return line))
      (sym (short_gives policy number line short) ∙ is)
]

-- ---- a stream that is whole

-- its lines give the same under other numbers
lines_moved : (policy : FaultPolicy) (lines : List (List ℕ)) (number other : ℕ) (tuples : List Tuple) →
    tuples_of_lines policy lines number Whole ≡ tuples_with tuples Whole →
    tuples_of_lines policy lines other Whole ≡ tuples_with tuples Whole
lines_moved policy [] number other tuples is = no_lines policy other Whole ∙ (sym (no_lines policy number Whole) ∙ is)
lines_moved policy (line ∷ lines) number other tuples is =
    by (λ whole. lines_moved policy lines (number + 1) (other + 1) (tuples_of_lines policy lines (number + 1) Whole).tuples whole)
    (line_gives policy number line) refl
  where
    rest : StreamTuples
    rest = tuples_of_lines policy lines (number + 1) Whole

    by : (rest ≡ tuples_with rest.tuples Whole → tuples_of_lines policy lines (other + 1) Whole ≡ tuples_with rest.tuples Whole) →
        (gives : Result (Option StreamItem) StreamEnd) → line_gives policy number line ≡ gives →
        tuples_of_lines policy (line ∷ lines) other Whole ≡ tuples_with tuples Whole
    by moved (Ok found) gives =
        let all : tuples_before (tuples_in (option_to_list found)) rest ≡ tuples_with tuples Whole =
        sym (first_gives policy line lines number Whole (Ok found) gives) ∙ is in
        let ended : rest.end ≡ Whole = ap (λ (ts : StreamTuples). ts.end) all in
        let are : tuples_in (option_to_list found) ++ rest.tuples ≡ tuples = ap (λ (ts : StreamTuples). ts.tuples) all in
        let whole : rest ≡ tuples_with rest.tuples Whole = ap (λ (e : StreamEnd). tuples_with rest.tuples e) ended in
        let again = gives_alike policy line number other found gives in
        first_gives policy line lines other Whole (Ok again.0) again.1
        ∙ (ap (λ (ts : StreamTuples). tuples_before (tuples_in (option_to_list again.0)) ts) (moved whole)
        ∙ (ap (λ (own : List Tuple). tuples_with (own ++ rest.tuples) Whole) again.2
        ∙ ap (λ (ts : List Tuple). tuples_with ts Whole) are))
    by moved (Err end) gives =
        let none : tuples_with [] end ≡ tuples_with tuples Whole =
        sym (first_gives policy line lines number Whole (Err end) gives) ∙ is in
        let ended : end ≡ Whole = ap (λ (ts : StreamTuples). ts.end) none in
        absurd (not_whole policy line number (gives ∙ ap (λ (e : StreamEnd). Err e) ended))

-- lines end a stream as whole only where the text behind them does
ends_whole : (policy : FaultPolicy) (lines : List (List ℕ)) (number : ℕ) (end : StreamEnd) → (tuples_of_lines policy lines number end).end ≡ Whole → end ≡ Whole
ends_whole policy [] number end is = sym (ap (λ (ts : StreamTuples). ts.end) (no_lines policy number end)) ∙ is
ends_whole policy (line ∷ lines) number end is = by (ends_whole policy lines (number + 1) end) (line_gives policy number line) refl
  where
    by : ((tuples_of_lines policy lines (number + 1) end).end ≡ Whole → end ≡ Whole) →
        (gives : Result (Option StreamItem) StreamEnd) → line_gives policy number line ≡ gives → end ≡ Whole
    by later (Ok found) gives = later (sym (ap (λ (ts : StreamTuples). ts.end) (first_gives policy line lines number end (Ok found) gives)) ∙ is)
    by later (Err fault) gives =
        let ended : fault ≡ Whole = sym (ap (λ (ts : StreamTuples). ts.end) (first_gives policy line lines number end (Err fault) gives)) ∙ is in
        absurd (not_whole policy line number (gives ∙ ap (λ (e : StreamEnd). Err e) ended))

-- a text that is cut off isn't whole
cut_not_whole : (policy : FaultPolicy) (test : Bool) (number : ℕ) →
    (if test then LongStream else long_end policy number) ≡ Whole → ⊥
cut_not_whole policy true number is = absurd (cc is)
cut_not_whole Stop false number is = absurd (cc is)
cut_not_whole Report false number is = absurd (cc is)

-- so a whole stream is within the limit
whole_is_short : (policy : FaultPolicy) (text : List ℕ) (number limit : ℕ) (tuples : List Tuple) →
    tuples_from policy number limit text ≡ tuples_with tuples Whole → length text < limit
whole_is_short policy text number limit tuples is = elim (cases_lt (length text) limit) [
  | inl short ↦ short
  | inr over ↦
      let cut = take limit text in
      let end = cut_end policy (number + length (ended_lines cut)) (open_line cut) in
      let lines = sym (cut_is policy cut number) ∙ (sym (beyond policy text number limit over) ∙ is) in
      let whole : end ≡ Whole = ends_whole policy (ended_lines cut) number end (ap (λ (ts : StreamTuples). ts.end) lines) in
      absurd (cut_not_whole policy (nat_le (length (open_line cut)) line_limit) (number + length (ended_lines cut)) whole)
]

-- and gives the same behind other lines, within a limit that isn't less
whole_moved : (policy : FaultPolicy) (text : List ℕ) (number other limit larger : ℕ) (tuples : List Tuple) → limit ≤ larger →
    tuples_from policy number limit text ≡ tuples_with tuples Whole → tuples_from policy other larger text ≡ tuples_with tuples Whole
whole_moved policy text number other limit larger tuples grows is =
    let short = whole_is_short policy text number limit tuples is in
    within policy text other larger (omega (arith, short, grows))
    ∙ lines_moved policy (raw_lines text) number other tuples (sym (within policy text number limit short) ∙ is)

-- ---- lines that give nothing

note_gives : (policy : FaultPolicy) → LineByParts → (line : List ℕ) (number : ℕ) → IsNote line → line_gives policy number line ≡ Ok None
note_gives policy by_parts line number is =
    short_gives policy number line is.short
    ∙ ap (numbered policy number (without_return line)) ((by_parts (without_return line)).nothing.1 is.nothing)

notes_give : (policy : FaultPolicy) → LineByParts → (notes more : List (List ℕ)) (number : ℕ) (end : StreamEnd) → All IsNote notes →
    tuples_of_lines policy (notes ++ more) number end ≡ tuples_before [] (tuples_of_lines policy more (length notes + number) end)
notes_give policy by_parts [] more number end are =
    let here : number ≡ length {A = List ℕ} [] + number = omega arith in
    ap (λ (n : ℕ). tuples_of_lines policy more n end) here
notes_give policy by_parts (note ∷ notes) more number end are =
    let behind : length notes + (number + 1) ≡ length (note ∷ notes) + number = omega arith in
    first_gives policy note (notes ++ more) number end (Ok None) (note_gives policy by_parts note number (All-head IsNote note notes are))
    ∙ (ap (λ (rest : StreamTuples). tuples_before [] rest) (notes_give policy by_parts notes more (number + 1) end (All-tail IsNote note notes are))
    ∙ ap (λ (n : ℕ). tuples_of_lines policy more n end) behind)

all_lines : (notes : List (List ℕ)) → All IsNote notes → All IsLine notes
all_lines [] are = All-nil IsLine
all_lines (note ∷ notes) are =
    All-cons IsLine note notes (All-head IsNote note notes are).whole (all_lines notes (All-tail IsNote note notes are))

-- ---- saved tuples, and a stream behind them

-- the stream is whole, and all that is read are the saved tuples and then its own; it has fewer
-- bytes than this
pub record IsReadBehind (policy : FaultPolicy) (limit : ℕ) (tuples : List Tuple) (stream : List ℕ) (all : List Tuple)
    : Type 0 where
  pub whole : (tuples_from policy 1 limit stream).end ≡ Whole
  pub all_is : all ≡ tuples ++ (tuples_from policy 1 limit stream).tuples

-- behind the lines that give nothing
past_notes : (policy : FaultPolicy) → LineByParts → (limit : ℕ) (notes : List (List ℕ)) (text : List ℕ) (all : List Tuple) → All IsNote notes →
    tuples_from policy 1 limit (text_of notes ++ text) ≡ tuples_with all Whole → tuples_from policy 1 limit text ≡ tuples_with all Whole
past_notes policy by_parts limit notes text all are is =
    let short = whole_is_short policy (text_of notes ++ text) 1 limit all is in
    let fits : length (text_of notes) ≤ limit = omega (arith, short, length-append (text_of notes) text) in
    let left = limit - length (text_of notes) in
    let less : left ≤ limit = omega arith in
    let after = tuples_after policy notes [] (all_lines notes are) (λ more end. notes_give policy by_parts notes more 1 end are) limit text fits in
    whole_moved policy text (length notes + 1) 1 left limit all less (sym after ∙ is)

pub read_behind : (policy : FaultPolicy) → SavedTextIsRead → LineByParts → (limit : ℕ) (notes : List (List ℕ)) (tuples : List Tuple) (stream : List ℕ)
    (all : List Tuple) → All IsNote notes → All IsStreamTuple tuples →
    tuples_from policy 1 limit ((text_of notes ++ saved_text tuples) ++ stream) ≡ tuples_with all Whole → IsReadBehind policy limit tuples stream all
read_behind policy is_read by_parts limit notes tuples stream all are in_stream is =
    let both = saved_text tuples ++ stream in
    let here = past_notes policy by_parts limit notes both all are
    (ap (tuples_from policy 1 limit) (sym (append_assoc (text_of notes) (saved_text tuples) stream)) ∙ is) in
    let short = whole_is_short policy both 1 limit all here in
    let fits : length (saved_text tuples) ≤ limit = omega (arith, short, length-append (saved_text tuples) stream) in
    let left = limit - length (saved_text tuples) in
    let less : left ≤ limit = omega arith in
    let rest = tuples_from policy (length tuples + 1) left stream in
    let cut : tuples_before tuples rest ≡ tuples_with all Whole = sym ((is_read policy tuples in_stream).in_front limit stream fits) ∙ here in
    let ended : rest.end ≡ Whole = ap (λ (ts : StreamTuples). ts.end) cut in
    let whole : rest ≡ tuples_with rest.tuples Whole = ap (λ (e : StreamEnd). tuples_with rest.tuples e) ended in
    let alone : tuples_from policy 1 limit stream ≡ tuples_with rest.tuples Whole =
    whole_moved policy stream (length tuples + 1) 1 left limit rest.tuples less whole in
    record {
      whole = ap (λ (ts : StreamTuples). ts.end) alone;
      all_is = sym (ap (λ (ts : StreamTuples). ts.tuples) cut)
          ∙ ap (λ (ts : List Tuple). tuples ++ ts) (sym (ap (λ (ts : StreamTuples). ts.tuples) alone));
    }

-- ---- the tuples of a stream

-- the fields of an act are those of one that a line may name, whose end is in range
act_in_stream : (act : Act) (list : List (List ℕ)) → IsActOf act list →
    IsStreamAct act × ((until : ℕ) → own_end act ≡ Some until → until ≤ MAX_TIME)
act_in_stream (Insert edge None) list is = (is.0, λ until e. absurd cc)
act_in_stream (Insert edge (Some end)) list is = (is.0, λ until e. let same : end ≡ until = cc in omega (arith, same, is.1.1.range))
act_in_stream (Delete edge) list is = (is.0, λ until e. absurd cc)
act_in_stream Tick list is = (tt, λ until e. absurd cc)

-- a tuple that some line gives
line_in_stream : LineByParts → (line : List ℕ) (tuple : Tuple) → line_tuple line ≡ Ok (Some tuple) → IsStreamTuple tuple
line_in_stream by_parts line tuple gives =
    let is = ((by_parts line).tuple tuple).0 gives in
    let fields = is.1 in
    let acts = act_in_stream tuple.act fields.1 fields.4 in
    record {
      range = record { time_to = fields.3.range; end_to = acts.1 };
      act = acts.0;
    }

lines_in_stream : (policy : FaultPolicy) → LineByParts → (lines : List (List ℕ)) (number : ℕ) (end : StreamEnd) →
    All IsStreamTuple (tuples_of_lines policy lines number end).tuples
lines_in_stream policy by_parts [] number end =
    subst (λ (ts : StreamTuples). All IsStreamTuple ts.tuples) (sym (no_lines policy number end)) (All-nil IsStreamTuple)
lines_in_stream policy by_parts (line ∷ lines) number end =
    by (lines_in_stream policy by_parts lines (number + 1) end) (line_gives policy number line) refl
  where
    rest : StreamTuples
    rest = tuples_of_lines policy lines (number + 1) end

    by : All IsStreamTuple rest.tuples → (gives : Result (Option StreamItem) StreamEnd) → line_gives policy number line ≡ gives →
        All IsStreamTuple (tuples_of_lines policy (line ∷ lines) number end).tuples
    by later (Ok None) gives =
        subst (λ (ts : StreamTuples). All IsStreamTuple ts.tuples) (sym (first_gives policy line lines number end (Ok None) gives)) later
    by later (Ok (Some (item.Tuple tuple))) gives =
        subst (λ (ts : StreamTuples). All IsStreamTuple ts.tuples)
        (sym (first_gives policy line lines number end (Ok (Some (item.Tuple tuple))) gives))
        (All-cons IsStreamTuple tuple rest.tuples (line_in_stream by_parts (without_return line) tuple
        (given_by policy line number tuple gives)) later)
    by later (Ok (Some (item.Fault told))) gives =
        subst (λ (ts : StreamTuples). All IsStreamTuple ts.tuples)
        (sym (first_gives policy line lines number end (Ok (Some (item.Fault told))) gives)) later
    by later (Err fault) gives =
        subst (λ (ts : StreamTuples). All IsStreamTuple ts.tuples) (sym (first_gives policy line lines number end (Err fault) gives))
        (All-nil IsStreamTuple)

-- each tuple that a text gives is one that a line may give
pub text_in_stream : (policy : FaultPolicy) → LineByParts → (text : List ℕ) (number limit : ℕ) → All IsStreamTuple (tuples_from policy number limit text).tuples
text_in_stream policy by_parts text number limit = elim (cases_lt (length text) limit) [
  | inl short ↦
      subst (λ (ts : StreamTuples). All IsStreamTuple ts.tuples) (sym (within policy text number limit short))
      (lines_in_stream policy by_parts (raw_lines text) number Whole)
  | inr over ↦
      let cut = take limit text in
      subst (λ (ts : StreamTuples). All IsStreamTuple ts.tuples) (sym (beyond policy text number limit over ∙ cut_is policy cut number))
      (lines_in_stream policy by_parts (ended_lines cut) number (cut_end policy (number + length (ended_lines cut)) (open_line cut)))
]

-- the front of a list has what all of it has
front_in_stream : (front rest : List Tuple) → All IsStreamTuple (front ++ rest) → All IsStreamTuple front
front_in_stream [] rest all = All-nil IsStreamTuple
front_in_stream (tuple ∷ front) rest all =
    All-cons IsStreamTuple tuple front (All-head IsStreamTuple tuple (front ++ rest) all)
    (front_in_stream front rest (All-tail IsStreamTuple tuple (front ++ rest) all))

-- and so is each that is taken of it, however the stream ended
pub taken_in_stream : (policy : FaultPolicy) → LineByParts → (limit : ℕ) (text : List ℕ) (left : Option (List ℕ)) (tuples : List Tuple) (end : StreamEnd) →
    AreTuplesOfEnd policy limit text left tuples end → All IsStreamTuple tuples
taken_in_stream policy by_parts limit text left tuples end tied = by end tied
  where
    all : All IsStreamTuple (tuples_from policy 1 limit text).tuples
    all = text_in_stream policy by_parts text 1 limit

    whole : (ended : StreamEnd) → tuples_from policy 1 limit text ≡ tuples_with tuples ended → All IsStreamTuple tuples
    whole ended is = subst (λ (ts : StreamTuples). All IsStreamTuple ts.tuples) is all

    by : (ended : StreamEnd) → AreTuplesOfEnd policy limit text left tuples ended → All IsStreamTuple tuples
    by Whole is = whole Whole is.0
    by (Line number fault) is = whole (Line number fault) is
    by (LongLine number) is = whole (LongLine number) is
    by LongStream is = whole LongStream is
    by Read is = subst (λ (ts : StreamTuples). All IsStreamTuple ts.tuples) is.2 (lines_in_stream policy by_parts (ended_lines is.0) 1 Read)
    by Faults is = front_in_stream tuples is.rest (subst (All IsStreamTuple) is.cut all)
    by Full is = front_in_stream tuples is.rest (subst (All IsStreamTuple) is.cut all)
    by (Closed why) is = front_in_stream tuples is.rest (subst (All IsStreamTuple) is.cut all)
    by Memory is = front_in_stream tuples is.rest (subst (All IsStreamTuple) is.cut all)
