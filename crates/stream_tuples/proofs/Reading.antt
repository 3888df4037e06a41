-- What the reading of a stream's text makes of its items.
use Rattle.std.proofs.Common.{◌≡◌, ℕ, List, Option, Result, Ok, Err, ap, sym, subst, ◌∙◌}
use Rattle.std.proofs.Common.{refl, inl, inr, ◌⊎◌}
use Rattle.std.specs.Prelude.{IfSome}
use Rattle.std.proofs.lemmas.Option.{IfSome_then}
use Rattle.rpq_base.specs.declared.data.Tuple.{Tuple}
use Rattle.rpq_io.specs.Reader.{ReaderState}
use Rattle.text_parts.specs.EndedLines.{ended_lines}
use Rattle.tuple_text.specs.declared.read.BadLine.{BadLine}
use Rattle.tuple_text.specs.Reading.{line_tuple}
use Rattle.text_items.specs.declared.ends.TextEnd.{TextEnd}
use Rattle.text_items.specs.Reading.{IsMet}
use Rattle.text_items.specs.Items.{items_with, items_of_lines, text_items}
use Rattle.text_items.specs.Taken.{AreItemsByEnd}
use Rattle.text_items.specs.Progress.{EndsReading as EndsItems}
use Rattle.text_items.proofs.Reading.{front_of as front_of_items}
use Rattle.stream_tuples.specs.declared.ends.StreamEnd.{StreamEnd}
use Rattle.stream_tuples.specs.declared.ends.StreamEnd.TheVariants.{Whole, Line, LongLine, LongStream}
use Rattle.stream_tuples.specs.declared.ends.StreamEnd.TheVariants.{Read, Faults, Full, Closed, Memory}
use Rattle.stream_tuples.specs.declared.faults.FaultPolicy.{FaultPolicy}
use Rattle.stream_tuples.specs.declared.faults.FaultPolicy.TheVariants.{Stop, Report}
use Rattle.stream_tuples.specs.declared.faults.StreamItem.{StreamItem}
use Rattle.stream_tuples.specs.Ends.{CanEnd, IsReadEnd}
use Rattle.stream_tuples.specs.Faults.{tuples_in, long_report}
use Rattle.stream_tuples.specs.History.{IsPrefix, AreTuplesOfEnd, AreItemsOfEnd, told_items}
use Rattle.stream_tuples.specs.Progress.{IsStreamReader, HasRead, EndsReading}
use Rattle.stream_tuples.specs.StreamText.{tuples_with, fault_gives, numbered, stream_reading, stream_end}
use Rattle.stream_tuples.specs.StreamText.{as_stream, tuples_of_lines, tuples_from}
use Rattle.stream_tuples.proofs.Fronts.{tuples_of_front}
use Rattle.stream_tuples.proofs.StreamTexts.{alike}

-- what was read is a front of the stream's tuples, and of its items
pub front_of : {S : Type 0} (policy : FaultPolicy) (left : S → Option (List ℕ))
    (file : Option (List ℕ)) (items : List StreamItem) (reader : ReaderState S)
    → IsStreamReader left reader → HasRead policy left file items reader
    → IfSome file (λ text. IsPrefix (tuples_in items) (tuples_from policy 1 reader.byte_limit text).tuples)
unfolding tuples_from
front_of policy left file items reader sound read =
    IfSome_then file (front_of_items (stream_reading policy) left file items reader sound read)
    (λ text is. tuples_of_front items (text_items (stream_reading policy) reader.byte_limit text).items is)

pub items_front : {S : Type 0} (left : S → Option (List ℕ)) (file : Option (List ℕ))
    (items : List StreamItem) (reader : ReaderState S)
    → IsStreamReader left reader → HasRead Report left file items reader
    → IfSome file (λ text. IsPrefix items (told_items reader.byte_limit text).items)
items_front left file items reader sound read =
    front_of_items (stream_reading Report) left file items reader sound read

-- ---- which ends a reading meets

-- a line ends a stream only where its policy says so, and then by its fault or its length
record EndsLine (policy : FaultPolicy) (number : ℕ) (end : StreamEnd) : Type 0 where
  stops : policy ≡ Stop
  cause : ((fault : BadLine) × (end ≡ Line number fault)) ⊎ (end ≡ LongLine number)

of_fault : (policy : FaultPolicy) (number : ℕ) (line : List ℕ) (gives : Result (Option Tuple) BadLine)
    (end : StreamEnd) → numbered policy number line gives ≡ Err end → EndsLine policy number end
of_fault policy number line (Ok found) end is = absurd (cc is)
of_fault Stop number line (Err fault) end is =
    record { stops = refl; cause = inl (fault, (let same : Line number fault ≡ end = cc is in sym same)) }
of_fault Report number line (Err fault) end is = absurd (cc is)

of_long : (policy : FaultPolicy) (number : ℕ) (front : List ℕ) (end : StreamEnd)
    → fault_gives policy (LongLine number) (long_report number front) ≡ Err end
    → EndsLine policy number end
of_long Stop number front end is =
    record { stops = refl; cause = inr (let same : LongLine number ≡ end = cc is in sym same) }
of_long Report number front end is = absurd (cc is)

ends_line : (policy : FaultPolicy) (end : StreamEnd)
    → (met : IsMet (stream_reading policy) (TextEnd.Line end)) → EndsLine policy met.0 end
ends_line policy end met = elim met.2 [
  | inl is ↦ of_fault policy met.0 met.1 (line_tuple met.1) end is
  | inr is ↦ of_long policy met.0 met.1 end is
]

line_end : (policy : FaultPolicy) (number : ℕ) (end : StreamEnd) → EndsLine policy number end
    → IsReadEnd policy end
line_end policy number end ends =
    subst (λ (p : FaultPolicy). IsReadEnd p end) (sym ends.stops) (elim ends.cause [
      | inl is ↦ subst (IsReadEnd Stop) (sym is.1) tt
      | inr is ↦ subst (IsReadEnd Stop) (sym is) tt
    ])

-- an end that the reading of a text meets is one that the reading of a stream does
pub met_end : (policy : FaultPolicy) (end : TextEnd StreamEnd) → IsMet (stream_reading policy) end
    → IsReadEnd policy (stream_end end)
met_end policy TextEnd.Whole met = tt
met_end policy TextEnd.LongText met = tt
met_end policy TextEnd.Read met = tt
met_end policy TextEnd.Memory met = tt
met_end policy (TextEnd.Line end) met = line_end policy met.0 end (ends_line policy end met)

-- such an end is one that a stream with the policy can have
pub can_end : (policy : FaultPolicy) (end : StreamEnd) → IsReadEnd policy end → CanEnd policy end
can_end Stop Whole met = tt
can_end Report Whole met = tt
can_end policy (Line number fault) met = met
can_end policy (LongLine number) met = met
can_end Stop LongStream met = tt
can_end Report LongStream met = tt
can_end Stop Read met = tt
can_end Report Read met = tt
can_end policy Faults met = absurd met
can_end policy Full met = absurd met
can_end policy (Closed why) met = absurd met
can_end Stop Memory met = tt
can_end Report Memory met = tt

-- ---- the tuples and items of a text, by the end of its reading

module _ (policy : FaultPolicy) (limit : ℕ) (text : List ℕ) (left : Option (List ℕ))
    (items : List StreamItem) where
  line_tuples : (number : ℕ) (end : StreamEnd) → EndsLine policy number end
      → tuples_from policy 1 limit text ≡ tuples_with (tuples_in items) end
      → AreTuplesOfEnd policy limit text left (tuples_in items) end
  line_tuples number end ends is = elim ends.cause [
    | inl fault ↦
        subst (AreTuplesOfEnd policy limit text left (tuples_in items)) (sym fault.1)
        (is ∙ ap (λ (e : StreamEnd). tuples_with (tuples_in items) e) fault.1)
    | inr same ↦
        subst (AreTuplesOfEnd policy limit text left (tuples_in items)) (sym same)
        (is ∙ ap (λ (e : StreamEnd). tuples_with (tuples_in items) e) same)
  ]

  all_tuples : (end : TextEnd StreamEnd)
      → text_items (stream_reading policy) limit text ≡ items_with items end
      → tuples_from policy 1 limit text ≡ tuples_with (tuples_in items) (stream_end end)
  unfolding tuples_from
  all_tuples end is = ap as_stream is

  read_tuples : (bytes : List ℕ)
      → items_of_lines (stream_reading policy) (ended_lines bytes) 1 TextEnd.Read ≡ items_with items TextEnd.Read
      → tuples_of_lines policy (ended_lines bytes) 1 Read ≡ tuples_with (tuples_in items) Read
  unfolding tuples_of_lines
  read_tuples bytes is =
      alike policy (ended_lines bytes) 1 (TextEnd.Line Read) TextEnd.Read refl ∙ ap as_stream is

  front_tuples : IsPrefix items (text_items (stream_reading policy) limit text).items
      → IsPrefix (tuples_in items) (tuples_from policy 1 limit text).tuples
  unfolding tuples_from
  front_tuples is = tuples_of_front items (text_items (stream_reading policy) limit text).items is

  pub tuples_of_end : (end : TextEnd StreamEnd) → IsMet (stream_reading policy) end
      → AreItemsByEnd (stream_reading policy) limit text left items end
      → AreTuplesOfEnd policy limit text left (tuples_in items) (stream_end end)
  tuples_of_end TextEnd.Whole met is = (all_tuples TextEnd.Whole is.0, is.1)
  tuples_of_end TextEnd.LongText met is = all_tuples TextEnd.LongText is
  tuples_of_end TextEnd.Read met is = (is.0, is.1, read_tuples is.0 is.2)
  tuples_of_end TextEnd.Memory met is = front_tuples is
  tuples_of_end (TextEnd.Line end) met is =
      line_tuples met.0 end (ends_line policy end met) (all_tuples (TextEnd.Line end) is)

module _ (limit : ℕ) (text : List ℕ) (left : Option (List ℕ)) (items : List StreamItem) where
  pub items_of_end : (end : TextEnd StreamEnd) → IsMet (stream_reading Report) end
      → AreItemsByEnd (stream_reading Report) limit text left items end
      → AreItemsOfEnd limit text left items (stream_end end)
  items_of_end TextEnd.Whole met is = is
  items_of_end TextEnd.LongText met is = is
  items_of_end TextEnd.Read met is = is
  items_of_end TextEnd.Memory met is = is
  items_of_end (TextEnd.Line end) met is =
      absurd (let e : Report ≡ Stop = (ends_line Report end met).stops in cc)

-- a stream ends where the reading of its text does
pub ends_stream : {S : Type 0} (policy : FaultPolicy) (left : S → Option (List ℕ))
    (old new : ReaderState S) (end : TextEnd StreamEnd)
    → EndsItems (stream_reading policy) left old new end
    → EndsReading policy left old new (stream_end end)
ends_stream policy left old new end ends = record {
  tied = λ file items read. IfSome_then file (ends.tied file items read)
      (λ text is. tuples_of_end policy new.byte_limit text (left new.source) items end ends.met is);
  items = λ told file found read. told_ends policy told file found read ends;
  met = met_end policy end ends.met;
}
  where
    told_ends : (policy : FaultPolicy) → policy ≡ Report → (file : Option (List ℕ))
        (found : List StreamItem) → HasRead policy left file found old
        → EndsItems (stream_reading policy) left old new end
        → IfSome file (λ text. AreItemsOfEnd new.byte_limit text (left new.source) found (stream_end end))
    told_ends Stop told file found read ends = absurd (cc told)
    told_ends Report told file found read ends = IfSome_then file (ends.tied file found read)
        (λ text is. items_of_end new.byte_limit text (left new.source) found end ends.met is)

-- a read failed where the reading of the text says so
pub told_read : (policy : FaultPolicy) (end : TextEnd StreamEnd) → IsMet (stream_reading policy) end
    → stream_end end ≡ Read → end ≡ TextEnd.Read
told_read policy TextEnd.Whole met is = absurd (cc is)
told_read policy TextEnd.LongText met is = absurd (cc is)
told_read policy TextEnd.Read met is = refl
told_read policy TextEnd.Memory met is = absurd (cc is)
told_read policy (TextEnd.Line end) met is = elim (ends_line policy end met).cause [
  | inl fault ↦ absurd (cc (sym fault.1 ∙ is))
  | inr same ↦ absurd (cc (sym same ∙ is))
]
