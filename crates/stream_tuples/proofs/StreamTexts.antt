-- The tuples of a text, of which the first lines are known.
use Rattle.std.proofs.Common.{◌≡◌, ℕ, ◌+◌, ◌-◌, ◌<◌, ◌≤◌, Bool, true, false, List, [], ◌∷◌, ◌++◌, length}
use Rattle.std.proofs.Common.{take, Option, Some, None, Result, Ok, Err, refl, ap, sym, subst, ◌∙◌, arith, inl, inr}
use Rattle.std.proofs.Common.{length-append}
use Rattle.std.specs.Prelude.{nat_le, if◌then◌else◌}
use Rattle.std.specs.List.{All}
use Rattle.std.specs.Prelude.{option_to_list, option_map}
use Rattle.std.proofs.lemmas.Bool.{cases_lt}
use Rattle.std.proofs.lemmas.Grind.{flat_map-append}
use Rattle.std.proofs.lemmas.List.Elements.{filter_map-append}
use Rattle.std.proofs.Math.Seq.{take-append-add}
use Rattle.text_parts.specs.Lines.{IsLine, raw_lines, text_of, without_return}
use Rattle.text_parts.specs.EndedLines.{ended_lines, open_line}
use Rattle.text_parts.proofs.Cuts.{raw_lines_nil, raw_lines_many}
use Rattle.text_parts.proofs.Pieces.{ended_many, open_many}
use Rattle.rpq_base.specs.declared.data.Tuple.{Tuple}
use Rattle.text_items.specs.declared.ends.TextEnd.{TextEnd}
use Rattle.text_items.specs.Reading.{raw_gives}
use Rattle.text_items.specs.Items.{TextItems, items_before, items_from, items_of_lines, long_end as long_end_of, cut_end as cut_end_of, line_before as item_before}
use Rattle.text_items.proofs.Texts as Texts
use Rattle.tuple_text.specs.Reading.{line_tuple}
use Rattle.stream_tuples.specs.declared.ends.StreamEnd.{StreamEnd}
use Rattle.stream_tuples.specs.declared.ends.StreamEnd.TheVariants.{Whole, LongLine, LongStream}
use Rattle.stream_tuples.specs.declared.faults.FaultPolicy.{FaultPolicy}
use Rattle.stream_tuples.specs.declared.faults.FaultPolicy.TheVariants.{Stop, Report}
use Rattle.stream_tuples.specs.declared.faults.StreamItem.{StreamItem}
use Rattle.stream_tuples.specs.declared.faults.StreamItem.TheVariants as item
use Rattle.stream_tuples.specs.Faults.{tuple_of, report_of, reports_in, long_report}
use Rattle.stream_tuples.specs.Limits.{line_limit}
use Rattle.stream_tuples.specs.StreamText.{StreamTuples, tuples_with, tuples_before, stream_reading}
use Rattle.stream_tuples.specs.StreamText.{fault_gives, numbered, long_end}
use Rattle.stream_tuples.specs.StreamText.{line_gives, line_before, stream_end, as_stream}
use Rattle.stream_tuples.specs.StreamText.{tuples_of_lines, cut_end, cut_tuples, tuples_from, reports_from}

-- what comes before the items of the rest comes before its tuples
before_is : (gives : Result (Option StreamItem) StreamEnd) (rest : TextItems StreamItem StreamEnd)
    → as_stream (item_before gives rest) ≡ line_before gives (as_stream rest)
before_is (Ok found) rest = ap (λ (ts : List Tuple). tuples_with ts (stream_end rest.end))
    (filter_map-append tuple_of (option_to_list found) rest.items)
before_is (Err end) rest = refl

-- what a line gives without a fault comes before the rest as its tuple does
of_found : (found : Option Tuple) (rest : StreamTuples)
    → line_before (Ok (option_map (λ (tuple : Tuple). item.Tuple tuple) found)) rest
    ≡ tuples_before (option_to_list found) rest
of_found None rest = refl
of_found (Some tuple) rest = refl

-- where a text is cut off, its stream is
cut_ends : (policy : FaultPolicy) (short : Bool) (number : ℕ) (report : List ℕ)
    → stream_end (if short then TextEnd.LongText
    else long_end_of (fault_gives policy (LongLine number) report))
    ≡ (if short then LongStream else long_end policy number)
cut_ends policy true number report = refl
cut_ends Stop false number report = refl
cut_ends Report false number report = refl

module _ (policy : FaultPolicy) where
  -- the tuples of lines, the first of which gives this
  pub first_gives : (line : List ℕ) (lines : List (List ℕ)) (number : ℕ) (end : StreamEnd)
      (gives : Result (Option StreamItem) StreamEnd) → line_gives policy number line ≡ gives
      → tuples_of_lines policy (line ∷ lines) number end
      ≡ line_before gives (tuples_of_lines policy lines (number + 1) end)
  unfolding tuples_of_lines line_gives
  first_gives line lines number end gives is =
      ap as_stream (Texts.first_gives (stream_reading policy) line lines number (TextEnd.Line end) gives is)
      ∙ before_is gives (items_of_lines (stream_reading policy) lines (number + 1) (TextEnd.Line end))

  pub no_lines : (number : ℕ) (end : StreamEnd) → tuples_of_lines policy [] number end ≡ tuples_with [] end
  unfolding tuples_of_lines
  no_lines number end = ap as_stream (Texts.no_lines (stream_reading policy) number (TextEnd.Line end))

  -- a line that isn't too long, and one that is
  pub short_gives : (number : ℕ) (line : List ℕ) → length line ≤ line_limit
      → line_gives policy number line
      ≡ numbered policy number (without_return line) (line_tuple (without_return line))
  unfolding line_gives
  short_gives number line short = Texts.short_line (stream_reading policy) number line short

  pub long_gives : (number : ℕ) (line : List ℕ) → line_limit < length line
      → line_gives policy number line
      ≡ fault_gives policy (LongLine number) (long_report number (take line_limit line))
  unfolding line_gives
  long_gives number line long = Texts.long_line (stream_reading policy) number line long

  -- the tuples of lines, the first of which is no fault and gives this
  pub good_first : (line : List ℕ) (lines : List (List ℕ)) (number : ℕ) (end : StreamEnd)
      (found : Option Tuple) → length line ≤ line_limit → line_tuple (without_return line) ≡ Ok found
      → tuples_of_lines policy (line ∷ lines) number end
      ≡ tuples_before (option_to_list found) (tuples_of_lines policy lines (number + 1) end)
  good_first line lines number end found short is =
      first_gives line lines number end (numbered policy number (without_return line) (Ok found))
      (short_gives number line short ∙ ap (numbered policy number (without_return line)) is)
      ∙ of_found found (tuples_of_lines policy lines (number + 1) end)

  -- ends of a text that are the same for a stream are so behind its lines
  pub alike : (lines : List (List ℕ)) (number : ℕ) (first second : TextEnd StreamEnd)
      → stream_end first ≡ stream_end second
      → as_stream (items_of_lines (stream_reading policy) lines number first)
      ≡ as_stream (items_of_lines (stream_reading policy) lines number second)
  alike [] number first second same =
      ap as_stream (Texts.no_lines (stream_reading policy) number first)
      ∙ (ap (λ (e : StreamEnd). tuples_with [] e) same
      ∙ sym (ap as_stream (Texts.no_lines (stream_reading policy) number second)))
  alike (line ∷ lines) number first second same =
      by (raw_gives (stream_reading policy) number line) refl (alike lines (number + 1) first second same)
    where
      by : (gives : Result (Option StreamItem) StreamEnd) → raw_gives (stream_reading policy) number line ≡ gives
          → as_stream (items_of_lines (stream_reading policy) lines (number + 1) first)
          ≡ as_stream (items_of_lines (stream_reading policy) lines (number + 1) second)
          → as_stream (items_of_lines (stream_reading policy) (line ∷ lines) number first)
          ≡ as_stream (items_of_lines (stream_reading policy) (line ∷ lines) number second)
      by gives is later =
          ap as_stream (Texts.first_gives (stream_reading policy) line lines number first gives is)
          ∙ (before_is gives (items_of_lines (stream_reading policy) lines (number + 1) first)
          ∙ (ap (λ (ts : StreamTuples). line_before gives ts) later
          ∙ (sym (before_is gives (items_of_lines (stream_reading policy) lines (number + 1) second))
          ∙ sym (ap as_stream (Texts.first_gives (stream_reading policy) line lines number second gives is)))))

  -- a text within the limit, and one that is cut off
  pub within : (text : List ℕ) (number limit : ℕ) → length text < limit
      → tuples_from policy number limit text ≡ tuples_of_lines policy (raw_lines text) number Whole
  unfolding tuples_from tuples_of_lines
  within text number limit short =
      ap as_stream (Texts.within (stream_reading policy) text number limit short)
      ∙ alike (raw_lines text) number TextEnd.Whole (TextEnd.Line Whole) refl

  pub beyond : (text : List ℕ) (number limit : ℕ) → limit ≤ length text
      → tuples_from policy number limit text ≡ cut_tuples policy number (take limit text)
  unfolding tuples_from cut_tuples
  beyond text number limit long = ap as_stream (Texts.beyond (stream_reading policy) text number limit long)

  pub cut_is : (text : List ℕ) (number : ℕ)
      → cut_tuples policy number text ≡ tuples_of_lines policy (ended_lines text) number
      (cut_end policy (number + length (ended_lines text)) (open_line text))
  unfolding cut_tuples tuples_of_lines
  cut_is text number =
      let last = number + length (ended_lines text) in
      let line = open_line text in
      ap as_stream (Texts.cut_is (stream_reading policy) text number)
      ∙ alike (ended_lines text) number (cut_end_of (stream_reading policy) last line)
      (TextEnd.Line (cut_end policy last line))
      (cut_ends policy (nat_le (length line) line_limit) last (long_report last (take line_limit line)))

-- lines that are read, whatever follows
module _ (policy : FaultPolicy) (lines : List (List ℕ)) (tuples : List Tuple) (whole : All IsLine lines)
    (read : (more : List (List ℕ)) (end : StreamEnd)
    → tuples_of_lines policy (lines ++ more) 1 end ≡ tuples_before tuples
    (tuples_of_lines policy more (length lines + 1) end)) where
  cut_after : (rest : List ℕ) → cut_tuples policy 1 (text_of lines ++ rest) ≡ tuples_before tuples
      (cut_tuples policy (length lines + 1) rest)
  cut_after rest =
      let last = ended_lines rest in
      let number : 1 + length (lines ++ last) ≡ (length lines + 1) + length last = omega
      (arith, length-append lines last) in
      let ends = cut_end policy ((length lines + 1) + length last) (open_line rest) in
      let same : tuples_of_lines policy (ended_lines (text_of lines ++ rest)) 1
      (cut_end policy (1 + length (ended_lines (text_of lines ++ rest))) (open_line (text_of lines ++ rest)))
      ≡ tuples_of_lines policy (lines ++ last) 1 ends =
      rw (ended_many lines rest whole, open_many lines rest whole, number) refl in
      cut_is policy (text_of lines ++ rest) 1 ∙ (same ∙ (read last ends
      ∙ ap (λ (ts : StreamTuples). tuples_before tuples ts) (sym (cut_is policy rest (length lines + 1)))))

  -- their tuples come before those of what follows
  pub tuples_after : (limit : ℕ) (rest : List ℕ) → length (text_of lines) ≤ limit
      → tuples_from policy 1 limit (text_of lines ++ rest) ≡ tuples_before tuples
      (tuples_from policy (length lines + 1) (limit - length (text_of lines)) rest)
  tuples_after limit rest fits =
      let done = text_of lines in
      let long = length-append done rest in
      elim (cases_lt (length (done ++ rest)) limit) [
        | inl short ↦
            within policy (done ++ rest) 1 limit short
            ∙ (ap (λ ls. tuples_of_lines policy ls 1 Whole) (raw_lines_many lines rest whole)
            ∙ (read (raw_lines rest) Whole
            ∙ ap (λ (ts : StreamTuples). tuples_before tuples ts)
            (sym (within policy rest (length lines + 1) (limit - length done) (omega (arith, long))))))
        | inr over ↦
            let sum : length done + (limit - length done) ≡ limit = omega arith in
            let cut : take limit (done ++ rest) ≡ done ++ take (limit - length done) rest = subst
            (λ n. take n (done ++ rest) ≡ done ++ take (limit - length done) rest) sum
            (take-append-add done rest (limit - length done)) in
            beyond policy (done ++ rest) 1 limit over
            ∙ (ap (cut_tuples policy 1) cut
            ∙ (cut_after (take (limit - length done) rest)
            ∙ ap (λ (ts : StreamTuples). tuples_before tuples ts)
            (sym (beyond policy rest (length lines + 1) (limit - length done) (omega (arith, long))))))
      ]

-- what is told of a text comes behind what is told of its first lines, where faults are told apart
module _ (lines : List (List ℕ)) (items : List StreamItem) (whole : All IsLine lines)
    (read : (more : List (List ℕ)) (end : TextEnd StreamEnd)
    → items_of_lines (stream_reading Report) (lines ++ more) 1 end ≡ items_before items
    (items_of_lines (stream_reading Report) more (length lines + 1) end)) where
  pub reports_after : (limit : ℕ) (rest : List ℕ) → length (text_of lines) ≤ limit
      → reports_from 1 limit (text_of lines ++ rest) ≡ reports_in items
      ++ reports_from (length lines + 1) (limit - length (text_of lines)) rest
  unfolding reports_from
  reports_after limit rest fits =
      let left = limit - length (text_of lines) in
      ap (λ (ts : TextItems StreamItem StreamEnd). reports_in ts.items)
      (Texts.items_after (stream_reading Report) lines items whole read limit rest fits)
      ∙ flat_map-append report_of items
      (items_from (stream_reading Report) (length lines + 1) left rest).items

-- nothing is left
pub nothing_left : (policy : FaultPolicy) (number limit : ℕ) → 0 < limit
    → tuples_from policy number limit [] ≡ tuples_with [] Whole
nothing_left policy number limit some = within policy [] number limit some
    ∙ (ap (λ ls. tuples_of_lines policy ls number Whole) raw_lines_nil ∙ no_lines policy number Whole)
