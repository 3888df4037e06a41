-- What is read and told of a stream whose faults are told apart, by its lines.
use Rattle.std.proofs.Common.{◌≡◌, ℕ, ◌+◌, ◌<◌, ◌≤◌, Bool, true, false, List, [], ◌∷◌, ◌++◌, length, take}
use Rattle.std.proofs.Common.{append-nil, Option, Some, None, Result, Ok, Err, refl, ap, sym, subst, ◌∙◌, inl, inr, ◌⊎◌}
use Rattle.std.specs.Prelude.{option_to_list, nat_le, if◌then◌else◌}
use Rattle.std.specs.List.{flat_map}
use Rattle.std.proofs.lemmas.Bool.{cases_lt, le-leb, lt-leb}
use Rattle.text_parts.specs.Lines.{raw_lines, without_return}
use Rattle.text_parts.specs.EndedLines.{ended_lines, open_line}
use Rattle.rpq_base.specs.declared.data.Tuple.{Tuple}
use Rattle.tuple_text.specs.declared.read.BadLine.{BadLine}
use Rattle.tuple_text.specs.Reading.{line_tuple}
use Rattle.text_items.specs.declared.ends.TextEnd.{TextEnd}
use Rattle.text_items.specs.Reading.{raw_gives}
use Rattle.text_items.specs.Items.{TextItems, items_with, items_before, items_of_lines, items_from}
use Rattle.text_items.specs.Items.{cut_end as cut_end_of, long_end as long_end_of}
use Rattle.text_items.proofs.Texts as Texts
use Rattle.stream_tuples.specs.declared.ends.StreamEnd.{StreamEnd}
use Rattle.stream_tuples.specs.declared.ends.StreamEnd.TheVariants.{Whole, Line, LongLine, LongStream}
use Rattle.stream_tuples.specs.declared.faults.FaultPolicy.TheVariants.{Stop, Report}
use Rattle.stream_tuples.specs.declared.faults.StreamItem.{StreamItem}
use Rattle.stream_tuples.specs.declared.faults.StreamItem.TheVariants as item
use Rattle.stream_tuples.specs.Ends.{CanEnd}
use Rattle.stream_tuples.specs.Faults.{tuples_in, reports_in, long_report}
use Rattle.stream_tuples.specs.Limits.{line_limit}
use Rattle.stream_tuples.specs.StreamText.{StreamTuples, tuples_with, tuples_before, numbered, fault_gives}
use Rattle.stream_tuples.specs.StreamText.{stream_reading, stream_end}
use Rattle.stream_tuples.specs.StreamText.{as_stream, tuples_of_lines, cut_end, tuples_from, reports_from}
use Rattle.stream_tuples.specs.FaultLaws.{tuple_read, fault_told, raw_tuple, raw_report, raw_reports}
use Rattle.stream_tuples.specs.FaultLaws.{ToldByLines, FaultlessIsAlike}
use Rattle.stream_tuples.proofs.Fronts.{tuples_of_more, reports_of_more}
use Rattle.stream_tuples.proofs.StreamTexts.{first_gives, good_first, no_lines, short_gives, long_gives}
use Rattle.stream_tuples.proofs.StreamTexts.{within, beyond, cut_is}

-- ---- one line

-- what a line gives where faults are told apart: an item or nothing
record GivesTold (number : ℕ) (line : List ℕ) : Type 0 where
  found : Option StreamItem
  gives : raw_gives (stream_reading Report) number line ≡ Ok found
  tuple : tuples_in (option_to_list found) ≡ raw_tuple line
  report : reports_in (option_to_list found) ≡ raw_report number line

-- so it is if it isn't too long
record GivesShort (number : ℕ) (line : List ℕ) (read : Result (Option Tuple) BadLine) : Type 0 where
  found : Option StreamItem
  gives : numbered Report number line read ≡ Ok found
  tuple : tuples_in (option_to_list found) ≡ tuple_read read
  report : reports_in (option_to_list found) ≡ fault_told number line read

short_told : (number : ℕ) (line : List ℕ) (read : Result (Option Tuple) BadLine)
    → GivesShort number line read
short_told number line (Ok None) = record { found = None; gives = refl; tuple = refl; report = refl }
short_told number line (Ok (Some tuple)) =
    record { found = Some (item.Tuple tuple); gives = refl; tuple = refl; report = refl }
short_told number line (Err fault) =
    let told = fault_told number line (Err fault) in
    record { found = Some (item.Fault told); gives = refl; tuple = refl; report = append-nil told }

gives_told : (number : ℕ) (line : List ℕ) → GivesTold number line
gives_told number line = elim (cases_lt line_limit (length line)) [
  | inl long ↦
      let report = long_report number (take line_limit line) in
      record {
        found = Some (item.Fault report);
        gives = Texts.long_line (stream_reading Report) number line long;
        tuple = rw (lt-leb (length line) line_limit long) refl;
        report = rw (lt-leb (length line) line_limit long) (append-nil report);
      }
  | inr short ↦
      let one = short_told number (without_return line) (line_tuple (without_return line)) in
      record {
        found = one.found;
        gives = Texts.short_line (stream_reading Report) number line short ∙ one.gives;
        tuple = rw (le-leb (length line) line_limit short) one.tuple;
        report = rw (le-leb (length line) line_limit short) one.report;
      }
]

-- ---- many lines

record LinesTold (number : ℕ) (lines : List (List ℕ)) (end : TextEnd StreamEnd) : Type 0 where
  items : List StreamItem
  all : items_of_lines (stream_reading Report) lines number end ≡ items_with items end
  tuples : tuples_in items ≡ flat_map raw_tuple lines
  reports : reports_in items ≡ raw_reports number lines

lines_told : (number : ℕ) (lines : List (List ℕ)) (end : TextEnd StreamEnd) → LinesTold number lines end
unfolding raw_reports
lines_told number [] end =
    record { items = []; all = Texts.no_lines (stream_reading Report) number end; tuples = refl; reports = refl }
lines_told number (line ∷ lines) end =
    let first = gives_told number line in
    let rest = lines_told (number + 1) lines end in
    let one = option_to_list first.found in
    record {
      items = one ++ rest.items;
      all = Texts.first_gives (stream_reading Report) line lines number end (Ok first.found) first.gives
          ∙ ap (λ (ts : TextItems StreamItem StreamEnd). items_before one ts) rest.all;
      tuples = tuples_of_more one rest.items
          ∙ (ap (λ (ts : List Tuple). ts ++ tuples_in rest.items) first.tuple
          ∙ ap (λ (ts : List Tuple). raw_tuple line ++ ts) rest.tuples);
      reports = reports_of_more one rest.items
          ∙ (ap (λ (b : List ℕ). b ++ reports_in rest.items) first.report
          ∙ ap (λ (b : List ℕ). raw_report number line ++ b) rest.reports);
    }

-- ---- a text

module _ (number limit : ℕ) (text : List ℕ) (lines : List (List ℕ)) (last : TextEnd StreamEnd)
    (cut : items_from (stream_reading Report) number limit text
    ≡ items_of_lines (stream_reading Report) lines number last) where
  tuples_told : (end : StreamEnd) → stream_end last ≡ end
      → tuples_from Report number limit text ≡ tuples_with (flat_map raw_tuple lines) end
  unfolding tuples_from
  tuples_told end is =
      let told = lines_told number lines last in
      ap as_stream (cut ∙ told.all)
      ∙ (ap (λ (ts : List Tuple). tuples_with ts (stream_end last)) told.tuples
      ∙ ap (λ (e : StreamEnd). tuples_with (flat_map raw_tuple lines) e) is)

  reports_told : reports_from number limit text ≡ raw_reports number lines
  unfolding reports_from
  reports_told =
      let told = lines_told number lines last in
      ap (λ (ts : TextItems StreamItem StreamEnd). reports_in ts.items) (cut ∙ told.all) ∙ told.reports

-- a text that is cut off
module _ (number limit : ℕ) (text : List ℕ) (long : limit ≤ length text) where
  abbrev cut_lines : List (List ℕ)
  cut_lines = ended_lines (take limit text)

  abbrev cut_last : TextEnd StreamEnd
  cut_last = cut_end_of (stream_reading Report) (number + length cut_lines) (open_line (take limit text))

  cut_text : items_from (stream_reading Report) number limit text
      ≡ items_of_lines (stream_reading Report) cut_lines number cut_last
  cut_text = Texts.beyond (stream_reading Report) text number limit long
      ∙ Texts.cut_is (stream_reading Report) (take limit text) number

ends_long : (short : Bool) (number : ℕ) (report : List ℕ)
    → stream_end (if short then TextEnd.LongText
    else long_end_of (fault_gives Report (LongLine number) report)) ≡ LongStream
ends_long true number report = refl
ends_long false number report = refl

pub told_by_lines : ToldByLines
told_by_lines number limit text = record {
  within = λ short. tuples_told number limit text (raw_lines text) TextEnd.Whole
      (Texts.within (stream_reading Report) text number limit short) Whole refl;
  within_told = λ short. reports_told number limit text (raw_lines text) TextEnd.Whole
      (Texts.within (stream_reading Report) text number limit short);
  beyond = λ long.
      let line = open_line (take limit text) in
      let last = number + length (cut_lines number limit text long) in
      tuples_told number limit text (cut_lines number limit text long) (cut_last number limit text long)
      (cut_text number limit text long) LongStream
      (ends_long (nat_le (length line) line_limit) last (long_report last (take line_limit line)));
  beyond_told = λ long. reports_told number limit text (cut_lines number limit text long)
      (cut_last number limit text long) (cut_text number limit text long);
}

-- ---- a text without faults

-- lines that don't end a stream
record LinesAlike (number : ℕ) (lines : List (List ℕ)) (end : StreamEnd) : Type 0 where
  tuples : tuples_of_lines Report lines number end ≡ tuples_of_lines Stop lines number end
  quiet : raw_reports number lines ≡ []
  ends : CanEnd Report end

lines_alike : (number : ℕ) (lines : List (List ℕ)) (end : StreamEnd)
    → CanEnd Report (tuples_of_lines Stop lines number end).end → LinesAlike number lines end
unfolding raw_reports
lines_alike number [] end good = record {
  tuples = no_lines Report number end ∙ sym (no_lines Stop number end);
  quiet = refl;
  ends = subst (λ (ts : StreamTuples). CanEnd Report ts.end) (no_lines Stop number end) good;
}
lines_alike number (line ∷ lines) end good =
    by (cases_lt line_limit (length line)) (line_tuple (without_return line)) refl
    (λ later. lines_alike (number + 1) lines end later)
  where
    by : (line_limit < length line) ⊎ (length line ≤ line_limit)
        → (read : Result (Option Tuple) BadLine) → line_tuple (without_return line) ≡ read
        → (CanEnd Report (tuples_of_lines Stop lines (number + 1) end).end → LinesAlike (number + 1) lines end)
        → LinesAlike number (line ∷ lines) end
    by (inl long) read gives later =
        let is = first_gives Stop line lines number end (Err (LongLine number)) (long_gives Stop number line long) in
        absurd (subst (λ (ts : StreamTuples). CanEnd Report ts.end) is good)
    by (inr short) (Err fault) gives later =
        let is = first_gives Stop line lines number end (Err (Line number fault))
        (short_gives Stop number line short ∙ ap (numbered Stop number (without_return line)) gives) in
        absurd (subst (λ (ts : StreamTuples). CanEnd Report ts.end) is good)
    by (inr short) (Ok found) gives later =
        let is = good_first Stop line lines number end found short gives in
        let rest = later (subst (λ (ts : StreamTuples). CanEnd Report ts.end) is good) in
        let none : raw_report number line ≡ [] =
        rw (le-leb (length line) line_limit short) (ap (fault_told number (without_return line)) gives) in
        record {
          tuples = good_first Report line lines number end found short gives
              ∙ (ap (λ (ts : StreamTuples). tuples_before (option_to_list found) ts) rest.tuples ∙ sym is);
          quiet = ap (λ (b : List ℕ). b ++ raw_reports (number + 1) lines) none ∙ rest.quiet;
          ends = rest.ends;
        }

-- the end of a text that is cut off, where the last line isn't too long
same_cut : (short : Bool) (number : ℕ) → CanEnd Report (if short then LongStream else LongLine number)
    → (if short then LongStream else LongStream) ≡ (if short then LongStream else LongLine number)
same_cut true number good = refl
same_cut false number good = absurd good

pub faultless_is_alike : FaultlessIsAlike
faultless_is_alike number limit text good = elim (cases_lt (length text) limit) [
  | inl short ↦
      let is = within Stop text number limit short in
      let alike = lines_alike number (raw_lines text) Whole
      (subst (λ (ts : StreamTuples). CanEnd Report ts.end) is good) in
      record {
        tuples = within Report text number limit short ∙ (alike.tuples ∙ sym is);
        none_told = (told_by_lines number limit text).within_told short ∙ alike.quiet;
      }
  | inr long ↦
      let lines = ended_lines (take limit text) in
      let line = open_line (take limit text) in
      let last = number + length lines in
      let is = beyond Stop text number limit long ∙ cut_is Stop (take limit text) number in
      let alike = lines_alike number lines (cut_end Stop last line)
      (subst (λ (ts : StreamTuples). CanEnd Report ts.end) is good) in
      record {
        tuples = beyond Report text number limit long ∙ (cut_is Report (take limit text) number
            ∙ (ap (λ (e : StreamEnd). tuples_of_lines Report lines number e)
            (same_cut (nat_le (length line) line_limit) last alike.ends)
            ∙ (alike.tuples ∙ sym is)));
        none_told = (told_by_lines number limit text).beyond_told long ∙ alike.quiet;
      }
]
