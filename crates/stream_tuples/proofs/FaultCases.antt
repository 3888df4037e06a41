-- What becomes of some faulty lines, by going through them.
use Rattle.std.proofs.Common.{◌≡◌, ℕ, ◌<◌, List, [], ◌∷◌, ◌++◌, length, take, Some, Err, refl, ap, ◌∙◌}
use Rattle.std.proofs.Common.{arith, length-append, append-nil, Ok}
use Rattle.std.specs.Prelude.{codes}
use Rattle.std.specs.List.{flat_map}
use Rattle.std.specs.Fmt.{digits}
use Rattle.std.proofs.lemmas.Bool.{lt-leb}
use Rattle.text_parts.specs.Fields.{fields}
use Rattle.text_parts.specs.Lines.{IsLine, raw_lines, without_return}
use Rattle.text_parts.specs.Numbers.{number_within}
use Rattle.text_parts.proofs.Cuts.{raw_lines_first}
use Rattle.rpq_base.specs.Names.{is_name}
use Rattle.tuple_text.specs.Reading.{time_of, name_of, edge_of, act_of, tick_of, change_of}
use Rattle.tuple_text.specs.Reading.{line_tuple, tuple_of_fields}
use Rattle.text_items.specs.Items.{items_of_lines, items_from}
use Rattle.stream_tuples.specs.declared.ends.StreamEnd.TheVariants.{Whole, LongLine}
use Rattle.stream_tuples.specs.declared.faults.FaultPolicy.TheVariants.{Stop, Report}
use Rattle.stream_tuples.specs.Limits.{line_limit}
use Rattle.stream_tuples.specs.StreamText.{StreamTuples, tuples_with, tuples_before, tuples_of_lines}
use Rattle.stream_tuples.specs.StreamText.{tuples_from, reports_from}
use Rattle.stream_tuples.specs.FaultLaws.{raw_tuple, raw_report, raw_reports, inserted, two_edges}
use Rattle.stream_tuples.specs.FaultLaws.{FaultExamples}
use Rattle.stream_tuples.proofs.ByLines.{told_by_lines}
use Rattle.stream_tuples.proofs.StreamTexts.{first_gives, good_first, long_gives, within}

before_gives : line_tuple (without_return (codes "1 x a y")) ≡ Ok (Some (inserted 1 (codes "x") (codes "y")))
unfolding line_tuple without_return tuple_of_fields fields time_of name_of edge_of act_of change_of
    number_within is_name
before_gives = refl

before_tuple : raw_tuple (codes "1 x a y") ≡ inserted 1 (codes "x") (codes "y") ∷ []
unfolding line_tuple without_return tuple_of_fields fields time_of name_of edge_of act_of change_of
    number_within is_name
before_tuple = refl

before_report : raw_report 1 (codes "1 x a y") ≡ []
unfolding line_tuple without_return tuple_of_fields fields time_of name_of edge_of act_of change_of
    number_within is_name
before_report = refl

behind_tuple : raw_tuple (codes "3 y a w") ≡ inserted 3 (codes "y") (codes "w") ∷ []
unfolding line_tuple without_return tuple_of_fields fields time_of name_of edge_of act_of change_of
    number_within is_name
behind_tuple = refl

behind_report : raw_report 3 (codes "3 y a w") ≡ []
unfolding line_tuple without_return tuple_of_fields fields time_of name_of edge_of act_of change_of
    number_within is_name
behind_report = refl

cut_before : (rest : List ℕ) → raw_lines (codes "1 x a y\n" ++ rest) ≡ codes "1 x a y" ∷ raw_lines rest
unfolding raw_lines
cut_before rest = refl

cut_behind : raw_lines (codes "3 y a w") ≡ codes "3 y a w" ∷ []
unfolding raw_lines
cut_behind = refl

module _ (line : List ℕ) (whole : IsLine line) (many : length line ≡ 1025) where
  abbrev long_text : List ℕ
  long_text = codes "1 x a y\n" ++ (line ++ 10 ∷ codes "3 y a w")

  fits : length long_text < 2000
  fits = omega (arith, length-append line (10 ∷ codes "3 y a w"), many)

  lines_are : raw_lines long_text ≡ codes "1 x a y" ∷ line ∷ codes "3 y a w" ∷ []
  lines_are =
      cut_before (line ++ 10 ∷ codes "3 y a w")
      ∙ (ap (λ (ls : List (List ℕ)). codes "1 x a y" ∷ ls) (raw_lines_first line (codes "3 y a w") whole)
      ∙ ap (λ (ls : List (List ℕ)). codes "1 x a y" ∷ line ∷ ls) cut_behind)

  too_long : line_limit < length line
  too_long = omega (arith, many)

  no_tuple : raw_tuple line ≡ []
  no_tuple = rw (lt-leb (length line) line_limit too_long) refl

  reported : raw_report 2 line ≡ codes "line 2: too long: " ++ (take 1024 line ++ codes "\n")
  unfolding digits
  reported = rw (lt-leb (length line) line_limit too_long) refl

  long_ended : tuples_from Stop 1 2000 long_text
      ≡ tuples_with (inserted 1 (codes "x") (codes "y") ∷ []) (LongLine 2)
  long_ended =
      within Stop long_text 1 2000 fits
      ∙ (ap (λ (ls : List (List ℕ)). tuples_of_lines Stop ls 1 Whole) lines_are
      ∙ (good_first Stop (codes "1 x a y") (line ∷ codes "3 y a w" ∷ []) 1 Whole
      (Some (inserted 1 (codes "x") (codes "y"))) (omega arith) before_gives
      ∙ ap (λ (ts : StreamTuples). tuples_before (inserted 1 (codes "x") (codes "y") ∷ []) ts)
      (first_gives Stop line (codes "3 y a w" ∷ []) 2 Whole (Err (LongLine 2)) (long_gives Stop 2 line too_long))))

  long_taken : tuples_from Report 1 2000 long_text ≡ tuples_with two_edges Whole
  long_taken =
      (told_by_lines 1 2000 long_text).within fits
      ∙ (ap (λ (ls : List (List ℕ)). tuples_with (flat_map raw_tuple ls) Whole) lines_are
      ∙ rw (before_tuple, no_tuple, behind_tuple) refl)

  all_reports : raw_reports 1 (codes "1 x a y" ∷ line ∷ codes "3 y a w" ∷ [])
      ≡ raw_report 1 (codes "1 x a y") ++ (raw_report 2 line ++ (raw_report 3 (codes "3 y a w") ++ []))
  unfolding raw_reports
  all_reports = refl

  long_told : reports_from 1 2000 long_text
      ≡ codes "line 2: too long: " ++ (take 1024 line ++ codes "\n")
  long_told =
      (told_by_lines 1 2000 long_text).within_told fits
      ∙ (ap (raw_reports 1) lines_are ∙ (all_reports
      ∙ rw (before_report, behind_report, reported) (append-nil
      (codes "line 2: too long: " ++ (take 1024 line ++ codes "\n")))))

pub fault_examples : FaultExamples
unfolding tuples_from reports_from items_from items_of_lines raw_lines line_tuple without_return
    tuple_of_fields fields time_of name_of edge_of act_of change_of tick_of number_within is_name digits
fault_examples = record {
  ended = refl;
  taken = refl;
  told = refl;
  several = refl;
  long_ended = long_ended;
  long_taken = long_taken;
  long_told = long_told;
}
