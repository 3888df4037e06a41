-- Lines that each give a tuple, at the front of a text.
use Rattle.std.proofs.Common.{◌≡◌, ℕ, suc, ◌+◌, ◌-◌, ◌≤◌, List, [], ◌∷◌, ◌++◌, length, map, Some, Ok, refl}
use Rattle.std.proofs.Common.{sym, ap, ◌∙◌, arith}
use Rattle.std.specs.Prelude.{All}
use Rattle.std.proofs.lemmas.List.{length-map}
use Rattle.std.proofs.lemmas.List.Elements.{All-nil, All-cons, All-head, All-tail}
use Rattle.text_parts.specs.Lines.{IsLine, without_return, text_of}
use Rattle.rpq_base.specs.declared.data.Tuple.{Tuple}
use Rattle.tuple_text.specs.Reading.{line_tuple}
use Rattle.text_items.specs.declared.ends.TextEnd.{TextEnd}
use Rattle.text_items.specs.Reading.{raw_gives}
use Rattle.text_items.specs.Items.{TextItems, items_before, items_of_lines}
use Rattle.text_items.proofs.Texts as Texts
use Rattle.stream_tuples.specs.declared.ends.StreamEnd.{StreamEnd}
use Rattle.stream_tuples.specs.declared.faults.FaultPolicy.{FaultPolicy}
use Rattle.stream_tuples.specs.declared.faults.FaultPolicy.TheVariants.{Report}
use Rattle.stream_tuples.specs.declared.faults.StreamItem.{StreamItem}
use Rattle.stream_tuples.specs.declared.faults.StreamItem.TheVariants as item
use Rattle.stream_tuples.specs.Faults.{tuples_in, reports_in}
use Rattle.stream_tuples.specs.Limits.{line_limit}
use Rattle.stream_tuples.specs.StreamText.{tuples_with, tuples_before, numbered, stream_reading}
use Rattle.stream_tuples.specs.StreamText.{as_stream, stream_end, tuples_of_lines, tuples_from, reports_from}
use Rattle.stream_tuples.proofs.Fronts.{tuples_of_more}
use Rattle.stream_tuples.proofs.StreamTexts.{tuples_after, reports_after}

-- a line that gives a tuple
pub record GivesTuple (line : List ℕ) (tuple : Tuple) : Type 0 where
  pub whole : IsLine line
  pub short : length line ≤ line_limit
  pub gives : line_tuple (without_return line) ≡ Ok (Some tuple)

-- the items that tuples are
abbrev items_of : List Tuple → List StreamItem
items_of tuples = map (λ (tuple : Tuple). item.Tuple tuple) tuples

tuples_are : (tuples : List Tuple) → tuples_in (items_of tuples) ≡ tuples
tuples_are [] = refl
tuples_are (tuple ∷ tuples) = ap (λ (rest : List Tuple). tuple ∷ rest) (tuples_are tuples)

front_is : (tuples : List Tuple) (rest : TextItems StreamItem StreamEnd)
    → as_stream (items_before (items_of tuples) rest) ≡ tuples_before tuples (as_stream rest)
front_is tuples rest = ap (λ (all : List Tuple). tuples_with all (stream_end rest.end))
    (tuples_of_more (items_of tuples) rest.items
    ∙ ap (λ (front : List Tuple). front ++ tuples_in rest.items) (tuples_are tuples))

-- of which nothing is told
none_told : (tuples : List Tuple) → reports_in (items_of tuples) ≡ []
none_told [] = refl
none_told (tuple ∷ tuples) = none_told tuples

item_given : (policy : FaultPolicy) (number : ℕ) (line : List ℕ) (tuple : Tuple) → GivesTuple line tuple
    → raw_gives (stream_reading policy) number line ≡ Ok (Some (item.Tuple tuple))
item_given policy number line tuple is =
    Texts.short_line (stream_reading policy) number line is.short
    ∙ ap (numbered policy number (without_return line)) is.gives

-- each tuple has such a line
module _ (line_of : Tuple → List ℕ) where
  abbrev pub HasLine : Tuple → Type 0
  HasLine tuple = GivesTuple (line_of tuple) tuple

  lines_give : (policy : FaultPolicy) (tuples : List Tuple) (more : List (List ℕ)) (number : ℕ)
      (end : TextEnd StreamEnd) → All HasLine tuples
      → items_of_lines (stream_reading policy) (map line_of tuples ++ more) number end
      ≡ items_before (items_of tuples)
      (items_of_lines (stream_reading policy) more (length tuples + number) end)
  lines_give policy [] more number end are =
      let here : number ≡ length {A = Tuple} [] + number = omega arith in
      ap (λ (n : ℕ). items_of_lines (stream_reading policy) more n end) here
  lines_give policy (tuple ∷ tuples) more number end are =
      let behind : length tuples + (number + 1) ≡ suc (length tuples) + number = omega arith in
      Texts.first_gives (stream_reading policy) (line_of tuple) (map line_of tuples ++ more) number end
      (Ok (Some (item.Tuple tuple)))
      (item_given policy number (line_of tuple) tuple (All-head HasLine tuple tuples are))
      ∙ (ap (λ (rest : TextItems StreamItem StreamEnd). items_before (item.Tuple tuple ∷ []) rest)
      (lines_give policy tuples more (number + 1) end (All-tail HasLine tuple tuples are))
      ∙ ap (λ (n : ℕ). items_before (items_of (tuple ∷ tuples))
      (items_of_lines (stream_reading policy) more n end)) behind)

  all_lines : (tuples : List Tuple) → All HasLine tuples → All IsLine (map line_of tuples)
  all_lines [] are = All-nil IsLine
  all_lines (tuple ∷ tuples) are =
      All-cons IsLine (line_of tuple) (map line_of tuples) (All-head HasLine tuple tuples are).whole
      (all_lines tuples (All-tail HasLine tuple tuples are))

  module _ (tuples : List Tuple) (are : All HasLine tuples) where
    items_first : (policy : FaultPolicy) (more : List (List ℕ)) (end : TextEnd StreamEnd)
        → items_of_lines (stream_reading policy) (map line_of tuples ++ more) 1 end
        ≡ items_before (items_of tuples)
        (items_of_lines (stream_reading policy) more (length (map line_of tuples) + 1) end)
    items_first policy more end =
        lines_give policy tuples more 1 end are
        ∙ ap (λ (n : ℕ). items_before (items_of tuples)
        (items_of_lines (stream_reading policy) more (n + 1) end)) (sym (length-map tuples line_of))

    tuples_first : (policy : FaultPolicy) (more : List (List ℕ)) (end : StreamEnd)
        → tuples_of_lines policy (map line_of tuples ++ more) 1 end
        ≡ tuples_before tuples (tuples_of_lines policy more (length (map line_of tuples) + 1) end)
    unfolding tuples_of_lines
    tuples_first policy more end =
        ap as_stream (items_first policy more (TextEnd.Line end))
        ∙ front_is tuples (items_of_lines (stream_reading policy) more (length (map line_of tuples) + 1)
        (TextEnd.Line end))

    module _ (limit : ℕ) (rest : List ℕ) (fits : length (text_of (map line_of tuples)) ≤ limit) where
      abbrev front : List ℕ
      front = text_of (map line_of tuples)

      -- a text behind these lines gives its tuples behind theirs
      pub tuples_behind : (policy : FaultPolicy) → tuples_from policy 1 limit (front ++ rest)
          ≡ tuples_before tuples (tuples_from policy (length tuples + 1) (limit - length front) rest)
      tuples_behind policy =
          tuples_after policy (map line_of tuples) tuples (all_lines tuples are) (tuples_first policy)
          limit rest fits
          ∙ ap (λ (n : ℕ). tuples_before tuples (tuples_from policy (n + 1) (limit - length front) rest))
          (length-map tuples line_of)

      -- and of them nothing is told
      pub reports_behind : reports_from 1 limit (front ++ rest)
          ≡ reports_from (length tuples + 1) (limit - length front) rest
      reports_behind =
          reports_after (map line_of tuples) (items_of tuples) (all_lines tuples are)
          (items_first Report) limit rest fits
          ∙ (ap (λ (told : List ℕ). told
          ++ reports_from (length (map line_of tuples) + 1) (limit - length front) rest) (none_told tuples)
          ∙ ap (λ (n : ℕ). reports_from (n + 1) (limit - length front) rest) (length-map tuples line_of))
