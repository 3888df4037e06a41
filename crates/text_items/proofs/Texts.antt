-- The items of a text, of which the first lines are known.
use Rattle.std.proofs.Common.{◌≡◌, ℕ, suc, ◌+◌, ◌-◌, ◌<◌, ◌≤◌, List, [], ◌∷◌, ◌++◌, length, take}
use Rattle.std.proofs.Common.{Option, Result, Ok, Err, refl, ap, sym, subst, ◌∙◌, arith, inl, inr}
use Rattle.std.proofs.Common.{length-append}
use Rattle.std.specs.Prelude.{option_to_list}
use Rattle.std.specs.List.{All}
use Rattle.std.proofs.lemmas.Bool.{cases_lt, lt-ltb, le-ltb, le-leb, lt-leb}
use Rattle.std.proofs.lemmas.List.{take-append-le}
use Rattle.std.proofs.Math.Seq.{take-append-add, take-append_seam}
use Rattle.text_parts.specs.Lines.{IsLine, raw_lines, line_length, text_of, without_return}
use Rattle.text_parts.specs.EndedLines.{ended_lines, open_line}
use Rattle.text_parts.proofs.Cuts.{raw_lines_nil, raw_lines_only, raw_lines_first, raw_lines_many}
use Rattle.text_parts.proofs.LineLengths.{first_cut, line_length_grows, line_length_within}
use Rattle.text_parts.proofs.Pieces.{ended_only, open_only, ended_first, ended_many, open_many}
use Rattle.text_items.specs.declared.ends.TextEnd.{TextEnd}
use Rattle.text_items.specs.declared.ends.TextEnd.TheVariants.{Whole, LongText, Line}
use Rattle.text_items.specs.Limits.{line_limit}
use Rattle.text_items.specs.Reading.{Reading, raw_gives}
use Rattle.text_items.specs.Items.{TextItems, items_with, items_before, line_before, items_of_lines}
use Rattle.text_items.specs.Items.{long_end, cut_end, cut_items, items_from}

module _ {A E : Type 0} (reading : Reading A E) where
  -- the items of lines, the first of which gives this
  pub first_gives : (line : List ℕ) (lines : List (List ℕ)) (number : ℕ) (end : TextEnd E)
      (gives : Result (Option A) E) → raw_gives reading number line ≡ gives
      → items_of_lines reading (line ∷ lines) number end
      ≡ line_before gives (items_of_lines reading lines (number + 1) end)
  unfolding items_of_lines
  first_gives line lines number end gives is = ap (λ (g : Result (Option A) E).
      line_before g (items_of_lines reading lines (number + 1) end)) is

  pub no_lines : (number : ℕ) (end : TextEnd E)
      → items_of_lines reading [] number end ≡ items_with [] end
  unfolding items_of_lines
  no_lines number end = refl

  -- a line that isn't too long, and one that is
  pub short_line : (number : ℕ) (line : List ℕ) → length line ≤ line_limit
      → raw_gives reading number line ≡ reading.line number (without_return line)
  short_line number line short = rw (le-leb (length line) line_limit short) refl

  pub long_line : (number : ℕ) (line : List ℕ) → line_limit < length line
      → raw_gives reading number line ≡ reading.long number (take line_limit line)
  long_line number line long = rw (lt-leb (length line) line_limit long) refl

  -- a text within the limit, and one that is cut off
  pub within : (text : List ℕ) (number limit : ℕ) → length text < limit
      → items_from reading number limit text ≡ items_of_lines reading (raw_lines text) number Whole
  unfolding items_from
  within text number limit short = rw (lt-ltb (length text) limit short) refl

  pub beyond : (text : List ℕ) (number limit : ℕ) → limit ≤ length text
      → items_from reading number limit text ≡ cut_items reading number (take limit text)
  unfolding items_from
  beyond text number limit long = rw (le-ltb (length text) limit long) refl

  pub cut_is : (text : List ℕ) (number : ℕ)
      → cut_items reading number text ≡ items_of_lines reading (ended_lines text) number
      (cut_end reading (number + length (ended_lines text)) (open_line text))
  unfolding cut_items
  cut_is text number = refl

  -- lines that are read, whatever follows
  module _ (lines : List (List ℕ)) (items : List A) (whole : All IsLine lines)
      (read : (more : List (List ℕ)) (end : TextEnd E)
      → items_of_lines reading (lines ++ more) 1 end ≡ items_before items
      (items_of_lines reading more (length lines + 1) end)) where
    cut_after : (rest : List ℕ) → cut_items reading 1 (text_of lines ++ rest)
        ≡ items_before items (cut_items reading (length lines + 1) rest)
    unfolding cut_items
    cut_after rest =
        let last = ended_lines rest in
        let number : 1 + length (lines ++ last) ≡ (length lines + 1) + length last = omega
        (arith, length-append lines last) in
        rw (ended_many lines rest whole, open_many lines rest whole, number)
        (read last (cut_end reading ((length lines + 1) + length last) (open_line rest)))

    -- their items come before those of what follows
    pub items_after : (limit : ℕ) (rest : List ℕ) → length (text_of lines) ≤ limit
        → items_from reading 1 limit (text_of lines ++ rest) ≡ items_before items
        (items_from reading (length lines + 1) (limit - length (text_of lines)) rest)
    items_after limit rest fits =
        let done = text_of lines in
        let long = length-append done rest in
        elim (cases_lt (length (done ++ rest)) limit) [
          | inl short ↦
              within (done ++ rest) 1 limit short
              ∙ (ap (λ ls. items_of_lines reading ls 1 Whole) (raw_lines_many lines rest whole)
              ∙ (read (raw_lines rest) Whole
              ∙ ap (λ (ts : TextItems A E). items_before items ts)
              (sym (within rest (length lines + 1) (limit - length done) (omega (arith, long))))))
          | inr over ↦
              let sum : length done + (limit - length done) ≡ limit = omega arith in
              let cut : take limit (done ++ rest) ≡ done ++ take (limit - length done) rest = subst
              (λ n. take n (done ++ rest) ≡ done ++ take (limit - length done) rest) sum
              (take-append-add done rest (limit - length done)) in
              beyond (done ++ rest) 1 limit over
              ∙ (ap (cut_items reading 1) cut
              ∙ (cut_after (take (limit - length done) rest)
              ∙ ap (λ (ts : TextItems A E). items_before items ts)
              (sym (beyond rest (length lines + 1) (limit - length done) (omega (arith, long))))))
        ]

  -- a text that is cut off, and whose first line ends the reading
  cut_ends : (line rest : List ℕ) (number : ℕ) (fault : E) → IsLine line
      → raw_gives reading number line ≡ Err fault
      → cut_items reading number (line ++ 10 ∷ rest) ≡ items_with [] (Line fault)
  cut_ends line rest number fault whole is =
      let text = line ++ 10 ∷ rest in
      let last = cut_end reading (number + length (ended_lines text)) (open_line text) in
      cut_is text number
      ∙ (ap (λ ls. items_of_lines reading ls number last) (ended_first line rest whole)
      ∙ first_gives line (ended_lines rest) number last (Err fault) is)

  -- the same in a text within the limit
  whole_ends : (line rest : List ℕ) (number : ℕ) (fault : E) → IsLine line
      → raw_gives reading number line ≡ Err fault
      → items_of_lines reading (raw_lines (line ++ 10 ∷ rest)) number Whole ≡ items_with [] (Line fault)
  whole_ends line rest number fault whole is =
      ap (λ ls. items_of_lines reading ls number Whole) (raw_lines_first line rest whole)
      ∙ first_gives line (raw_lines rest) number Whole (Err fault) is

  -- a first line that ends the reading, and its line feed
  pub ends_first : (line rest : List ℕ) (number limit : ℕ) (fault : E) → IsLine line
      → length line < limit → raw_gives reading number line ≡ Err fault
      → items_from reading number limit (line ++ 10 ∷ rest) ≡ items_with [] (Line fault)
  ends_first line rest number limit fault whole fits is =
      elim (cases_lt (length (line ++ 10 ∷ rest)) limit) [
        | inl short ↦
            within (line ++ 10 ∷ rest) number limit short ∙ whole_ends line rest number fault whole is
        | inr over ↦
            let more = limit - (length line + 1) in
            let sum : length line + suc more ≡ limit = omega arith in
            let cut : take limit (line ++ 10 ∷ rest) ≡ line ++ 10 ∷ take more rest = subst
            (λ n. take n (line ++ 10 ∷ rest) ≡ line ++ 10 ∷ take more rest) sum
            (take-append-add line (10 ∷ rest) (suc more)) in
            beyond (line ++ 10 ∷ rest) number limit over
            ∙ (ap (cut_items reading number) cut ∙ cut_ends line (take more rest) number fault whole is)
      ]

  -- a line that ends the reading, is the last and has no line feed
  pub ends_last : (line : List ℕ) (number limit : ℕ) (fault : E) → IsLine line
      → 0 < length line → length line < limit → raw_gives reading number line ≡ Err fault
      → items_from reading number limit line ≡ items_with [] (Line fault)
  ends_last line number limit fault whole some fits is =
      within line number limit fits ∙ (ap (λ ls. items_of_lines reading ls number Whole)
      (raw_lines_only line whole some) ∙ first_gives line [] number Whole (Err fault) is)

  -- such a line that doesn't
  pub gives_last : (line : List ℕ) (number limit : ℕ) (found : Option A) → IsLine line
      → 0 < length line → length line < limit → raw_gives reading number line ≡ Ok found
      → items_from reading number limit line ≡ items_before (option_to_list found) (items_with [] Whole)
  gives_last line number limit found whole some fits good =
      within line number limit fits
      ∙ (ap (λ ls. items_of_lines reading ls number Whole) (raw_lines_only line whole some)
      ∙ (first_gives line [] number Whole (Ok found) good
      ∙ ap (λ (ts : TextItems A E). items_before (option_to_list found) ts)
      (no_lines (number + 1) Whole)))

  -- nothing is left
  pub nothing_left : (number limit : ℕ) → 0 < limit
      → items_from reading number limit [] ≡ items_with [] Whole
  nothing_left number limit some = within [] number limit some
      ∙ (ap (λ ls. items_of_lines reading ls number Whole) raw_lines_nil ∙ no_lines number Whole)

  -- a text that is cut off within its first line
  cut_only : (line : List ℕ) (number : ℕ) → IsLine line
      → cut_items reading number line ≡ items_with [] (cut_end reading number line)
  unfolding cut_items
  cut_only line number whole =
      let here : number + 0 ≡ number = omega arith in
      rw (ended_only line whole, open_only line whole)
      (no_lines number (cut_end reading (number + 0) line)
      ∙ ap (λ n. items_with [] (cut_end reading n line)) here)

  -- the end of a text that is cut off within a line that isn't too long, and within one that is
  pub short_end : (number : ℕ) (line : List ℕ) → length line ≤ line_limit
      → cut_end reading number line ≡ LongText
  short_end number line short = rw (le-leb (length line) line_limit short) refl

  pub over_end : (number : ℕ) (line : List ℕ) (gives : Result (Option A) E)
      → line_limit < length line → reading.long number (take line_limit line) ≡ gives
      → cut_end reading number line ≡ long_end gives
  over_end number line gives long is =
      rw (lt-leb (length line) line_limit long) (ap (λ (g : Result (Option A) E). long_end g) is)

  -- where the first line is too long and ends the reading, in a text within the limit
  whole_long : (text : List ℕ) (number : ℕ) (fault : E) → line_limit < line_length text
      → reading.long number (take line_limit text) ≡ Err fault
      → items_of_lines reading (raw_lines text) number Whole ≡ items_with [] (Line fault)
  whole_long text number fault long is = elim (first_cut text) [
    | inl one ↦
        let far : line_limit < length text = omega (arith, one.1, long) in
        ap (λ ls. items_of_lines reading ls number Whole) (raw_lines_only text one.0 (omega (arith, far)))
        ∙ first_gives text [] number Whole (Err fault) (long_line number text far ∙ is)
    | inr cut ↦
        let far : line_limit < length cut.0 = omega (arith, cut.4, long) in
        let front : take line_limit text ≡ take line_limit cut.0 =
        ap (take line_limit) cut.2 ∙ take-append-le line_limit cut.0 (10 ∷ cut.1) (omega (arith, far)) in
        ap (λ t. items_of_lines reading (raw_lines t) number Whole) cut.2
        ∙ whole_ends cut.0 cut.1 number fault cut.3
        (long_line number cut.0 far ∙ (ap (reading.long number) (sym front) ∙ is))
  ]

  -- and in one that is cut off
  cut_long : (text : List ℕ) (number : ℕ) (fault : E) → line_limit < line_length text
      → reading.long number (take line_limit text) ≡ Err fault
      → cut_items reading number text ≡ items_with [] (Line fault)
  cut_long text number fault long is = elim (first_cut text) [
    | inl one ↦
        let far : line_limit < length text = omega (arith, one.1, long) in
        cut_only text number one.0
        ∙ ap (λ (e : TextEnd E). items_with [] e) (over_end number text (Err fault) far is)
    | inr cut ↦
        let far : line_limit < length cut.0 = omega (arith, cut.4, long) in
        let front : take line_limit text ≡ take line_limit cut.0 =
        ap (take line_limit) cut.2 ∙ take-append-le line_limit cut.0 (10 ∷ cut.1) (omega (arith, far)) in
        ap (cut_items reading number) cut.2
        ∙ cut_ends cut.0 cut.1 number fault cut.3
        (long_line number cut.0 far ∙ (ap (reading.long number) (sym front) ∙ is))
  ]

  -- a first line that is too long already in its front that counts, and ends the reading
  pub long_first : (front rest : List ℕ) (number limit : ℕ) (fault : E) → length front ≤ limit
      → line_limit < line_length front → reading.long number (take line_limit front) ≡ Err fault
      → items_from reading number limit (front ++ rest) ≡ items_with [] (Line fault)
  long_first front rest number limit fault fits long is = elim (cases_lt (length (front ++ rest)) limit) [
    | inl short ↦ within (front ++ rest) number limit short
        ∙ whole_long (front ++ rest) number fault (omega (arith, line_length_grows front rest, long))
        (same rest ∙ is)
    | inr over ↦
        let more = limit - length front in
        let sum : length front + more ≡ limit = omega arith in
        let cut : take limit (front ++ rest) ≡ front ++ take more rest = subst
        (λ n. take n (front ++ rest) ≡ front ++ take more rest) sum (take-append-add front rest more) in
        beyond (front ++ rest) number limit over
        ∙ (ap (cut_items reading number) cut ∙ cut_long (front ++ take more rest) number fault
        (omega (arith, line_length_grows front (take more rest), long)) (same (take more rest) ∙ is))
  ]
    where
      same : (after : List ℕ) → reading.long number (take line_limit (front ++ after))
          ≡ reading.long number (take line_limit front)
      same after = ap (reading.long number) (take-append-le line_limit front after
          (omega (arith, long, line_length_within front)))

  -- a text of which nothing but the front of a line counts
  pub cut_off : (front rest : List ℕ) (number limit : ℕ) → length front ≡ limit → IsLine front
      → items_from reading number limit (front ++ rest) ≡ items_with [] (cut_end reading number front)
  cut_off front rest number limit all whole =
      let cut : take limit (front ++ rest) ≡ front = subst (λ n. take n (front ++ rest) ≡ front) all
      (take-append_seam front rest) in
      beyond (front ++ rest) number limit (omega (arith, all, length-append front rest))
      ∙ (ap (cut_items reading number) cut ∙ cut_only front number whole)
