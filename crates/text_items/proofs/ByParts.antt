-- The items of a text, by its parts.
use Rattle.std.proofs.Common.{◌≡◌, ℕ, zero, suc, ◌+◌, List, [], ◌∷◌, ◌++◌, length, take, Option, Some}
use Rattle.std.proofs.Common.{Result, Ok, Err, refl, ap, sym, subst, ◌∙◌, arith}
use Rattle.std.specs.Prelude.{◌↔◌, option_to_list, slice_get}
use Rattle.std.specs.List.{flat_map}
use Rattle.text_parts.specs.Lines.{raw_lines}
use Rattle.text_parts.specs.EndedLines.{ended_lines, open_line}
use Rattle.text_items.specs.declared.ends.TextEnd.{TextEnd}
use Rattle.text_items.specs.declared.ends.TextEnd.TheVariants.{Whole, Line}
use Rattle.text_items.specs.Reading.{Reading, raw_gives}
use Rattle.text_items.specs.Items.{TextItems, items_with, items_before, items_of_lines, cut_end, items_from}
use Rattle.text_items.specs.Laws.{IsEndOf, AreReadByParts, TextByParts}
use Rattle.text_items.proofs.Texts.{first_gives, no_lines, within, beyond, cut_is}

-- lines give these, one for one, where the first has this number
abbrev Gives : {A E : Type 0} → Reading A E → ℕ → List (List ℕ) → List (Option A) → Type 0
Gives {A} reading number good given = (place : ℕ) (line : List ℕ) (found : Option A)
    → slice_get good place ≡ Some line → slice_get given place ≡ Some found
    → raw_gives reading (place + number) line ≡ Ok found

-- the parts of lines the first of which has this number
record ArePartsFrom {A E : Type 0} (reading : Reading A E) (number : ℕ) (lines : List (List ℕ))
    (last : TextEnd E) (items : List A) (end : TextEnd E) : Type 0 where
  good : List (List ℕ)
  others : List (List ℕ)
  given : List (Option A)
  cut : lines ≡ good ++ others
  as_many : length given ≡ length good
  read : Gives reading number good given
  kept : items ≡ flat_map option_to_list given
  ends : IsEndOf reading others (number + length good) last end

module _ {A E : Type 0} (reading : Reading A E) where
  -- one line more in front
  gives_first : (number : ℕ) (line : List ℕ) (found : Option A) (good : List (List ℕ))
      (given : List (Option A)) → raw_gives reading number line ≡ Ok found
      → Gives reading (number + 1) good given → Gives reading number (line ∷ good) (found ∷ given)
  gives_first number line found good given first later zero one what is_line is_found =
      let same_line : line ≡ one = cc is_line in
      let same_found : found ≡ what = cc is_found in
      let here : zero + number ≡ number = omega arith in
      ap (λ n. raw_gives reading n one) here
      ∙ (ap (raw_gives reading number) (sym same_line)
      ∙ (first ∙ ap (λ (f : Option A). Ok f) same_found))
  gives_first number line found good given first later (suc place) one what is_line is_found =
      let there : suc place + number ≡ place + (number + 1) = omega arith in
      ap (λ n. raw_gives reading n one) there ∙ later place one what is_line is_found

  -- the first line of some, and the others
  first_given : (number : ℕ) (line : List ℕ) (found : Option A) (good : List (List ℕ))
      (given : List (Option A)) → Gives reading number (line ∷ good) (found ∷ given)
      → raw_gives reading number line ≡ Ok found
  first_given number line found good given all =
      let here : number ≡ zero + number = omega arith in
      ap (λ n. raw_gives reading n line) here ∙ all zero line found refl refl

  later_given : (number : ℕ) (line : List ℕ) (found : Option A) (good : List (List ℕ))
      (given : List (Option A)) → Gives reading number (line ∷ good) (found ∷ given)
      → Gives reading (number + 1) good given
  later_given number line found good given all place one what is_line is_found =
      let there : place + (number + 1) ≡ suc place + number = omega arith in
      ap (λ n. raw_gives reading n one) there ∙ all (suc place) one what is_line is_found

  no_items : (items : List A) (first end : TextEnd E)
      → items_with [] first ≡ items_with items end → items ≡ []
  no_items items first end is = sym (ap (λ (ts : TextItems A E). ts.items) is)

  same_end : (items : List A) (first end : TextEnd E)
      → items_with [] first ≡ items_with items end → end ≡ first
  same_end items first end is = sym (ap (λ (ts : TextItems A E). ts.end) is)

  -- the parts of lines that end at once
  parts_end : (number : ℕ) (lines : List (List ℕ)) (last end : TextEnd E) (items : List A)
      → items ≡ [] → IsEndOf reading lines number last end
      → ArePartsFrom reading number lines last items end
  parts_end number lines last end items none ends =
      let here : number ≡ number + length {A = List ℕ} [] = omega arith in
      record {
        good = [];
        others = lines;
        given = [];
        cut = refl;
        as_many = refl;
        read = λ place line found is_line is_found. absurd (cc is_line);
        kept = none;
        ends = subst (λ n. IsEndOf reading lines n last end) here ends;
      }

  to_parts : (lines : List (List ℕ)) (number : ℕ) (last : TextEnd E) (items : List A)
      (end : TextEnd E) → items_of_lines reading lines number last ≡ items_with items end
      → ArePartsFrom reading number lines last items end
  to_parts [] number last items end is =
      let e = sym (no_lines reading number last) ∙ is in
      parts_end number [] last end items (no_items items last end e) (same_end items last end e)
  to_parts (line ∷ lines) number last items end is =
      let rest = items_of_lines reading lines (number + 1) last in
      by (raw_gives reading number line) refl
      (to_parts lines (number + 1) last rest.items rest.end refl)
    where
      by : (gives : Result (Option A) E) → raw_gives reading number line ≡ gives
          → ArePartsFrom reading (number + 1) lines last
          (items_of_lines reading lines (number + 1) last).items
          (items_of_lines reading lines (number + 1) last).end
          → ArePartsFrom reading number (line ∷ lines) last items end
      by (Err fault) gives later =
          let e = sym (first_gives reading line lines number last (Err fault) gives) ∙ is in
          parts_end number (line ∷ lines) last end items (no_items items (Line fault) end e)
          (fault, gives, same_end items (Line fault) end e)
      by (Ok found) gives later =
          let rest = items_of_lines reading lines (number + 1) last in
          let e = sym (first_gives reading line lines number last (Ok found) gives) ∙ is in
          let there : (number + 1) + length later.good ≡ number + length (line ∷ later.good) = omega arith in
          let ends : rest.end ≡ end = ap (λ (ts : TextItems A E). ts.end) e in
          record {
            good = line ∷ later.good;
            others = later.others;
            given = found ∷ later.given;
            cut = ap (λ (ls : List (List ℕ)). line ∷ ls) later.cut;
            as_many = omega (arith, later.as_many);
            read = gives_first number line found later.good later.given gives later.read;
            kept = sym (ap (λ (ts : TextItems A E). ts.items) e)
                ∙ ap (λ (ts : List A). option_to_list found ++ ts) later.kept;
            ends = subst (λ n. IsEndOf reading later.others n last end) there
                (subst (λ (x : TextEnd E). IsEndOf reading later.others
                ((number + 1) + length later.good) last x) ends later.ends);
          }

  from_end : (others : List (List ℕ)) (number : ℕ) (last end : TextEnd E)
      → IsEndOf reading others number last end
      → items_of_lines reading others number last ≡ items_with [] end
  from_end [] number last end ends =
      no_lines reading number last ∙ ap (λ (x : TextEnd E). items_with [] x) (sym ends)
  from_end (line ∷ lines) number last end ends =
      first_gives reading line lines number last (Err ends.0) ends.1
      ∙ ap (λ (x : TextEnd E). items_with [] x) (sym ends.2)

  from_parts : (good others : List (List ℕ)) (given : List (Option A)) (number : ℕ)
      (last end : TextEnd E) → length given ≡ length good → Gives reading number good given
      → IsEndOf reading others (number + length good) last end
      → items_of_lines reading (good ++ others) number last
      ≡ items_with (flat_map option_to_list given) end
  from_parts [] others [] number last end many read ends =
      let here : number + length {A = List ℕ} [] ≡ number = omega arith in
      from_end others number last end (subst (λ n. IsEndOf reading others n last end) here ends)
  from_parts [] others (found ∷ given) number last end many read ends = absurd (omega (arith, many))
  from_parts (line ∷ good) others [] number last end many read ends = absurd (omega (arith, many))
  from_parts (line ∷ good) others (found ∷ given) number last end many read ends =
      let there : number + length (line ∷ good) ≡ (number + 1) + length good = omega arith in
      let fewer : length given ≡ length good = omega (arith, many) in
      first_gives reading line (good ++ others) number last (Ok found)
      (first_given number line found good given read)
      ∙ ap (λ (ts : TextItems A E). items_before (option_to_list found) ts)
      (from_parts good others given (number + 1) last end fewer
      (later_given number line found good given read)
      (subst (λ n. IsEndOf reading others n last end) there ends))

  by_lines : (lines : List (List ℕ)) (last : TextEnd E) (items : List A) (end : TextEnd E)
      → (items_of_lines reading lines 1 last ≡ items_with items end)
      ↔ AreReadByParts reading lines last items end
  by_lines lines last items end = (
    λ is.
        let parts = to_parts lines 1 last items end is in
        let there : 1 + length parts.good ≡ length parts.good + 1 = omega arith in
        record {
          good = parts.good;
          others = parts.others;
          given = parts.given;
          cut = parts.cut;
          as_many = parts.as_many;
          read = parts.read;
          kept = parts.kept;
          ends = subst (λ n. IsEndOf reading parts.others n last end) there parts.ends;
        },
    λ parts.
        let there : length parts.good + 1 ≡ 1 + length parts.good = omega arith in
        ap (λ (ls : List (List ℕ)). items_of_lines reading ls 1 last) parts.cut
        ∙ (from_parts parts.good parts.others parts.given 1 last end parts.as_many parts.read
        (subst (λ n. IsEndOf reading parts.others n last end) there parts.ends)
        ∙ ap (λ (ts : List A). items_with ts end) (sym parts.kept)),
  )

  -- what is equivalent to a fact of some items is to that of equal ones
  of_equal : (items others end : TextItems A E) (P : Type 0) → items ≡ others
      → (others ≡ end) ↔ P → (items ≡ end) ↔ P
  of_equal items others end P same both = (λ is. both.0 (sym same ∙ is), λ p. same ∙ both.1 p)

  pub by_parts : TextByParts reading
  by_parts limit text items end = record {
    within = λ short. of_equal (items_from reading 1 limit text)
        (items_of_lines reading (raw_lines text) 1 Whole) (items_with items end)
        (AreReadByParts reading (raw_lines text) Whole items end)
        (within reading text 1 limit short) (by_lines (raw_lines text) Whole items end);
    beyond = λ long.
        let front = take limit text in
        let there : 1 + length (ended_lines front) ≡ length (ended_lines front) + 1 = omega arith in
        let last = cut_end reading (length (ended_lines front) + 1) (open_line front) in
        of_equal (items_from reading 1 limit text) (items_of_lines reading (ended_lines front) 1 last)
        (items_with items end) (AreReadByParts reading (ended_lines front) last items end)
        (beyond reading text 1 limit long ∙ (cut_is reading front 1
        ∙ ap (λ n. items_of_lines reading (ended_lines front) 1 (cut_end reading n (open_line front))) there))
        (by_lines (ended_lines front) last items end);
  }
