-- What the next line of a reader makes of the items that were read.
use Rattle.std.proofs.Common.{◌≡◌, ◌≢◌, ℕ, ◌+◌, ◌-◌, ◌<◌, ◌≤◌, Bool, true, List, [], ◌∷◌}
use Rattle.std.proofs.Common.{◌++◌, length, take, Option, Some, None, Result, Ok, Err, refl, ap, sym, subst, ◌∙◌}
use Rattle.std.proofs.Common.{append_assoc, arith, inl, inr, ◌⊎◌, length-append}
use Rattle.std.specs.Prelude.{option_to_list, IfSome}
use Rattle.std.specs.Io.KnownBytes.{prepend_known}
use Rattle.std.proofs.lemmas.List.{append-nil, nil_from_length, take-append-le}
use Rattle.std.proofs.lemmas.Option.{IfSome_then}
use Rattle.std.proofs.lemmas.List.Elements.{All-push}
use Rattle.text_parts.specs.Lines.{IsLine, line_length, text_of}
use Rattle.text_parts.specs.EndedLines.{ended_lines}
use Rattle.text_parts.proofs.LineLengths.{line_length-nil, line_length_within, line_length_grows}
use Rattle.text_parts.proofs.LineLengths.{line_length-line, line_length-ended, one_line}
use Rattle.text_parts.proofs.Pieces.{text_push, ended_many, ended_only}
use Rattle.rpq_io.proofs.Bytes.{prepend_known-prepend, prepend_known-nil, of_known, of_all}
use Rattle.rpq_io.specs.Reader.{ReaderState, HoldsNoAnswer, Had, GivesLine, IsAtEnd, LosesNothing}
use Rattle.rpq_io.specs.Reader.{TakesNothing, IsLongStream, StaysSound, PassesLine, StaysInLine}
use Rattle.text_items.specs.declared.ends.TextEnd.{TextEnd}
use Rattle.text_items.specs.declared.ends.TextEnd.TheVariants.{Whole, LongText, Read, Memory, Line}
use Rattle.text_items.specs.Limits.{line_limit, most_bytes}
use Rattle.text_items.specs.Reading.{Reading, raw_gives}
use Rattle.text_items.specs.Items.{TextItems, items_with, items_before, items_of_lines, cut_end}
use Rattle.text_items.specs.Items.{items_from}
use Rattle.text_items.specs.Taken.{IsPrefix, AreTaken, AreItemsByEnd}
use Rattle.text_items.specs.Progress.{IsTextReader, passed, HasReadLines, HasReadAll, HasRead}
use Rattle.text_items.proofs.Texts.{first_gives, no_lines, items_after, ends_first, ends_last}
use Rattle.text_items.proofs.Texts.{gives_last, nothing_left, long_first, cut_off, short_line, long_line}
use Rattle.text_items.proofs.Texts.{short_end, over_end}

-- items before no others
before_none : {A E : Type 0} (items : List A) (end : TextEnd E)
    → items_before items (items_with [] end) ≡ items_with items end
before_none {A = A} items end = ap (λ (ts : List A). items_with ts end) (append-nil items)

before_twice : {A E : Type 0} (items more : List A) (rest : TextItems A E)
    → items_before items (items_before more rest) ≡ items_before (items ++ more) rest
before_twice {A = A} items more rest = ap (λ (ts : List A). items_with ts rest.end)
    (sym (append_assoc items more rest.items))

module _ {S A E : Type 0} (reading : Reading A E) (left : S → Option (List ℕ))
    (file : Option (List ℕ)) (items : List A) (old new : ReaderState S) (bytes : List ℕ)
    (sound : IsTextReader left new) (cap : new.byte_limit ≡ old.byte_limit) (had : Had left old new bytes) where
  -- where the bytes of the call stand in the file
  came_with : (read : HasReadLines reading left file items old)
      → file ≡ prepend_known (text_of read.lines ++ bytes) (left new.source)
  came_with read =
      let done = text_of read.lines in
      let all : (done ++ old.held_bytes) ++ had.more ≡ done ++ bytes = append_assoc done
      old.held_bytes had.more ∙ ap (λ b. done ++ b) (sym had.joined) in
      read.came
      ∙ (ap (λ (k : Option (List ℕ)). prepend_known (done ++ old.held_bytes) k) had.moved
      ∙ (prepend_known-prepend (left new.source) (done ++ old.held_bytes) had.more
      ∙ ap (λ b. prepend_known b (left new.source)) all))

  measured_with : (read : HasReadLines reading left file items old)
      → new.taken_count ≡ length (text_of read.lines) + length bytes
  measured_with read = omega (
    arith,
    read.measured,
    had.counted,
    ap length had.joined,
    length-append
        old.held_bytes had.more,
  )

  -- the bytes that follow the lines, in the stream
  follows : (read : HasReadLines reading left file items old) (rest : List ℕ)
      → items_from reading 1 new.byte_limit ((text_of read.lines ++ bytes) ++ rest)
      ≡ items_before items (items_from reading (length read.lines + 1)
      (new.byte_limit - length (text_of read.lines)) (bytes ++ rest))
  follows read rest =
      ap (items_from reading 1 new.byte_limit) (append_assoc (text_of read.lines) bytes rest)
      ∙ items_after reading read.lines items read.whole read.read new.byte_limit (bytes ++ rest)
      (omega (arith, measured_with read, sound.within))

  -- a reader at the end had no bytes
  no_bytes : HasReadAll reading file items old → (old.is_at_end ≡ true → had.more ≡ []) → bytes ≡ []
  no_bytes read quiet = had.joined ∙ (ap (λ b. b ++ had.more) read.none ∙ quiet read.told)

  -- a line with its line feed
  pub line_given : (line : List ℕ) (found : Option A) → IsLine line
      → bytes ≡ line ++ 10 ∷ new.held_bytes → new.line_count ≡ old.line_count + 1
      → raw_gives reading new.line_count line ≡ Ok found
      → HasReadLines reading left file items old → HasRead reading left file (items ++ option_to_list found) new
  line_given line found whole cut counted good read =
      let lines = read.lines in
      let text : text_of (lines ++ line ∷ []) ++ new.held_bytes ≡ text_of lines ++ bytes =
      ap (λ t. t ++ new.held_bytes) (text_push lines line)
      ∙ (append_assoc (text_of lines) (line ++ 10 ∷ []) new.held_bytes
      ∙ ap (λ t. text_of lines ++ t) (append_assoc line (10 ∷ []) new.held_bytes ∙ sym cut)) in
      let number : length lines + 1 ≡ new.line_count = omega (arith, counted, read.counted) in
      inl (record {
        lines = lines ++ line ∷ [];
        whole = All-push IsLine lines line read.whole whole;
        came = came_with read ∙ ap (λ t. prepend_known t (left new.source)) (sym text);
        read = λ more end.
            let next : length lines + 1 + 1 ≡ length (lines ++ line ∷ []) + 1 = omega
            (arith, length-append lines (line ∷ [])) in
            ap (λ (ls : List (List ℕ)). items_of_lines reading ls 1 end) (append_assoc lines (line ∷ []) more)
            ∙ (read.read (line ∷ more) end
            ∙ (ap (λ (ts : TextItems A E). items_before items ts)
            (first_gives reading line more (length lines + 1) end (Ok found)
            (ap (λ n. raw_gives reading n line) number ∙ good))
            ∙ (before_twice items (option_to_list found) (items_of_lines reading more (length lines + 1 + 1) end)
            ∙ ap (λ n. items_before (items ++ option_to_list found) (items_of_lines reading more n end)) next)));
        counted = omega (arith, counted, read.counted, length-append lines (line ∷ []));
        measured = omega (
          arith,
          measured_with read,
          ap length text,
          length-append
              (text_of (lines ++ line ∷ [])) new.held_bytes,
          length-append (text_of lines) bytes,
        );
      })

  -- a last line without a line feed
  pub last_given : (found : Option A) → IsLine bytes → 0 < length bytes → new.is_at_end ≡ true
      → new.held_bytes ≡ [] → new.line_count ≡ old.line_count + 1 → raw_gives reading new.line_count bytes ≡ Ok found
      → HasReadLines reading left file items old → HasRead reading left file (items ++ option_to_list found) new
  last_given found whole some told none counted good read =
      let lines = read.lines in
      let number : length lines + 1 ≡ new.line_count = omega (arith, counted, read.counted) in
      let limit = new.byte_limit in
      let rest = limit - length (text_of lines) in
      let last = gives_last reading bytes (length lines + 1) rest found whole some
      (omega (arith, measured_with read, sound.before_limit told))
      (ap (λ n. raw_gives reading n bytes) number ∙ good) in
      let all = items_after reading lines items read.whole read.read limit bytes
      (omega (arith, measured_with read, sound.within)) in
      inr (record {
        none = none;
        told = told;
        all = of_all file (left new.source) (text_of lines ++ bytes)
            (λ text. items_from reading 1 limit text ≡ items_with (items ++ option_to_list found)
            Whole) (came_with read) (sound.at_end told)
            (all ∙ (ap (λ (ts : TextItems A E). items_before items ts) last
            ∙ (before_twice items (option_to_list found) (items_with [] Whole)
            ∙ before_none (items ++ option_to_list found) Whole)));
      })

  -- a faulty line with its line feed
  pub line_ends : (line : List ℕ) (fault : E) → IsLine line
      → bytes ≡ line ++ 10 ∷ new.held_bytes → new.line_count ≡ old.line_count + 1
      → raw_gives reading new.line_count line ≡ Err fault
      → HasReadLines reading left file items old → IfSome file
      (λ text. items_from reading 1 new.byte_limit text ≡ items_with items (Line fault))
  line_ends line fault whole cut counted bad read =
      let lines = read.lines in
      let number : length lines + 1 ≡ new.line_count = omega (arith, counted, read.counted) in
      let limit = new.byte_limit in
      of_known file (left new.source) (text_of lines ++ bytes)
      (λ text. items_from reading 1 limit text ≡ items_with items (Line fault)) (came_with read) (λ rest is.
      let text : bytes ++ rest ≡ line ++ 10 ∷ (new.held_bytes ++ rest) = ap (λ b. b ++ rest) cut
      ∙ append_assoc line (10 ∷ new.held_bytes) rest in
      let fits : length line < limit - length (text_of lines) = omega
      (arith, measured_with read, sound.within, ap length cut, length-append line (10 ∷ new.held_bytes)) in
      follows read rest
      ∙ (ap (λ t. items_before items (items_from reading (length lines + 1) (limit - length (text_of lines)) t)) text
      ∙ (ap (λ (ts : TextItems A E). items_before items ts)
      (ends_first reading line (new.held_bytes ++ rest) (length lines + 1)
      (limit - length (text_of lines)) fault whole fits (ap (λ n. raw_gives reading n line) number ∙ bad))
      ∙ before_none items (Line fault))))

  -- a faulty last line
  pub last_ends : (fault : E) → IsLine bytes → 0 < length bytes → new.is_at_end ≡ true
      → new.line_count ≡ old.line_count + 1 → raw_gives reading new.line_count bytes ≡ Err fault
      → HasReadLines reading left file items old → IfSome file
      (λ text. items_from reading 1 new.byte_limit text ≡ items_with items (Line fault))
  last_ends fault whole some told counted bad read =
      let lines = read.lines in
      let number : length lines + 1 ≡ new.line_count = omega (arith, counted, read.counted) in
      let limit = new.byte_limit in
      let rest = limit - length (text_of lines) in
      let last = ends_last reading bytes (length lines + 1) rest fault whole some
      (omega (arith, measured_with read, sound.before_limit told))
      (ap (λ n. raw_gives reading n bytes) number ∙ bad) in
      let all = items_after reading lines items read.whole read.read limit bytes
      (omega (arith, measured_with read, sound.within)) in
      of_all file (left new.source) (text_of lines ++ bytes)
      (λ text. items_from reading 1 limit text ≡ items_with items (Line fault)) (came_with read) (sound.at_end told)
      (all ∙ (ap (λ (ts : TextItems A E). items_before items ts) last ∙ before_none items (Line fault)))

  -- no line is left
  pub at_end : bytes ≡ [] → new.is_at_end ≡ true → HasReadLines reading left file items old
      → IfSome file (λ text. items_from reading 1 new.byte_limit text ≡ items_with items Whole)
  at_end none told read =
      let lines = read.lines in
      let limit = new.byte_limit in
      let rest = limit - length (text_of lines) in
      let last = nothing_left reading (length lines + 1) rest
      (omega (arith, measured_with read, sound.before_limit told, ap length none)) in
      let all = items_after reading lines items read.whole read.read limit []
      (omega (arith, measured_with read, sound.within)) in
      of_all file (left new.source) (text_of lines ++ bytes)
      (λ text. items_from reading 1 limit text ≡ items_with items Whole) (came_with read) (sound.at_end told)
      (ap (λ b. items_from reading 1 limit (text_of lines ++ b)) none
      ∙ (all ∙ (ap (λ (ts : TextItems A E). items_before items ts) last ∙ before_none items Whole)))

  -- the first line of the bytes is too long
  pub line_too_long : (fault : E) → new.line_count ≡ old.line_count
      → line_limit < line_length bytes
      → reading.long (new.line_count + 1) (take line_limit bytes) ≡ Err fault
      → HasReadLines reading left file items old → IfSome file
      (λ text. items_from reading 1 new.byte_limit text ≡ items_with items (Line fault))
  line_too_long fault counted long gives read =
      let lines = read.lines in
      let number : length lines + 1 ≡ new.line_count + 1 = omega (arith, counted, read.counted) in
      let limit = new.byte_limit in
      of_known file (left new.source) (text_of lines ++ bytes)
      (λ text. items_from reading 1 limit text ≡ items_with items (Line fault))
      (came_with read) (λ rest is.
      let fits : length bytes ≤ limit - length (text_of lines) = omega (arith, measured_with read, sound.within) in
      follows read rest
      ∙ (ap (λ (ts : TextItems A E). items_before items ts)
      (long_first reading bytes rest (length lines + 1) (limit - length (text_of lines)) fault fits long
      (ap (λ n. reading.long n (take line_limit bytes)) number ∙ gives))
      ∙ before_none items (Line fault)))

  -- all bytes that count were taken, and the last line is cut off
  pub text_too_long : (end : TextEnd E) → new.taken_count ≡ new.byte_limit → IsLine bytes
      → new.line_count ≡ old.line_count → cut_end reading (new.line_count + 1) bytes ≡ end
      → HasReadLines reading left file items old → IfSome file
      (λ text. items_from reading 1 new.byte_limit text ≡ items_with items end)
  text_too_long end full whole counted ends read =
      let lines = read.lines in
      let number : length lines + 1 ≡ new.line_count + 1 = omega (arith, counted, read.counted) in
      let limit = new.byte_limit in
      of_known file (left new.source) (text_of lines ++ bytes)
      (λ text. items_from reading 1 limit text ≡ items_with items end) (came_with read) (λ rest is.
      let all : length bytes ≡ limit - length (text_of lines) = omega (arith, measured_with read, full) in
      follows read rest
      ∙ (ap (λ (ts : TextItems A E). items_before items ts)
      (cut_off reading bytes rest (length lines + 1) (limit - length (text_of lines)) all whole)
      ∙ (before_none items (cut_end reading (length lines + 1) bytes)
      ∙ ap (λ (e : TextEnd E). items_with items e)
      (ap (λ n. cut_end reading n bytes) number ∙ ends))))

  -- a read failed within a line
  pub read_failed : IsLine bytes → HasReadLines reading left file items old → IfSome file (λ text. (taken' : List ℕ)
      × AreTaken text (left new.source) taken'
      × (items_of_lines reading (ended_lines taken') 1 Read ≡ items_with items Read))
  read_failed whole read = taken_lines file (came_with read)
    where
      taken_lines : (some : Option (List ℕ)) → some ≡ prepend_known (text_of read.lines ++ bytes) (left new.source)
          → IfSome some (λ text. (taken' : List ℕ) × AreTaken text (left new.source) taken'
          × (items_of_lines reading (ended_lines taken') 1 Read ≡ items_with items Read))
      taken_lines None came = tt
      taken_lines (Some text) came =
          let ended' : ended_lines (text_of read.lines ++ bytes) ≡ read.lines ++ [] = ended_many
          read.lines bytes read.whole ∙ ap (λ (ls : List (List ℕ)). read.lines ++ ls)
          (ended_only bytes whole) in (
            text_of read.lines ++ bytes,
            came,
            ap (λ (ls : List (List ℕ)). items_of_lines reading ls 1 Read) ended'
                ∙ (read.read [] Read ∙ (ap (λ (ts : TextItems A E). items_before items ts)
                (no_lines reading (length read.lines + 1) Read) ∙ before_none items Read)),
          )

  -- the items are a front of those of the stream
  pub a_front : HasRead reading left file items old
      → IfSome file (λ text. IsPrefix items (items_from reading 1 new.byte_limit text).items)
  a_front (inr all) = IfSome_then file all.all (λ text is. record {
    rest = [];
    cut = ap (λ n. (items_from reading 1 n text).items) cap
        ∙ (ap (λ (ts : TextItems A E). ts.items) is ∙ sym (append-nil items));
  })
  a_front (inl read) =
      let limit = new.byte_limit in
      of_known file (left new.source) (text_of read.lines ++ bytes)
      (λ text. IsPrefix items (items_from reading 1 limit text).items) (came_with read) (λ rest is. record {
        rest = (items_from reading (length read.lines + 1) (limit - length (text_of read.lines)) (bytes ++ rest)).items;
        cut = ap (λ (ts : TextItems A E). ts.items) (follows read rest);
      })

-- a reader at its end isn't without an answer
not_wanting : {S : Type 0} (reader : ReaderState S) → reader.is_at_end ≡ true → HoldsNoAnswer reader → ⊥
not_wanting reader told wants =
    let untold = wants.untold in
    absurd (cc)

some_from_ne : (list : List ℕ) → list ≢ [] → 0 < length list
some_from_ne [] some = absurd (some refl)
some_from_ne (first ∷ rest) some = omega arith

-- nothing was done
unmoved : {S : Type 0} (left : S → Option (List ℕ)) (reader : ReaderState S)
    → Had left reader reader reader.held_bytes
unmoved left reader = record {
  more = [];
  joined = sym (append-nil reader.held_bytes);
  moved = sym (prepend_known-nil (left reader.source));
  counted = omega arith;
}

-- what was read is a front of the text's items
pub front_of : {S A E : Type 0} (reading : Reading A E) (left : S → Option (List ℕ))
    (file : Option (List ℕ)) (items : List A) (reader : ReaderState S) → IsTextReader left reader
    → HasRead reading left file items reader
    → IfSome file (λ text. IsPrefix items (items_from reading 1 reader.byte_limit text).items)
front_of reading left file items reader sound read =
    a_front reading left file items reader reader reader.held_bytes sound refl (unmoved left reader) read

-- ---- a call that gave a line, the end, or a fault

module _ {S A E : Type 0} (reading : Reading A E) (left : S → Option (List ℕ))
    (has_told_end : S → Bool) (old new : ReaderState S) (sound : IsTextReader left old)
    (kept : StaysSound left has_told_end old new)
    (unread : (HoldsNoAnswer old → ⊥) → TakesNothing old new) where
  -- the reader is still one of a text
  pub still_sound : IsTextReader left new
  still_sound = record {
    lines = kept.line_limit ∙ sound.lines;
    bytes = subst (λ n. n ≤ most_bytes) (sym kept.byte_limit) sound.bytes;
    counted = kept.fewer;
    within = kept.within;
    before_limit = kept.before_limit;
    at_end = kept.over;
  }

  quiet : (bytes : List ℕ) (had : Had left old new bytes) → old.is_at_end ≡ true → had.more ≡ []
  quiet bytes had told = nil_from_length had.more (omega (arith, had.counted, (unread (not_wanting old told)).count))

  stays : old.is_at_end ≡ true → new.is_at_end ≡ true
  stays told = (unread (not_wanting old told)).end ∙ told

  -- a reader that read the last line had no bytes
  none_had : (file : Option (List ℕ)) (items : List A) (bytes : List ℕ) (had : Had left old new bytes)
      → HasReadAll reading file items old → bytes ≡ []
  none_had file items bytes had all =
      no_bytes reading left file items old new bytes still_sound kept.byte_limit had all (quiet bytes had)

  module _ (line : List ℕ) (gives : GivesLine left old new line) where
    fits : length gives.cut.raw ≤ line_limit
    fits = subst (λ n. length gives.cut.raw ≤ n) sound.lines gives.cut.fits

    some_bytes : 0 < length gives.bytes
    some_bytes = elim gives.cut.cut [
      | inl feed ↦ omega (arith, ap length feed, length-append gives.cut.raw (10 ∷ new.held_bytes))
      | inr last ↦ omega (arith, some_from_ne gives.cut.raw last.1, ap length last.2)
    ]

    pub goes_forward : passed old < passed new
    goes_forward = forward gives.cut.cut
      where
        forward : (gives.bytes ≡ gives.cut.raw ++ 10 ∷ new.held_bytes)
            ⊎ ((new.is_at_end ≡ true) × (gives.cut.raw ≢ []) × (gives.bytes ≡ gives.cut.raw)
            × (new.held_bytes ≡ [])) → passed old < passed new
        forward (inl feed) = omega (
          arith,
          sound.counted,
          gives.had.counted,
          ap length gives.had.joined,
          length-append old.held_bytes gives.had.more,
          ap length feed,
          length-append gives.cut.raw (10 ∷ new.held_bytes),
          kept.fewer,
        )
        forward (inr last) = omega (
          arith,
          sound.counted,
          gives.had.counted,
          ap length gives.had.joined,
          length-append old.held_bytes gives.had.more,
          ap length last.2,
          some_from_ne gives.cut.raw last.1,
          ap length last.3,
          kept.fewer,
        )

    -- what the raw line gives
    of_raw : (found : Result (Option A) E) → reading.line new.line_count line ≡ found
        → raw_gives reading new.line_count gives.cut.raw ≡ found
    of_raw found is =
        short_line reading new.line_count gives.cut.raw fits
        ∙ (ap (reading.line new.line_count) (sym gives.cut.dropped) ∙ is)

    pub gives_good : (found : Option A) → reading.line new.line_count line ≡ Ok found
        → (file : Option (List ℕ)) (items : List A) → HasRead reading left file items old
        → HasRead reading left file (items ++ option_to_list found) new
    gives_good found good file items (inr all) = absurd
        (omega (arith, some_bytes, ap length (none_had file items gives.bytes gives.had all)))
    gives_good found good file items (inl read) = elim gives.cut.cut [
      | inl feed ↦ line_given reading left file items old new gives.bytes still_sound kept.byte_limit
          gives.had gives.cut.raw found gives.cut.whole feed gives.counted (of_raw (Ok found) good) read
      | inr last ↦
          let solid : IsLine gives.bytes = subst IsLine (sym last.2) gives.cut.whole in
          last_given reading left file items old new gives.bytes still_sound kept.byte_limit gives.had
          found solid some_bytes last.0 last.3 gives.counted
          (ap (raw_gives reading new.line_count) last.2 ∙ of_raw (Ok found) good) read
    ]

    pub gives_end : (fault : E) → reading.line new.line_count line ≡ Err fault
        → (file : Option (List ℕ)) (items : List A) → HasRead reading left file items old
        → IfSome file (λ text. items_from reading 1 new.byte_limit text ≡ items_with items (Line fault))
    gives_end fault ends file items (inr all) = absurd
        (omega (arith, some_bytes, ap length (none_had file items gives.bytes gives.had all)))
    gives_end fault ends file items (inl read) = elim gives.cut.cut [
      | inl feed ↦ line_ends reading left file items old new gives.bytes still_sound kept.byte_limit
          gives.had gives.cut.raw fault gives.cut.whole feed gives.counted (of_raw (Err fault) ends) read
      | inr last ↦
          let solid : IsLine gives.bytes = subst IsLine (sym last.2) gives.cut.whole in
          last_ends reading left file items old new gives.bytes still_sound kept.byte_limit gives.had
          fault solid some_bytes last.0 gives.counted
          (ap (raw_gives reading new.line_count) last.2 ∙ of_raw (Err fault) ends) read
    ]

  module _ (file : Option (List ℕ)) (items : List A) where
    pub ends_whole : IsAtEnd left old new → HasRead reading left file items old
        → IfSome file (λ text. AreItemsByEnd reading new.byte_limit text (left new.source) items Whole)
    ends_whole is (inr all) = IfSome_then file
        (subst (λ n. IfSome file (λ text. items_from reading 1 n text ≡ items_with items Whole))
        (sym kept.byte_limit) all.all) (λ text whole. (whole, kept.over is.told))
    ends_whole is (inl read) = IfSome_then file
        (at_end reading left file items old new [] still_sound kept.byte_limit is.had refl is.told read)
        (λ text whole. (whole, kept.over is.told))

    -- the items are a front of those of the text, whatever the bytes of the call were
    pub ends_front : (bytes : List ℕ) → Had left old new bytes → HasRead reading left file items old
        → IfSome file (λ text. AreItemsByEnd reading new.byte_limit text (left new.source) items Memory)
    ends_front bytes had read =
        a_front reading left file items old new bytes still_sound kept.byte_limit had read

    module _ (loses : LosesNothing left old new) where
      -- what was read stays so
      pub keeps_read : HasRead reading left file items old → HasRead reading left file items new
      keeps_read (inr all) = inr (record {
        none = none_had file items new.held_bytes loses.had all;
        told = stays all.told;
        all = subst (λ n. IfSome file (λ text. items_from reading 1 n text ≡ items_with items Whole))
            (sym kept.byte_limit) all.all;
      })
      keeps_read (inl read) = inl (record {
        lines = read.lines;
        whole = read.whole;
        came = came_with reading left file items old new new.held_bytes still_sound kept.byte_limit
            loses.had read;
        read = read.read;
        counted = loses.counted ∙ read.counted;
        measured = measured_with reading left file items old new new.held_bytes still_sound
            kept.byte_limit loses.had read;
      })

      pub stays_behind : passed new ≡ passed old
      stays_behind = omega (
        arith,
        sound.counted,
        kept.fewer,
        loses.had.counted,
        ap length loses.had.joined,
        length-append old.held_bytes loses.had.more,
      )

      pub ends_long_text : IsLongStream new → HasRead reading left file items old
          → IfSome file (λ text. AreItemsByEnd reading new.byte_limit text (left new.source) items LongText)
      ends_long_text long (inr all) =
          let untold = long.untold in
          absurd (cc (stays all.told))
      ends_long_text long (inl read) =
          let short : length new.held_bytes ≤ line_limit =
          omega (arith, long.fits, kept.line_limit, sound.lines) in
          text_too_long reading left file items old new new.held_bytes still_sound kept.byte_limit
          loses.had LongText long.all (one_line new.held_bytes long.no_line) loses.counted
          (short_end reading (new.line_count + 1) new.held_bytes short) read

      pub ends_read : HoldsNoAnswer new → HasRead reading left file items old → IfSome file
          (λ text. AreItemsByEnd reading new.byte_limit text (left new.source) items Read)
      ends_read wants (inr all) =
          let untold = wants.untold in
          absurd (cc (stays all.told))
      ends_read wants (inl read) =
          read_failed reading left file items old new new.held_bytes still_sound kept.byte_limit
          loses.had (one_line new.held_bytes wants.no_line) read

-- ---- a line that is too long

-- a reader that holds a line that is too long didn't read the last one
not_all : {S A E : Type 0} (reading : Reading A E) (file : Option (List ℕ)) (items : List A)
    (reader : ReaderState S) → line_limit < line_length reader.held_bytes
    → HasReadAll reading file items reader → ⊥
not_all reading file items reader long all =
    omega (arith, long, ap line_length all.none, line_length-nil)

module _ {S A E : Type 0} (reading : Reading A E) (left : S → Option (List ℕ))
    (reader : ReaderState S) (sound : IsTextReader left reader)
    (long : line_limit < line_length reader.held_bytes) where
  -- it ends the reading
  pub long_ends : (fault : E)
      → reading.long (reader.line_count + 1) (take line_limit reader.held_bytes) ≡ Err fault
      → (file : Option (List ℕ)) (items : List A) → HasRead reading left file items reader
      → IfSome file (λ text. items_from reading 1 reader.byte_limit text ≡ items_with items (Line fault))
  long_ends fault gives file items (inr all) = absurd (not_all reading file items reader long all)
  long_ends fault gives file items (inl read) =
      line_too_long reading left file items reader reader reader.held_bytes sound refl
      (unmoved left reader) fault refl long gives read

module _ {S A E : Type 0} (reading : Reading A E) (left : S → Option (List ℕ))
    (has_told_end : S → Bool) (old new : ReaderState S) (sound : IsTextReader left old)
    (kept : StaysSound left has_told_end old new)
    (long : line_limit < line_length old.held_bytes) (found : Option A)
    (gives : reading.long (old.line_count + 1) (take line_limit old.held_bytes) ≡ Ok found) where
  pub new_sound : IsTextReader left new
  new_sound = record {
    lines = kept.line_limit ∙ sound.lines;
    bytes = subst (λ n. n ≤ most_bytes) (sym kept.byte_limit) sound.bytes;
    counted = kept.fewer;
    within = kept.within;
    before_limit = kept.before_limit;
    at_end = kept.over;
  }

  -- the front of the line is that of the bytes that the call had
  same_front : (bytes : List ℕ) → Had left old new bytes
      → take line_limit bytes ≡ take line_limit old.held_bytes
  same_front bytes had =
      ap (take line_limit) had.joined
      ∙ take-append-le line_limit old.held_bytes had.more
      (omega (arith, long, line_length_within old.held_bytes))

  long_bytes : (bytes : List ℕ) → Had left old new bytes → line_limit < line_length bytes
  long_bytes bytes had = omega (
    arith,
    long,
    ap line_length had.joined,
    line_length_grows old.held_bytes had.more,
  )

  module _ (passes : PassesLine left old new) where
    long_raw : line_limit < length passes.raw
    long_raw = elim passes.cut [
      | inl feed ↦ omega (
        arith,
        long_bytes passes.bytes passes.had,
        ap line_length feed,
        line_length-ended passes.raw new.held_bytes passes.whole,
      )
      | inr last ↦ omega (
        arith,
        long_bytes passes.bytes passes.had,
        ap line_length last.1,
        line_length-line passes.raw passes.whole,
      )
    ]

    raw_front : take line_limit passes.raw ≡ take line_limit old.held_bytes
    raw_front = elim passes.cut [
      | inl feed ↦
          sym (take-append-le line_limit passes.raw (10 ∷ new.held_bytes) (omega (arith, long_raw)))
          ∙ (ap (take line_limit) (sym feed) ∙ same_front passes.bytes passes.had)
      | inr last ↦ ap (take line_limit) (sym last.1) ∙ same_front passes.bytes passes.had
    ]

    of_long : raw_gives reading new.line_count passes.raw ≡ Ok found
    of_long =
        long_line reading new.line_count passes.raw long_raw
        ∙ (ap (reading.long new.line_count) raw_front
        ∙ (ap (λ n. reading.long n (take line_limit old.held_bytes)) passes.counted ∙ gives))

    pub passes_forward : passed old < passed new
    passes_forward = elim passes.cut [
      | inl feed ↦ omega (
        arith,
        sound.counted,
        passes.had.counted,
        ap length passes.had.joined,
        length-append old.held_bytes passes.had.more,
        ap length feed,
        length-append passes.raw (10 ∷ new.held_bytes),
        kept.fewer,
      )
      | inr last ↦ omega (
        arith,
        sound.counted,
        passes.had.counted,
        ap length passes.had.joined,
        length-append old.held_bytes passes.had.more,
        ap length last.1,
        long_raw,
        ap length last.2,
        kept.fewer,
      )
    ]

    pub passes_good : (file : Option (List ℕ)) (items : List A) → HasRead reading left file items old
        → HasRead reading left file (items ++ option_to_list found) new
    passes_good file items (inr all) = absurd (not_all reading file items old long all)
    passes_good file items (inl read) = elim passes.cut [
      | inl feed ↦ line_given reading left file items old new passes.bytes new_sound kept.byte_limit
          passes.had passes.raw found passes.whole feed passes.counted of_long read
      | inr last ↦
          let solid : IsLine passes.bytes = subst IsLine (sym last.1) passes.whole in
          let some : 0 < length passes.bytes = omega (arith, long_raw, ap length last.1) in
          last_given reading left file items old new passes.bytes new_sound kept.byte_limit passes.had
          found solid some last.0 last.2 passes.counted
          (ap (raw_gives reading new.line_count) last.1 ∙ of_long) read
    ]

  module _ (within : StaysInLine left old new) where
    pub pass_read : (file : Option (List ℕ)) (items : List A) → HasRead reading left file items old
        → IfSome file (λ text. AreItemsByEnd reading new.byte_limit text (left new.source) items Read)
    pass_read file items (inr all) = absurd (not_all reading file items old long all)
    pass_read file items (inl read) =
        read_failed reading left file items old new within.bytes new_sound kept.byte_limit
        within.had within.whole read

    pub pass_long_text : new.taken_count ≡ new.byte_limit → (file : Option (List ℕ)) (items : List A)
        → HasRead reading left file items old
        → IfSome file (λ text. AreItemsByEnd reading new.byte_limit text (left new.source) items LongText)
    pass_long_text full file items (inr all) = absurd (not_all reading file items old long all)
    pass_long_text full file items (inl read) =
        let far : line_limit < length within.bytes =
        omega (arith, long_bytes within.bytes within.had, line_length_within within.bytes) in
        text_too_long reading left file items old new within.bytes new_sound kept.byte_limit
        within.had LongText full within.whole within.counted
        (over_end reading (new.line_count + 1) within.bytes (Ok found) far
        (ap (reading.long (new.line_count + 1)) (same_front within.bytes within.had)
        ∙ (ap (λ n. reading.long (n + 1) (take line_limit old.held_bytes)) within.counted ∙ gives))) read
