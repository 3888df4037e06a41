-- What is let go of while a line is passed over.
use Rattle.std.proofs.Common.{◌≡◌, ◌≢◌, ℕ, ◌+◌, ◌<◌, ◌≤◌, ◌⊎◌, inl, inr, Bool, true, false, List, []}
use Rattle.std.proofs.Common.{◌∷◌, ◌++◌, length, take, drop, Option, Some, None, IfSome, refl, sym, ap}
use Rattle.std.proofs.Common.{◌∙◌, subst, arith, append_assoc, append-nil, length-append}
use Rattle.std.specs.Option.{IsSomeAnd}
use Rattle.std.specs.Io.KnownBytes.{prepend_known}
use Rattle.std.proofs.lemmas.Bool.{cases_lt}
use Rattle.std.proofs.lemmas.List.{drop_all}
use Rattle.std.proofs.lemmas.List.Elements.{All-append}
use Rattle.text_parts.specs.Lines.{IsLine, raw_lines, line_length}
use Rattle.text_parts.proofs.Cuts.{raw_lines_nil, raw_lines_first, raw_lines_only}
use Rattle.text_parts.proofs.LineLengths.{line_length_within, first_line_whole, first_line_cut, one_line}
use Rattle.rpq_io.specs.Held.{IsLineOpen, PassesPiece, RemovesLine}
use Rattle.rpq_io.specs.Reader.{ReaderState, Had, text_ahead, PassesLine, StaysInLine, HoldsNoAnswer}
use Rattle.rpq_io.proofs.Bytes.{prepend_known-prepend, prepend_known-nil}
use Rattle.rpq_io.proofs.TextAhead.{text_had}

-- some bytes of the line were let go of, and the others that the calls had are held
pub record HasPassed {S : Type 0} (left : S → Option (List ℕ)) (faults : S → ℕ)
    (old new : ReaderState S) : Type 0 where
  pub gone : List ℕ
  pub whole : IsLine gone
  pub had : Had left old new (gone ++ new.held_bytes)
  pub counted : new.line_count ≡ old.line_count
  pub room : new.line_count < new.taken_count
  pub line_limit : new.line_limit ≡ old.line_limit
  pub byte_limit : new.byte_limit ≡ old.byte_limit
  pub quiet : faults new.source ≡ faults old.source

-- a reader without an answer, after what it held was let go of
pub emptied : {S : Type 0} (reader : ReaderState S) → reader.is_at_end ≡ false
    → reader.held_bytes ≡ [] → reader.taken_count < reader.byte_limit → line_length [] ≡ 0
    → HoldsNoAnswer reader
emptied reader untold none more nothing = record {
  untold = untold;
  no_line = ap line_length none ∙ (nothing ∙ sym (ap length none));
  short = omega (arith, ap length none);
  more = more;
}

-- nothing was let go of, and nothing taken
pub stays_there : {S : Type 0} (left : S → Option (List ℕ)) (reader : ReaderState S)
    → Had left reader reader reader.held_bytes
stays_there left reader = record {
  more = [];
  joined = sym (append-nil reader.held_bytes);
  moved = sym (prepend_known-nil (left reader.source));
  counted = omega arith;
}

-- what was held was let go of, and what was taken then is held
pub piece_read : {S : Type 0} (left : S → Option (List ℕ)) (old middle new : ReaderState S)
    → middle.held_bytes ≡ [] → middle.source ≡ old.source
    → middle.taken_count ≡ old.taken_count → middle.line_count ≡ old.line_count
    → Had left middle new new.held_bytes → new.line_count ≡ middle.line_count
    → PassesPiece left old new
piece_read left old middle new none source count lines had counted =
    let taken : new.held_bytes ≡ had.more = had.joined ∙ ap (λ front. front ++ had.more) none in
    record {
      gone = old.held_bytes;
      of_line = inl refl;
      had = record {
        more = new.held_bytes;
        joined = refl;
        moved = ap left (sym source) ∙ (had.moved
            ∙ ap (λ bytes. prepend_known bytes (left new.source)) (sym taken));
        counted = omega (arith, had.counted, ap length taken, count);
      };
      counted = counted ∙ lines;
    }

-- bytes before one more piece
pub one_piece : {S : Type 0} (left : S → Option (List ℕ)) (old middle new : ReaderState S)
    (gone piece : List ℕ) → Had left old middle (gone ++ middle.held_bytes)
    → Had left middle new (piece ++ new.held_bytes) → (piece ≡ middle.held_bytes) ⊎ (piece ≡ [])
    → Had left old new ((gone ++ piece) ++ new.held_bytes)
one_piece left old middle new gone piece first second of_line = record {
  more = first.more ++ second.more;
  joined =
      append_assoc gone piece new.held_bytes
      ∙ (ap (λ bytes. gone ++ bytes) second.joined
      ∙ (sym (append_assoc gone middle.held_bytes second.more)
      ∙ (ap (λ bytes. bytes ++ second.more) first.joined
      ∙ append_assoc old.held_bytes first.more second.more)));
  moved =
      first.moved
      ∙ (ap (prepend_known first.more) second.moved
      ∙ prepend_known-prepend (left new.source) first.more second.more);
  counted = omega (arith, first.counted, second.counted, length-append first.more second.more);
}

-- the bytes of a line, of which more were let go of
pub still_line : {S : Type 0} (middle : ReaderState S) (gone piece : List ℕ) → IsLineOpen middle
    → IsLine gone → (piece ≡ middle.held_bytes) ⊎ (piece ≡ []) → IsLine (gone ++ piece)
still_line middle gone piece is_open whole (inl held) =
    All-append (λ byte. byte ≢ 10) gone piece whole
    (subst IsLine (sym held) (one_line middle.held_bytes is_open.no_line))
still_line middle gone piece is_open whole (inr none) =
    subst IsLine (sym (ap (λ bytes. gone ++ bytes) none ∙ append-nil gone)) whole

module _ {S : Type 0} (left : S → Option (List ℕ)) (old middle new : ReaderState S)
    (gone : List ℕ) (whole : IsLine gone) (had : Had left old middle (gone ++ middle.held_bytes))
    (some : 0 < length old.held_bytes) (removes : RemovesLine middle new)
    (over : new.is_at_end ≡ true → IfSome (left new.source) (λ rest. rest ≡ []))
    (counted : new.line_count ≡ old.line_count + 1) where
  abbrev held : List ℕ
  held = middle.held_bytes

  -- the call had these bytes too
  had_them : Had left old new (gone ++ held)
  had_them = record {
    more = had.more;
    joined = had.joined;
    moved = had.moved ∙ ap (λ source. prepend_known had.more (left source)) (sym removes.taken.source);
    counted = removes.taken.count ∙ had.counted;
  }

  -- the text ahead, where what is left is
  of_text : (raw : List ℕ)
      → ((after : List ℕ) → left new.source ≡ Some after
      → raw_lines ((gone ++ held) ++ after) ≡ raw ∷ raw_lines (new.held_bytes ++ after))
      → IfSome (text_ahead left old) (λ text. IsSomeAnd (text_ahead left new) (λ rest.
      raw_lines text ≡ raw ∷ raw_lines rest))
  of_text raw cuts =
      subst (λ ahead. IfSome ahead (λ text. IsSomeAnd (text_ahead left new) (λ rest.
      raw_lines text ≡ raw ∷ raw_lines rest)))
      (sym (text_had left old new (gone ++ held) had_them))
      (by (left new.source) cuts)
    where
      by : (rest : Option (List ℕ))
          → ((after : List ℕ) → rest ≡ Some after
          → raw_lines ((gone ++ held) ++ after) ≡ raw ∷ raw_lines (new.held_bytes ++ after))
          → IfSome (prepend_known (gone ++ held) rest) (λ text.
          IsSomeAnd (prepend_known new.held_bytes rest) (λ rest. raw_lines text ≡ raw ∷ raw_lines rest))
      by None cuts = tt
      by (Some after) cuts = cuts after refl

  -- a line feed came
  at_feed : line_length held < length held → PassesLine left old new
  at_feed within =
      let line = take (line_length held) held in
      let raw = gone ++ line in
      let is_line : IsLine raw = All-append (λ byte. byte ≢ 10) gone line whole (first_line_whole held) in
      let cut : gone ++ held ≡ raw ++ 10 ∷ new.held_bytes =
      ap (λ bytes. gone ++ bytes) (first_line_cut held within)
      ∙ (sym (append_assoc gone line (10 ∷ drop (line_length held + 1) held))
      ∙ ap (λ rest. raw ++ 10 ∷ rest) (sym removes.held)) in
      record {
        raw = raw;
        whole = is_line;
        bytes = gone ++ held;
        had = had_them;
        cut = inl cut;
        counted = counted;
        text = of_text raw (λ after is.
            ap (λ bytes. raw_lines (bytes ++ after)) cut
            ∙ (ap raw_lines (append_assoc raw (10 ∷ new.held_bytes) after)
            ∙ raw_lines_first raw (new.held_bytes ++ after) is_line));
      }

  -- the end came
  at_end : length held ≤ line_length held → middle.is_at_end ≡ true → PassesLine left old new
  at_end all told =
      let one : line_length held ≡ length held = omega (arith, line_length_within held) in
      let raw = gone ++ held in
      let is_line : IsLine raw = All-append (λ byte. byte ≢ 10) gone held whole (one_line held one) in
      let none : new.held_bytes ≡ [] =
      removes.held ∙ drop_all (line_length held + 1) held (omega arith) in
      let new_told : new.is_at_end ≡ true = removes.taken.end ∙ told in
      let more : 0 < length raw = omega
      (arith, ap length had.joined, length-append old.held_bytes had.more) in
      record {
        raw = raw;
        whole = is_line;
        bytes = raw;
        had = had_them;
        cut = inr (new_told, refl, none);
        counted = counted;
        text = of_text raw (λ after is.
            let last : after ≡ [] = subst (λ rest. IfSome rest (λ rest. rest ≡ [])) is (over new_told) in
            ap (λ bytes. raw_lines (raw ++ bytes)) last
            ∙ (ap raw_lines (append-nil raw)
            ∙ (raw_lines_only raw is_line more
            ∙ ap (λ others. raw ∷ others)
            (sym (ap (λ bytes. raw_lines (new.held_bytes ++ bytes)) last
            ∙ (ap raw_lines (append-nil new.held_bytes)
            ∙ (ap raw_lines none ∙ raw_lines_nil)))))));
      }

  -- the line was passed over
  pub passes_line : ¬ IsLineOpen middle → PassesLine left old new
  passes_line closed = elim (cases_lt (line_length held) (length held)) [
    | inl within ↦ at_feed within
    | inr all ↦ at_end all (by middle.is_at_end refl all)
  ]
    where
      by : (told : Bool) → middle.is_at_end ≡ told → length held ≤ line_length held
          → middle.is_at_end ≡ true
      by true is all = is
      by false is all = absurd (closed (record {
        untold = is;
        no_line = omega (arith, line_length_within held);
      }))

-- the line isn't passed over yet
pub stays_in_line : {S : Type 0} (left : S → Option (List ℕ)) (old new : ReaderState S)
    (gone : List ℕ) → IsLine gone → Had left old new (gone ++ new.held_bytes) → IsLineOpen new
    → new.line_count ≡ old.line_count → StaysInLine left old new
stays_in_line left old new gone whole had is_open counted = record {
  bytes = gone ++ new.held_bytes;
  whole = All-append (λ byte. byte ≢ 10) gone new.held_bytes whole
      (one_line new.held_bytes is_open.no_line);
  had = had;
  untold = is_open.untold;
  counted = counted;
}
