-- The text that is still to be given as lines, after a call.
use Rattle.std.proofs.Common.{◌≡◌, ◌≢◌, ℕ, ◌+◌, ◌<◌, ◌⊎◌, inl, inr, Bool, true, List, [], ◌∷◌, ◌++◌}
use Rattle.std.proofs.Common.{Option, Some, None, IfSome, length, refl, arith, sym, ap, ◌∙◌, subst}
use Rattle.std.proofs.Common.{append_assoc, append-nil}
use Rattle.std.specs.Option.{IsSomeAnd}
use Rattle.std.specs.Io.KnownBytes.{prepend_known}
use Rattle.text_parts.specs.Lines.{raw_lines, line_length}
use Rattle.rpq_io.specs.Reader.{ReaderState, text_ahead, Had, CutsLine, TakesNothing, GivesLine}
use Rattle.rpq_io.specs.Reader.{IsFirstLine, HasLongLine, LosesNothing, IsAtEnd}
use Rattle.rpq_io.proofs.Bytes.{prepend_known-prepend}
use Rattle.text_parts.proofs.Cuts.{raw_lines_nil, raw_lines_first, raw_lines_only}
use Rattle.rpq_io.proofs.LongLines.{long_line}

-- the text ahead of a call is the bytes that it had, and then what is left after it
pub text_had : {S : Type 0} (left : S → Option (List ℕ)) (old new : ReaderState S)
    (bytes : List ℕ) → Had left old new bytes
    → text_ahead left old ≡ prepend_known bytes (left new.source)
text_had left old new bytes had =
    ap (prepend_known old.held_bytes) had.moved
    ∙ prepend_known-prepend (left new.source) old.held_bytes had.more
    ∙ ap (λ front. prepend_known front (left new.source)) (sym had.joined)

-- a list that isn't empty has a first byte
pub has_byte : (bytes : List ℕ) → bytes ≢ [] → 0 < length bytes
has_byte [] some = absurd (some refl)
has_byte (byte ∷ bytes) some = omega arith

-- where bytes are cut, the text that begins with them is
cut_text : (line_limit : ℕ) (is_at_end : Bool) (bytes rest line after : List ℕ)
    → CutsLine line_limit is_at_end bytes rest line
    → (is_at_end ≡ true → after ≡ []) → IsFirstLine line_limit line (bytes ++ after) (rest ++ after)
cut_text line_limit is_at_end bytes rest line after cuts over = by cuts.cut
  where
    by : (bytes ≡ cuts.raw ++ 10 ∷ rest)
        ⊎ ((is_at_end ≡ true) × (cuts.raw ≢ []) × (bytes ≡ cuts.raw) × (rest ≡ []))
        → IsFirstLine line_limit line (bytes ++ after) (rest ++ after)
    by (inl cut) = record {
      raw = cuts.raw;
      fits = cuts.fits;
      dropped = cuts.dropped;
      first = ap (λ front. raw_lines (front ++ after)) cut ∙ ap raw_lines (append_assoc cuts.raw (10 ∷ rest) after)
          ∙ raw_lines_first cuts.raw (rest ++ after) cuts.whole;
    }
    by (inr cut) = record {
      raw = cuts.raw;
      fits = cuts.fits;
      dropped = cuts.dropped;
      first =
          ap (λ behind. raw_lines (bytes ++ behind))
          (over cut.0) ∙ ap raw_lines (append-nil bytes) ∙ ap raw_lines cut.2
          ∙ raw_lines_only cuts.raw cuts.whole (has_byte cuts.raw cut.1)
          ∙ ap (λ others. cuts.raw ∷ others)
          (sym (ap (λ behind. raw_lines (rest ++ behind))
          (over cut.0) ∙ ap raw_lines (append-nil rest) ∙ ap raw_lines cut.3 ∙ raw_lines_nil));
    }

-- steps that lost nothing, and then a line of the bytes that they left, gave the first line of the
-- text ahead
line_of_text : {S : Type 0} (left : S → Option (List ℕ)) (old middle new : ReaderState S)
    (line : List ℕ)
    → Had left old middle middle.held_bytes → middle.line_limit ≡ old.line_limit
    → TakesNothing middle new
    → (new.is_at_end ≡ true → IfSome (left new.source) (λ rest. rest ≡ []))
    → CutsLine middle.line_limit middle.is_at_end middle.held_bytes new.held_bytes line
    → IfSome (text_ahead left old)
    (λ text. IsSomeAnd (text_ahead left new)
    (λ rest. IsFirstLine old.line_limit line text rest))
line_of_text left old middle new line had limit same over cuts =
    subst (λ ahead. IfSome ahead (λ text. IsSomeAnd (text_ahead left new)
    (λ rest. IsFirstLine old.line_limit line text rest)))
    (sym (text_had left old middle middle.held_bytes had ∙ ap (λ source. prepend_known middle.held_bytes (left source)) (sym same.source)))
    (by (left new.source) over)
  where
    by : (after : Option (List ℕ)) → (new.is_at_end ≡ true → IfSome after (λ rest. rest ≡ []))
        → IfSome (prepend_known middle.held_bytes after)
        (λ text. IsSomeAnd (prepend_known new.held_bytes after)
        (λ rest. IsFirstLine old.line_limit line text rest))
    by None over = tt
    by (Some after) over =
        subst (λ most. IsFirstLine most line (middle.held_bytes ++ after)
        (new.held_bytes ++ after)) limit
        (cut_text middle.line_limit middle.is_at_end middle.held_bytes new.held_bytes line after cuts (λ told. over (same.end ∙ told)))

-- the same, with what else a call says that gave it
pub cut_line : {S : Type 0} (left : S → Option (List ℕ)) (old middle new : ReaderState S)
    (line : List ℕ)
    → Had left old middle middle.held_bytes → middle.line_limit ≡ old.line_limit
    → TakesNothing middle new
    → (new.is_at_end ≡ true → IfSome (left new.source) (λ rest. rest ≡ []))
    → CutsLine middle.line_limit middle.is_at_end middle.held_bytes new.held_bytes line
    → new.line_count ≡ old.line_count + 1
    → GivesLine left old new line
cut_line left old middle new line had limit same over cuts count = record {
  bytes = middle.held_bytes;
  had = record {
    more = had.more;
    joined = had.joined;
    moved = had.moved ∙ ap (λ source. prepend_known had.more (left source)) (sym same.source);
    counted = same.count ∙ had.counted;
  };
  cut = subst (λ most. CutsLine most new.is_at_end middle.held_bytes new.held_bytes line) limit
      (subst (λ told. CutsLine middle.line_limit told middle.held_bytes new.held_bytes line)
      (sym same.end) cuts);
  counted = count;
  text = line_of_text left old middle new line had limit same over cuts;
}

-- steps after which all the bytes that they had are held lost nothing
pub loses_nothing : {S : Type 0} (left : S → Option (List ℕ)) (old new : ReaderState S)
    → Had left old new new.held_bytes → new.line_count ≡ old.line_count
    → LosesNothing left old new
loses_nothing left old new had count =
    record { had = had; counted = count; text = sym (text_had left old new new.held_bytes had) }

-- steps after which the end is told and no byte is held had none
pub finds_end : {S : Type 0} (left : S → Option (List ℕ)) (old new : ReaderState S)
    → Had left old new new.held_bytes → new.line_count ≡ old.line_count
    → new.is_at_end ≡ true → new.held_bytes ≡ []
    → IfSome (left new.source) (λ rest. rest ≡ [])
    → IsAtEnd left old new
finds_end left old new had count told empty over = record {
  told = told;
  had = subst (λ bytes. Had left old new bytes) empty had;
  none = empty;
  counted = count;
  text = subst (λ ahead. IfSome ahead (λ text. text ≡ []))
      (sym (text_had left old new new.held_bytes had)) (by (left new.source) over);
}
  where
    by : (after : Option (List ℕ)) → IfSome after (λ rest. rest ≡ [])
        → IfSome (prepend_known new.held_bytes after) (λ text. text ≡ [])
    by None over = tt
    by (Some rest) over = ap (λ front. front ++ rest) empty ∙ over

-- steps that lost nothing and hold a line longer than may be found it first in the text ahead
pub long_line_of_text : {S : Type 0} (left : S → Option (List ℕ)) (old middle : ReaderState S)
    (line_limit : ℕ)
    → Had left old middle middle.held_bytes → line_limit < line_length middle.held_bytes
    → IfSome (text_ahead left old) (λ text. HasLongLine line_limit text)
long_line_of_text left old middle line_limit had long =
    subst (λ ahead. IfSome ahead (λ text. HasLongLine line_limit text))
    (sym (text_had left old middle middle.held_bytes had))
    (by (left middle.source))
  where
    by : (after : Option (List ℕ))
        → IfSome (prepend_known middle.held_bytes after) (λ text. HasLongLine line_limit text)
    by None = tt
    by (Some after) = long_line middle.held_bytes after line_limit long
