-- What a reader of lines answers by the bytes that it holds.
use Rattle.std.proofs.Common.{◌≡◌, ◌≢◌, ℕ, ◌+◌, ◌<◌, ◌≤◌, ◌⊎◌, Bool, true, false, List, []}
use Rattle.std.proofs.Common.{length, take, drop, inl, inr, refl, ap, subst, arith}
use Rattle.std.proofs.Common.{length-take-le}
use Rattle.std.proofs.lemmas.Bool.{cases_lt}
use Rattle.std.proofs.lemmas.List.{take_all, drop_all}
use Rattle.text_parts.specs.Lines.{IsLine, line_length, without_return}
use Rattle.text_parts.proofs.LineLengths.{line_length_within, first_line_whole, first_line_cut}
use Rattle.rpq_io.specs.Outcomes.{AllowsLine}
use Rattle.rpq_io.specs.Reader.{ReaderState, HoldsNoAnswer, CutsLine, IsLongStream}
use Rattle.rpq_io.proofs.TextAhead.{has_byte}

-- where a line can be given of some bytes there are some
pub allowed_some : (line_limit : ℕ) (is_at_end : Bool) (bytes : List ℕ)
    → AllowsLine line_limit is_at_end bytes → 0 < length bytes
allowed_some line_limit is_at_end bytes allows = by allows.whole
  where
    by : (line_length bytes < length bytes) ⊎ ((is_at_end ≡ true) × (bytes ≢ []))
        → 0 < length bytes
    by (inl within) = omega arith
    by (inr rest) = has_byte bytes rest.1

-- the line up to the first line feed, and the bytes behind that
cut_at_feed : (line_limit : ℕ) (is_at_end : Bool) (bytes : List ℕ)
    → line_length bytes < length bytes → line_length bytes ≤ line_limit
    → CutsLine line_limit is_at_end bytes (drop (line_length bytes + 1) bytes)
    (without_return (take (line_length bytes) bytes))
cut_at_feed line_limit is_at_end bytes within fits = record {
  raw = take (line_length bytes) bytes;
  whole = first_line_whole bytes;
  fits = omega (arith, length-take-le (line_length bytes) bytes (omega arith));
  dropped = refl;
  cut = inl (first_line_cut bytes within);
}

-- the line up to the end, and no bytes
cut_at_end : (line_limit : ℕ) (is_at_end : Bool) (bytes : List ℕ)
    → length bytes ≤ line_length bytes → 0 < length bytes → line_length bytes ≤ line_limit
    → is_at_end ≡ true
    → CutsLine line_limit is_at_end bytes (drop (line_length bytes + 1) bytes)
    (without_return (take (line_length bytes) bytes))
cut_at_end line_limit is_at_end bytes whole some fits told =
    let all : take (line_length bytes) bytes ≡ bytes = take_all (line_length bytes) bytes whole in
    record {
      raw = bytes;
      whole = subst IsLine all (first_line_whole bytes);
      fits = omega arith;
      dropped = ap without_return all;
      cut = inr (told, (λ none. omega (arith, ap length none)), refl, drop_all (line_length bytes + 1) bytes (omega arith));
    }

-- the first line of some bytes, where it can be given, and the bytes behind it
pub cut_allowed : (line_limit : ℕ) (is_at_end : Bool) (bytes : List ℕ)
    → AllowsLine line_limit is_at_end bytes
    → CutsLine line_limit is_at_end bytes (drop (line_length bytes + 1) bytes)
    (without_return (take (line_length bytes) bytes))
cut_allowed line_limit is_at_end bytes allows =
    by (cases_lt (line_length bytes) (length bytes)) allows.whole
  where
    by : (line_length bytes < length bytes) ⊎ (length bytes ≤ line_length bytes)
        → (line_length bytes < length bytes) ⊎ ((is_at_end ≡ true) × (bytes ≢ []))
        → CutsLine line_limit is_at_end bytes (drop (line_length bytes + 1) bytes)
        (without_return (take (line_length bytes) bytes))
    by (inl within) whole = cut_at_feed line_limit is_at_end bytes within allows.fits
    by (inr all) (inl within) = absurd (omega arith)
    by (inr all) (inr rest) =
        cut_at_end line_limit is_at_end bytes all (has_byte bytes rest.1) allows.fits rest.0

-- a reader that holds an answer, though no line and no end, took all that it may
pub long_stream : {S : Type 0} (reader : ReaderState S) → ¬ HoldsNoAnswer reader
    → reader.is_at_end ≡ false
    → length reader.held_bytes ≤ line_length reader.held_bytes
    → line_length reader.held_bytes ≤ reader.line_limit
    → reader.taken_count ≤ reader.byte_limit → IsLongStream reader
long_stream reader settled untold whole fits within = record {
  all = omega (arith, by (cases_lt reader.taken_count reader.byte_limit));
  untold = untold;
  no_line = no_line;
  fits = omega arith;
}
  where
    no_line : line_length reader.held_bytes ≡ length reader.held_bytes
    no_line = omega (arith, line_length_within reader.held_bytes)

    by : (reader.taken_count < reader.byte_limit) ⊎ (reader.byte_limit ≤ reader.taken_count)
        → reader.byte_limit ≤ reader.taken_count
    by (inl more) = absurd (settled (record {
      untold = untold;
      no_line = no_line;
      short =
          omega (arith, no_line);
      more = more;
    }))
    by (inr all) = all
