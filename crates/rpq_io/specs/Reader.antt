-- A reader of lines, and what its calls do.
use Rattle.std.specs.Prelude.{◌≡◌, ◌≢◌, ℕ, ◌+◌, ◌<◌, ◌≤◌, Bool, true, false, List, [], ◌∷◌, ◌++◌}
use Rattle.std.specs.Prelude.{length, Option, IfSome, IfNone, ◌⊎◌, Result, Err, IfOk, OnErr}
use Rattle.std.specs.Borrow.{Bor}
use Rattle.std.specs.Option.{IsSomeAnd}
use Rattle.std.specs.Io.KnownBytes.{prepend_known}
use Rattle.text_parts.specs.Lines.{line_feed, IsLine, raw_lines, line_length, without_return}
use Rattle.rpq_io.specs.Counts.{CountsFault}
use Rattle.rpq_io.specs.declared.fault.LineFault.{LineFault}
use Rattle.rpq_io.specs.declared.fault.LineFault.TheVariants.{Read, LongLine, LongStream}

-- a reader of lines: its source, the bytes taken from it and not yet given as lines, how many bytes
-- were taken in all, whether the source told its end, how many lines were given, and the most bytes
-- of a line and in all
pub record ReaderState (S : Type 0) : Type 0 where
  pub source : S
  pub held_bytes : List ℕ
  pub taken_count : ℕ
  pub is_at_end : Bool
  pub line_count : ℕ
  pub line_limit : ℕ
  pub byte_limit : ℕ

-- the reader holds no answer: neither the end nor a whole line nor a longer one than may be, and it
-- may take more bytes
pub record HoldsNoAnswer {S : Type 0} (reader : ReaderState S) : Type 0 where
  pub untold : reader.is_at_end ≡ false
  pub no_line : line_length reader.held_bytes ≡ length reader.held_bytes
  pub short : length reader.held_bytes ≤ reader.line_limit
  pub more : reader.taken_count < reader.byte_limit

-- the text that is still to be given as lines, where it is told: the bytes held, and then those
-- left in the source
abbrev pub text_ahead : {S : Type 0} → (S → Option (List ℕ)) → ReaderState S → Option (List ℕ)
text_ahead left reader = prepend_known reader.held_bytes (left reader.source)

-- a call had these bytes: those held before it, and then those that it took from the source
pub record Had {S : Type 0} (left : S → Option (List ℕ)) (old new : ReaderState S)
    (bytes : List ℕ) : Type 0 where
  pub more : List ℕ
  pub joined : bytes ≡ old.held_bytes ++ more
  pub moved : left old.source ≡ prepend_known more (left new.source)
  pub counted : new.taken_count ≡ old.taken_count + length more

-- a line stands first in these bytes, and the rest after it: up to a line feed, or up to the end of
-- the source
pub record CutsLine (line_limit : ℕ) (is_at_end : Bool) (bytes rest line : List ℕ) : Type 0 where
  pub raw : List ℕ
  pub whole : IsLine raw
  pub fits : length raw ≤ line_limit
  pub dropped : line ≡ without_return raw
  pub cut : (bytes ≡ raw ++ line_feed ∷ rest)
      ⊎ ((is_at_end ≡ true) × (raw ≢ []) × (bytes ≡ raw) × (rest ≡ []))

-- the first line of a text is this one, which is no longer than may be, and its other lines are
-- those of the rest
pub record IsFirstLine (line_limit : ℕ) (line text rest : List ℕ) : Type 0 where
  pub raw : List ℕ
  pub fits : length raw ≤ line_limit
  pub dropped : line ≡ without_return raw
  pub first : raw_lines text ≡ raw ∷ raw_lines rest

-- the first line of a text is longer than may be
pub record HasLongLine (line_limit : ℕ) (text : List ℕ) : Type 0 where
  pub raw : List ℕ
  pub others : List (List ℕ)
  pub first : raw_lines text ≡ raw ∷ others
  pub long : line_limit < length raw

-- a call gave this line: it stood first in the bytes that the call had, and in the text ahead; the
-- bytes after it are held
pub record GivesLine {S : Type 0} (left : S → Option (List ℕ)) (old new : ReaderState S)
    (line : List ℕ) : Type 0 where
  pub bytes : List ℕ
  pub had : Had left old new bytes
  pub cut : CutsLine old.line_limit new.is_at_end bytes new.held_bytes line
  pub counted : new.line_count ≡ old.line_count + 1
  pub text : IfSome (text_ahead left old) (λ text. IsSomeAnd (text_ahead left new) (λ rest.
      IsFirstLine old.line_limit line text rest))

-- a call found nothing more: the source told its end, and the call had no bytes, so no text was
-- ahead
pub record IsAtEnd {S : Type 0} (left : S → Option (List ℕ))
    (old new : ReaderState S) : Type 0 where
  pub told : new.is_at_end ≡ true
  pub had : Had left old new []
  pub none : new.held_bytes ≡ []
  pub counted : new.line_count ≡ old.line_count
  pub text : IfSome (text_ahead left old) (λ text. text ≡ [])

-- a call gave nothing and lost nothing: the bytes that it had are held, and the text ahead is the
-- same
pub record LosesNothing {S : Type 0} (left : S → Option (List ℕ))
    (old new : ReaderState S) : Type 0 where
  pub had : Had left old new new.held_bytes
  pub counted : new.line_count ≡ old.line_count
  pub text : text_ahead left new ≡ text_ahead left old

-- the first line held is longer than may be, and so is that of the text ahead of the call
pub record IsLongLine {S : Type 0} (left : S → Option (List ℕ))
    (old new : ReaderState S) : Type 0 where
  pub long : old.line_limit < line_length new.held_bytes
  pub text : IfSome (text_ahead left old) (λ text. HasLongLine old.line_limit text)

-- as many bytes were taken as may be, the end wasn't told, and neither a whole line nor a longer
-- one than may be is held
pub record IsLongStream {S : Type 0} (reader : ReaderState S) : Type 0 where
  pub all : reader.taken_count ≡ reader.byte_limit
  pub untold : reader.is_at_end ≡ false
  pub no_line : line_length reader.held_bytes ≡ length reader.held_bytes
  pub fits : length reader.held_bytes ≤ reader.line_limit

-- a call passed over a line of any length: it stood first in the bytes that the call had, and in the
-- text ahead, up to a line feed or up to the end of the source; the bytes after it are held
pub record PassesLine {S : Type 0} (left : S → Option (List ℕ)) (old new : ReaderState S)
    : Type 0 where
  pub raw : List ℕ
  pub whole : IsLine raw
  pub bytes : List ℕ
  pub had : Had left old new bytes
  pub cut : (bytes ≡ raw ++ line_feed ∷ new.held_bytes)
      ⊎ ((new.is_at_end ≡ true) × (bytes ≡ raw) × (new.held_bytes ≡ []))
  pub counted : new.line_count ≡ old.line_count + 1
  pub text : IfSome (text_ahead left old) (λ text. IsSomeAnd (text_ahead left new) (λ rest.
      raw_lines text ≡ raw ∷ raw_lines rest))

-- a call that was to pass over a line found no end of it: all the bytes that the call had are of
-- this line
pub record StaysInLine {S : Type 0} (left : S → Option (List ℕ)) (old new : ReaderState S)
    : Type 0 where
  pub bytes : List ℕ
  pub whole : IsLine bytes
  pub had : Had left old new bytes
  pub untold : new.is_at_end ≡ false
  pub counted : new.line_count ≡ old.line_count

-- why a line wasn't passed over to its end: a read failed, or as many bytes were taken as may be
abbrev pub IsPassFault : {S : Type 0} → ReaderState S → LineFault → Type 0
IsPassFault reader fault =
    (fault ≡ Read) ⊎ ((fault ≡ LongStream) × (reader.taken_count ≡ reader.byte_limit))

-- why a call gave no line shows in the reader: after a failed read it holds no answer; else it
-- holds a line longer than may be, or took as many bytes as may be
pub record ShowsCause {S A : Type 0} (left : S → Option (List ℕ)) (old new : ReaderState S)
    (result : Result A LineFault) : Type 0 where
  pub read : result ≡ Err Read → HoldsNoAnswer new
  pub long_line : result ≡ Err LongLine → IsLongLine left old new
  pub long_stream : result ≡ Err LongStream → IsLongStream new

-- a call took nothing from the source
pub record TakesNothing {S : Type 0} (old new : ReaderState S) : Type 0 where
  pub source : new.source ≡ old.source
  pub count : new.taken_count ≡ old.taken_count
  pub end : new.is_at_end ≡ old.is_at_end

-- a call keeps the limits and what holds of each reader: it took no more than may be, each line
-- given took a byte at least, and it is at its end where its source told so, with nothing left and
-- before the limit
pub record StaysSound {S : Type 0} (left : S → Option (List ℕ)) (has_told_end : S → Bool)
    (old new : ReaderState S) : Type 0 where
  pub line_limit : new.line_limit ≡ old.line_limit
  pub byte_limit : new.byte_limit ≡ old.byte_limit
  pub within : new.taken_count ≤ new.byte_limit
  pub fewer : new.line_count + length new.held_bytes ≤ new.taken_count
  pub told : has_told_end new.source ≡ new.is_at_end
  pub over : new.is_at_end ≡ true → IfSome (left new.source) (λ rest. rest ≡ [])
  pub before_limit : new.is_at_end ≡ true → new.taken_count < new.byte_limit

-- what a call did that lends its line, seen once the line isn't lent any more: the facts of a call
-- that gives its line
pub record HasLent {S : Type 0} (left : S → Option (List ℕ)) (has_told_end : S → Bool)
    (faults : S → ℕ) (old : ReaderState S) (result : Result (Option (Bor (List ℕ))) LineFault)
    (new : ReaderState S) : Type 0 where
  pub line : IfOk result (λ answer. IfSome answer (λ lent. GivesLine left old new lent.now))
  pub none : IfOk result (λ answer. IfNone answer (IsAtEnd left old new))
  pub err : OnErr result (LosesNothing left old new)
  pub faults_counted : CountsFault (result ≡ Err Read) (faults old.source) (faults new.source)
  pub cause : ShowsCause left old new result
  pub unread : ¬ HoldsNoAnswer old → TakesNothing old new
  pub sound : StaysSound left has_told_end old new
