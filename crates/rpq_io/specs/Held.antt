-- The bytes that a reader of lines holds. No public contract cites these.
use Rattle.std.specs.Prelude.{◌≡◌, ◌≢◌, ℕ, ◌+◌, ◌-◌, ◌<◌, ◌≤◌, Bool, true, false, List, [], ◌++◌, length}
use Rattle.std.specs.Prelude.{drop, slice_range, Option, IfSome, if◌then◌else◌, ◌⊎◌}
use Rattle.std.specs.Prelude.{Result, Ok, Err, OnErr, IsErr}
use Rattle.std.specs.Io.KnownBytes.{prepend_known}
use Rattle.text_parts.specs.Lines.{line_length}
use Rattle.rpq_io.specs.Counts.{CountsFault}
use Rattle.rpq_io.specs.Reader.{ReaderState, Had, IsLongStream, TakesNothing}
use Rattle.rpq_io.specs.Reads.{tells_end}
use Rattle.rpq_io.specs.declared.fault.LineFault.{LineFault}
use Rattle.rpq_io.specs.declared.fault.LineFault.TheVariants.{Read, Memory, LongLine, LongStream}

-- the bytes held, how many can be read behind them, how many can be held at most, and the line that
-- was removed last, where no byte was moved or read since
pub record HeldBytes : Type 0 where
  pub bytes : List ℕ
  pub room : ℕ
  pub size : ℕ
  pub removed : List ℕ

-- the bytes held stand from one place to another, the length of their first line is known, and so
-- are the places of the line that was removed last
pub record IsLaidOut (bytes : List ℕ) (start end known removed_start removed_end : ℕ)
    : Type 0 where
  pub order : start ≤ end
  pub within : end ≤ length bytes
  pub line : known ≡ line_length (slice_range bytes start end)
  pub removed_order : removed_start ≤ removed_end
  pub removed_within : removed_end ≤ length bytes

-- this many bytes were taken and are held behind those held before
pub record Grows (count : ℕ) (old new : List ℕ) (before after : Option (List ℕ)) : Type 0 where
  pub more : List ℕ
  pub counted : length more ≡ count
  pub joined : new ≡ old ++ more
  pub moved : before ≡ prepend_known more after

-- what a read of a source answered: 0 bytes, which tells the end, only where nothing is left; and a
-- fault, which took nothing, only where the count of faults rose
pub record IsRead {S E : Type 0} (left : S → Option (List ℕ)) (has_told_end : S → Bool)
    (faults : S → ℕ) (old new : S) (result : Result ℕ E) : Type 0 where
  pub end : result ≡ Ok 0 → IfSome (left new) (λ rest. rest ≡ [])
  pub told : has_told_end new ≡ tells_end result
  pub err : OnErr result (left new ≡ left old)
  pub faults_counted : CountsFault (IsErr result) (faults old) (faults new)

-- there is room for a line as long as may be and one byte more; each line given took a byte at
-- least; no more bytes were taken than may be
pub record IsInBounds (buffer : HeldBytes)
    (taken_count line_count line_limit byte_limit : ℕ) : Type 0 where
  pub room : line_limit < buffer.size
  pub counted : line_count + length buffer.bytes ≤ taken_count
  pub within : taken_count ≤ byte_limit

-- the reader is at its end where its source told so: then nothing is left, and more bytes could
-- have been taken
pub record IsTold (is_at_end has_told_end : Bool) (left : Option (List ℕ))
    (taken_count byte_limit : ℕ) : Type 0 where
  pub told : has_told_end ≡ is_at_end
  pub over : is_at_end ≡ true → IfSome left (λ rest. rest ≡ [])
  pub before_limit : is_at_end ≡ true → taken_count < byte_limit

-- how often the reader may still read: once for each byte that it may take, and once to be told the
-- end
abbrev pub reads_left : {S : Type 0} → ReaderState S → ℕ
reads_left reader = reader.byte_limit - reader.taken_count + (if reader.is_at_end then 0 else 1)

-- why no line of the bytes held can be given: the first is longer than may be, or as many bytes
-- were taken as may be; no read failed, and no memory was asked for
pub record IsFaultOfHeld {S A : Type 0} (reader : ReaderState S)
    (result : Result A LineFault) : Type 0 where
  pub read : result ≢ Err Read
  pub memory : result ≢ Err Memory
  pub long_line : result ≡ Err LongLine → reader.line_limit < line_length reader.held_bytes
  pub long_stream : result ≡ Err LongStream → IsLongStream reader

-- the first line of the bytes held was removed, with its line feed if it has one, and counted
pub record RemovesLine {S : Type 0} (old new : ReaderState S) : Type 0 where
  pub held : new.held_bytes ≡ drop (line_length old.held_bytes + 1) old.held_bytes
  pub counted : new.line_count ≡ old.line_count + 1
  pub taken : TakesNothing old new
  pub line_limit : new.line_limit ≡ old.line_limit
  pub byte_limit : new.byte_limit ≡ old.byte_limit

-- neither a line feed is held nor was the end told
pub record IsLineOpen {S : Type 0} (reader : ReaderState S) : Type 0 where
  pub untold : reader.is_at_end ≡ false
  pub no_line : line_length reader.held_bytes ≡ length reader.held_bytes

-- the bytes held were let go of and others taken, or nothing happened
pub record PassesPiece {S : Type 0} (left : S → Option (List ℕ)) (old new : ReaderState S)
    : Type 0 where
  pub gone : List ℕ
  pub of_line : (gone ≡ old.held_bytes) ⊎ (gone ≡ [])
  pub had : Had left old new (gone ++ new.held_bytes)
  pub counted : new.line_count ≡ old.line_count
