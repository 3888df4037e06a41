-- How far a stream is read.
use Rattle.std.specs.Prelude.{◌≡◌, ℕ, List, Option, IfSome}
use Rattle.rpq_io.specs.Reader.{ReaderState}
pub use Rattle.text_items.specs.Progress.{IsNew, passed}
use Rattle.text_items.specs.Progress.{IsTextReader, HasRead as HasReadItems, ReadsOn as ReadsItems}
use Rattle.stream_tuples.specs.declared.ends.StreamEnd.{StreamEnd}
use Rattle.stream_tuples.specs.declared.faults.FaultPolicy.{FaultPolicy}
use Rattle.stream_tuples.specs.declared.faults.FaultPolicy.TheVariants.{Report}
use Rattle.stream_tuples.specs.declared.faults.StreamItem.{StreamItem}
use Rattle.stream_tuples.specs.Faults.{tuples_in}
use Rattle.stream_tuples.specs.Limits.{byte_limit_of}
use Rattle.stream_tuples.specs.StreamText.{stream_reading}
use Rattle.stream_tuples.specs.Ends.{IsReadEnd}
use Rattle.stream_tuples.specs.History.{AreTuplesOfEnd, AreItemsOfEnd}

-- a reader has the limits of a stream
abbrev pub IsStreamReader : {S : Type 0} → (S → Option (List ℕ)) → ReaderState S → Type 0
IsStreamReader left reader = IsTextReader left reader

-- a reader of a stream that took nothing yet, and of which no read failed; the history has at most
-- so many entries
pub record IsNewReader {S : Type 0} (cap : ℕ) (left : S → Option (List ℕ)) (faults : S → ℕ)
    (reader : ReaderState S) : Type 0 where
  pub counted : faults reader.source ≡ 0
  pub sound : IsStreamReader left reader
  pub fresh : IsNew reader
  pub limit : reader.byte_limit ≡ byte_limit_of cap

-- the lines that a reader gave don't end the stream, and give these items
abbrev pub HasRead : {S : Type 0} → FaultPolicy → (S → Option (List ℕ)) → Option (List ℕ)
    → List StreamItem → ReaderState S → Type 0
HasRead policy left file items reader = HasReadItems (stream_reading policy) left file items reader

-- a stream was read on by lines that give these items
abbrev pub ReadsOn : {S : Type 0} → FaultPolicy → (S → Option (List ℕ)) → ReaderState S
    → ReaderState S → List StreamItem → Type 0
ReadsOn policy left old new found = ReadsItems (stream_reading policy) left old new found

-- a stream was read on to this end, which the reading met by itself: so are the tuples tied to its
-- bytes, and the items too, where faults are told apart
pub record EndsReading {S : Type 0} (policy : FaultPolicy) (left : S → Option (List ℕ))
    (old new : ReaderState S) (end : StreamEnd) : Type 0 where
  pub tied : (file : Option (List ℕ)) (items : List StreamItem)
      → HasRead policy left file items old
      → IfSome file (λ text.
      AreTuplesOfEnd policy new.byte_limit text (left new.source) (tuples_in items) end)
  pub items : policy ≡ Report → (file : Option (List ℕ)) (found : List StreamItem)
      → HasRead policy left file found old
      → IfSome file (λ text. AreItemsOfEnd new.byte_limit text (left new.source) found end)
  pub met : IsReadEnd policy end
