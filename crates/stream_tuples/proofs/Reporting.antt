-- What is told of a stream's faults, by its end.
use Rattle.std.proofs.Common.{◌≡◌, ℕ, List, [], ◌∷◌, ◌++◌, Option, ◌∙◌, refl}
use Rattle.std.proofs.Common.{append_assoc, rules}
use Rattle.std.specs.Prelude.{IfSome}
use Rattle.std.proofs.lemmas.Option.{IfSome_then}
use Rattle.rpq_base.specs.declared.data.Tuple.{Tuple}
use Rattle.rpq_io.specs.Reader.{ReaderState}
use Rattle.history_model.specs.declared.line.Why.{Why}
use Rattle.stream_tuples.specs.declared.ends.StreamEnd.{StreamEnd}
use Rattle.stream_tuples.specs.declared.ends.StreamEnd.TheVariants.{Whole, Line, LongLine, LongStream}
use Rattle.stream_tuples.specs.declared.ends.StreamEnd.TheVariants.{Read, Faults, Full, Closed, Memory}
use Rattle.stream_tuples.specs.declared.faults.FaultPolicy.{FaultPolicy}
use Rattle.stream_tuples.specs.declared.faults.FaultPolicy.TheVariants.{Report}
use Rattle.stream_tuples.specs.declared.faults.StreamItem.{StreamItem}
use Rattle.stream_tuples.specs.declared.faults.StreamItem.TheVariants as item
use Rattle.stream_tuples.specs.Ends.{IsReadEnd}
use Rattle.stream_tuples.specs.Faults.{tuples_in, reports_in}
use Rattle.stream_tuples.specs.History.{IsPrefix, IsProperPrefix, HasReports, ReportsFaults, told_items}
use Rattle.stream_tuples.specs.Progress.{IsStreamReader, IsNew, HasRead, EndsReading}
use Rattle.stream_tuples.proofs.Reading.{items_front}

-- nothing was read yet
pub none_read : {S : Type 0} (policy : FaultPolicy) (left : S → Option (List ℕ))
    (reader : ReaderState S) → IsNew reader → HasRead policy left (left reader.source) [] reader
none_read policy left reader fresh = search (rules, fresh.no_bytes, fresh.none_taken, fresh.no_line)

-- items that one more follows are a front, and what comes behind them is known
before_more : (items : List StreamItem) (one : StreamItem) (all : List StreamItem)
    → (front : IsPrefix (items ++ one ∷ []) all) → all ≡ items ++ one ∷ front.rest
before_more items one all front = front.cut ∙ append_assoc items (one ∷ []) front.rest

front_before : (items : List StreamItem) (one : StreamItem) (all : List StreamItem)
    → IsPrefix (items ++ one ∷ []) all → IsPrefix items all
front_before items one all front =
    record { rest = one ∷ front.rest; cut = before_more items one all front }

-- ---- the reading met the end by itself

reports_read : (end : StreamEnd) (items all : List StreamItem) (bytes : List ℕ) → IsReadEnd Report end
    → bytes ≡ reports_in items → HasReports items all end bytes
reports_read Whole items all bytes met is = is
reports_read (Line number fault) items all bytes met is = is
reports_read (LongLine number) items all bytes met is = is
reports_read LongStream items all bytes met is = is
reports_read Read items all bytes met is = is
reports_read Faults items all bytes met is = absurd met
reports_read Full items all bytes met is = is
reports_read (Closed why) items all bytes met is = is
reports_read Memory items all bytes met is = is

pub told_at_end : {S : Type 0} (left : S → Option (List ℕ)) (old new : ReaderState S)
    (end : StreamEnd) (file : Option (List ℕ)) (items : List StreamItem) (tuples : List Tuple)
    (bytes : List ℕ) → EndsReading Report left old new end → HasRead Report left file items old
    → tuples ≡ tuples_in items → bytes ≡ reports_in items
    → IfSome file (λ text. ReportsFaults new.byte_limit text (left new.source) tuples bytes end)
told_at_end left old new end file items tuples bytes ends read are is =
    IfSome_then file (ends.items refl file items read) (λ text taken. record {
      items = items;
      tuples_are = are;
      taken = taken;
      reported = reports_read end items (told_items new.byte_limit text).items bytes ends.met is;
    })

-- ---- one item more was read, at which the stream ended

module _ {S : Type 0} (left : S → Option (List ℕ)) (file : Option (List ℕ))
    (items : List StreamItem) (reader : ReaderState S) (sound : IsStreamReader left reader)
    (rest : Option (List ℕ)) (tuples : List Tuple) (are : tuples ≡ tuples_in items)
    (bytes : List ℕ) where
  -- a write of what was to be told of it failed
  pub told_unwritten : (report part : List ℕ)
      → HasRead Report left file (items ++ item.Fault report ∷ []) reader
      → bytes ≡ reports_in items ++ part → IsProperPrefix part report
      → IfSome file (λ text. ReportsFaults reader.byte_limit text rest tuples bytes Faults)
  told_unwritten report part read is proper =
      let one = item.Fault report in
      IfSome_then file (items_front left file (items ++ one ∷ []) reader sound read) (λ text front. record {
        items = items;
        tuples_are = are;
        taken = (
          report,
          front.rest,
          before_more items one (told_items reader.byte_limit text).items front,
        );
        reported = (
          report,
          front.rest,
          part,
          before_more items one (told_items reader.byte_limit text).items front,
          is,
          proper,
        );
      })

  module _ (tuple : Tuple) (read : HasRead Report left file (items ++ item.Tuple tuple ∷ []) reader)
      (is : bytes ≡ reports_in items) where
    abbrev next : StreamItem
    next = item.Tuple tuple

    -- its tuple found no room in the history
    pub told_full : IfSome file (λ text. ReportsFaults reader.byte_limit text rest tuples bytes Full)
    told_full = IfSome_then file (items_front left file (items ++ next ∷ []) reader sound read)
        (λ text front. record {
          items = items;
          tuples_are = are;
          taken = (
            tuple,
            front.rest,
            before_more items next (told_items reader.byte_limit text).items front,
          );
          reported = is;
        })

    -- or the history was shut
    pub told_closed : (why : Why)
        → IfSome file (λ text. ReportsFaults reader.byte_limit text rest tuples bytes (Closed why))
    told_closed why = IfSome_then file (items_front left file (items ++ next ∷ []) reader sound read)
        (λ text front. record {
          items = items;
          tuples_are = are;
          taken = (
            tuple,
            front.rest,
            before_more items next (told_items reader.byte_limit text).items front,
          );
          reported = is;
        })

    -- or memory ran out
    pub told_unkept : IfSome file (λ text. ReportsFaults reader.byte_limit text rest tuples bytes Memory)
    told_unkept = IfSome_then file (items_front left file (items ++ next ∷ []) reader sound read)
        (λ text front. record {
          items = items;
          tuples_are = are;
          taken = front_before items next (told_items reader.byte_limit text).items front;
          reported = is;
        })
