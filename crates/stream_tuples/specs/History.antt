-- How the history of a run is tied to the bytes of its streams, and what is told of their faults.
use Rattle.std.specs.Prelude.{◌≡◌, ℕ, ◌+◌, ◌≤◌, ◌==◌, List, [], ◌∷◌, ◌++◌, length, map, filter, All}
use Rattle.std.specs.Prelude.{slice_get, Option, Some, None, IfSome}
use Rattle.rpq_base.specs.declared.data.Tuple.{Tuple}
use Rattle.rpq_base.specs.declared.data.Entry.{Entry}
use Rattle.rpq_io.specs.Counts.{CountsFault}
use Rattle.text_parts.specs.EndedLines.{ended_lines}
use Rattle.text_items.specs.declared.ends.TextEnd.TheVariants as text_end
use Rattle.text_items.specs.Items.{TextItems, items_with, text_items}
pub use Rattle.text_items.specs.Taken.{IsPrefix, IsProperPrefix, AreTaken, AreItemsTaken}
use Rattle.stream_tuples.specs.declared.ends.StreamEnd.{StreamEnd}
use Rattle.stream_tuples.specs.declared.ends.StreamEnd.TheVariants.{Whole, Line, LongLine, LongStream}
use Rattle.stream_tuples.specs.declared.ends.StreamEnd.TheVariants.{Read, Faults, Full, Closed, Memory}
use Rattle.stream_tuples.specs.declared.faults.FaultPolicy.{FaultPolicy}
use Rattle.stream_tuples.specs.declared.faults.FaultPolicy.TheVariants.{Stop, Report}
use Rattle.stream_tuples.specs.declared.faults.StreamItem.{StreamItem}
use Rattle.stream_tuples.specs.declared.faults.StreamItem.TheVariants as item
pub use Rattle.stream_tuples.specs.Ends.{CanEnd}
use Rattle.stream_tuples.specs.Faults.{tuples_in, reports_in}
use Rattle.stream_tuples.specs.Limits.{byte_limit_of}
use Rattle.stream_tuples.specs.StreamText.{stream_reading, tuples_with, tuples_of_lines, tuples_from}

-- the number of one of so many streams, which count from 1
pub record IsNumberOf (count number : ℕ) : Type 0 where
  pub first : 1 ≤ number
  pub last : number ≤ count

-- the tuples of the stream with this number in the history, in order
abbrev pub own_tuples : ℕ → List Entry → List Tuple
own_tuples number history =
    map (λ entry. entry.tuple) (filter (λ entry. entry.stream == number) history)

-- the tuples that are taken of a text by how its stream ended, where its source has these bytes
-- left: all up to the end of the text, or up to its first fault that ends it; or those of the lines
-- that end with a line feed among the bytes taken, where a read failed; or a prefix. A text that
-- doesn't have fewer bytes than the limit counts as cut off there
abbrev pub AreTuplesOfEnd : FaultPolicy → ℕ → List ℕ → Option (List ℕ) → List Tuple → StreamEnd
    → Type 0
AreTuplesOfEnd policy limit text left tuples Whole =
    (tuples_from policy 1 limit text ≡ tuples_with tuples Whole) × IfSome left (λ rest. rest ≡ [])
AreTuplesOfEnd policy limit text left tuples (Line number fault) =
    tuples_from policy 1 limit text ≡ tuples_with tuples (Line number fault)
AreTuplesOfEnd policy limit text left tuples (LongLine number) =
    tuples_from policy 1 limit text ≡ tuples_with tuples (LongLine number)
AreTuplesOfEnd policy limit text left tuples LongStream =
    tuples_from policy 1 limit text ≡ tuples_with tuples LongStream
AreTuplesOfEnd policy limit text left tuples Read =
    (bytes : List ℕ) × AreTaken text left bytes
    × (tuples_of_lines policy (ended_lines bytes) 1 Read ≡ tuples_with tuples Read)
AreTuplesOfEnd policy limit text left tuples Faults =
    IsPrefix tuples (tuples_from policy 1 limit text).tuples
AreTuplesOfEnd policy limit text left tuples Full =
    IsProperPrefix tuples (tuples_from policy 1 limit text).tuples
AreTuplesOfEnd policy limit text left tuples (Closed why) =
    IsProperPrefix tuples (tuples_from policy 1 limit text).tuples
AreTuplesOfEnd policy limit text left tuples Memory =
    IsPrefix tuples (tuples_from policy 1 limit text).tuples

-- the stream with this number ended so: its tuples in the history are those of its file's bytes by
-- the end, which its policy allows and which has its cause: it is full where the history has so many
-- entries, and a read failed where the source's count rose from 0, which stays 0 at every other end
pub record IsStreamOf {S : Type 0} (policy : FaultPolicy) (left : S → Option (List ℕ))
    (faults : S → ℕ) (number limit : ℕ) (file : Option (List ℕ)) (source : S)
    (history : List Entry) (end : StreamEnd) : Type 0 where
  pub tied : IfSome file (λ text.
      AreTuplesOfEnd policy (byte_limit_of limit) text (left source) (own_tuples number history)
      end)
  pub kind : CanEnd policy end
  pub full : end ≡ Full → length history ≡ limit
  pub read : CountsFault (end ≡ Read) 0 (faults source)

-- each of the streams, which are numbered from 1, has one source and one end, and ended so
pub record AreStreamsOf {S : Type 0} (policy : FaultPolicy) (left : S → Option (List ℕ))
    (faults : S → ℕ) (limit : ℕ) (files : List (Option (List ℕ))) (sources : List S)
    (history : List Entry) (ends : List StreamEnd) : Type 0 where
  pub as_many_sources : length sources ≡ length files
  pub as_many_ends : length ends ≡ length files
  pub each : (place : ℕ) (file : Option (List ℕ)) (source : S) (end : StreamEnd)
      → slice_get files place ≡ Some file → slice_get sources place ≡ Some source
      → slice_get ends place ≡ Some end
      → IsStreamOf policy left faults (place + 1) limit file source history end

-- items are a part of others at the front, behind which comes a tuple
abbrev pub IsBeforeTuple : List StreamItem → List StreamItem → Type 0
IsBeforeTuple items all =
    (tuple : Tuple) × (rest : List StreamItem) × (all ≡ items ++ item.Tuple tuple ∷ rest)

-- behind which comes a fault
abbrev pub IsBeforeFault : List StreamItem → List StreamItem → Type 0
IsBeforeFault items all =
    (report : List ℕ) × (rest : List StreamItem) × (all ≡ items ++ item.Fault report ∷ rest)

-- all items of a text whose faults are told apart, and how its reading ends
abbrev pub told_items : ℕ → List ℕ → TextItems StreamItem StreamEnd
told_items limit text = text_items (stream_reading Report) limit text

-- the items that are taken of a text whose faults are told apart, by how its stream ended, where its
-- source has these bytes left: all of them, and then the text ends; those of the whole lines taken,
-- where a read failed; those before the tuple that the history had no room for, or before the fault
-- that wasn't written; or a prefix
abbrev pub AreItemsOfEnd : ℕ → List ℕ → Option (List ℕ) → List StreamItem → StreamEnd → Type 0
AreItemsOfEnd limit text left items Whole =
    (told_items limit text ≡ items_with items text_end.Whole) × IfSome left (λ rest. rest ≡ [])
AreItemsOfEnd limit text left items (Line number fault) = ⊥
AreItemsOfEnd limit text left items (LongLine number) = ⊥
AreItemsOfEnd limit text left items LongStream =
    told_items limit text ≡ items_with items text_end.LongText
AreItemsOfEnd limit text left items Read = AreItemsTaken (stream_reading Report) text left items
AreItemsOfEnd limit text left items Faults = IsBeforeFault items (told_items limit text).items
AreItemsOfEnd limit text left items Full = IsBeforeTuple items (told_items limit text).items
AreItemsOfEnd limit text left items (Closed why) =
    IsBeforeTuple items (told_items limit text).items
AreItemsOfEnd limit text left items Memory = IsPrefix items (told_items limit text).items

-- these bytes are what is told of the faults among the items; where a write of the next fault
-- failed, a part of what is told of it follows, and not all
abbrev pub HasReports : List StreamItem → List StreamItem → StreamEnd → List ℕ → Type 0
HasReports items all Whole bytes = bytes ≡ reports_in items
HasReports items all (Line number fault) bytes = bytes ≡ reports_in items
HasReports items all (LongLine number) bytes = bytes ≡ reports_in items
HasReports items all LongStream bytes = bytes ≡ reports_in items
HasReports items all Read bytes = bytes ≡ reports_in items
HasReports items all Faults bytes =
    (report : List ℕ) × (rest : List StreamItem) × (part : List ℕ)
    × (all ≡ items ++ item.Fault report ∷ rest) × (bytes ≡ reports_in items ++ part)
    × IsProperPrefix part report
HasReports items all Full bytes = bytes ≡ reports_in items
HasReports items all (Closed why) bytes = bytes ≡ reports_in items
HasReports items all Memory bytes = bytes ≡ reports_in items

-- the tuples of a text whose faults are told apart, and the bytes that tell its faults, by how its
-- stream ended: some items were taken, whose tuples these are, and of each fault among them was told
pub record ReportsFaults (limit : ℕ) (text : List ℕ) (left : Option (List ℕ)) (tuples : List Tuple)
    (bytes : List ℕ) (end : StreamEnd) : Type 0 where
  pub items : List StreamItem
  pub tuples_are : tuples ≡ tuples_in items
  pub taken : AreItemsOfEnd limit text left items end
  pub reported : HasReports items (told_items limit text).items end bytes

-- the faults of the stream with this number were told on its sink, and a write failed where the
-- sink's count rose from 0, which stays 0 at every other end
pub record IsReportedOf {S K : Type 0} (left : S → Option (List ℕ)) (written : K → Option (List ℕ))
    (failures : K → ℕ) (number limit : ℕ) (file : Option (List ℕ)) (source : S) (sink : K)
    (history : List Entry) (end : StreamEnd) : Type 0 where
  pub tied : IfSome file (λ text. IfSome (written sink) (λ bytes.
      ReportsFaults (byte_limit_of limit) text (left source) (own_tuples number history) bytes end))
  pub write : CountsFault (end ≡ Faults) 0 (failures sink)

-- the faults of a stream are told apart exactly if it has a sink for them
abbrev pub policy_of_sink : {K : Type 0} → Option K → FaultPolicy
policy_of_sink None = Stop
policy_of_sink (Some sink) = Report

-- those of streams are so if there are sinks
abbrev pub policy_of_sinks : {K : Type 0} → List K → FaultPolicy
policy_of_sinks [] = Stop
policy_of_sinks (sink ∷ sinks) = Report

-- each of the streams, which are numbered from 1, has a sink for its faults, or none has; and on
-- each sink the faults of its stream were told
pub record AreReportedOf {S K : Type 0} (policy : FaultPolicy) (left : S → Option (List ℕ))
    (written : K → Option (List ℕ)) (failures : K → ℕ) (limit : ℕ)
    (files : List (Option (List ℕ))) (sources : List S) (sinks : List (Option K))
    (history : List Entry) (ends : List StreamEnd) : Type 0 where
  pub as_many : length sinks ≡ length files
  pub there : All (λ sink. policy_of_sink sink ≡ policy) sinks
  pub each : (place : ℕ) (file : Option (List ℕ)) (source : S) (sink : K) (end : StreamEnd)
      → slice_get files place ≡ Some file → slice_get sources place ≡ Some source
      → slice_get sinks place ≡ Some (Some sink) → slice_get ends place ≡ Some end
      → IsReportedOf left written failures (place + 1) limit file source sink history end
