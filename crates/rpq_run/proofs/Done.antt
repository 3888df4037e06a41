-- When a run is done.
use Rattle.std.proofs.Common.{◌≡◌, ◌≢◌, ℕ, zero, suc, ◌+◌, ◌<◌, ◌≤◌, List, [], ◌∷◌, ◌++◌, length, get_or}
use Rattle.std.proofs.Common.{Option, Some, None, Bool, refl, ap, sym, subst, ◌∙◌, arith, inl}
use Rattle.std.proofs.Common.{inr, ◌⊎◌, length-append}
use Rattle.std.specs.Prelude.{IfSome, IsSomeAnd, Contains, map, slice_get, sum}
use Rattle.std.specs.List.{All, AllZip}
use Rattle.std.proofs.lemmas.Bool.{cases_eq}
use Rattle.std.proofs.lemmas.List.{length-map}
use Rattle.std.proofs.lemmas.List.Elements.{All-cons, All-head, All-nil, All-tail}
use Rattle.std.proofs.lemmas.Option.{slice_get-get_or, slice_get_within}
use Rattle.rpq_base.specs.declared.data.Tuple.{Tuple}
use Rattle.rpq_base.specs.declared.data.Entry.{Entry}
use Rattle.rpq_io.specs.Counts.{Rose, CountsFault}
use Rattle.rpq_words.specs.declared.settings.RunMode.{RunMode}
use Rattle.rpq_words.specs.declared.settings.RunMode.TheVariants.{Check, Generate, Streams}
use Rattle.rpq_words.specs.Modes.{AreSettings, count_of}
use Rattle.rpq_words.specs.declared.settings.Settings.{Settings}
use Rattle.rpq_words.specs.declared.reader_names.ReaderFiles.{ReaderFiles}
use Rattle.rpq_words.specs.Views.{cap_of, is_both_ways, mode_of, readers_of, streams_of}
use Rattle.rpq_words.specs.Views.{two_way_of}
use Rattle.live_asks.specs.declared.ends.ReaderEnd.{ReaderEnd}
use Rattle.live_asks.specs.declared.reader.ReaderOutcome.{ReaderOutcome}
use Rattle.history_model.specs.declared.line.Why.TheVariants.{Write, Memory as MemoryOfAll}
use Rattle.stream_tuples.specs.declared.ends.StreamEnd.{StreamEnd}
use Rattle.stream_tuples.specs.declared.ends.StreamEnd.TheVariants.{Whole, Line, LongLine, LongStream}
use Rattle.stream_tuples.specs.declared.ends.StreamEnd.TheVariants.{Read, Faults, Full, Closed, Memory}
use Rattle.stream_tuples.specs.declared.faults.FaultPolicy.{FaultPolicy}
use Rattle.stream_tuples.specs.History.{IsNumberOf, IsPrefix, IsProperPrefix, own_tuples}
use Rattle.stream_tuples.specs.History.{AreReportedOf, AreTuplesOfEnd, CanEnd, IsStreamOf, AreStreamsOf}
use Rattle.stream_tuples.specs.History.{policy_of_sink}
use Rattle.stream_tuples.specs.Limits.{byte_limit_of}
use Rattle.stream_tuples.specs.StreamText.{StreamTuples, tuples_with}
use Rattle.rpq_text.specs.declared.ends.SinkName.{SinkName}
use Rattle.rpq_text.specs.declared.ends.SinkName.TheVariants.{Events, Replies, Save}
use Rattle.rpq_text.specs.Statuses.{first_status, status_of_end, IsStatusOf}
use Rattle.saved_window.specs.Then.{left_of_both, faults_of_both, faults_of_first}
use Rattle.run_start.specs.Files.{ForQueries, IsFaultless, from_content, stream_contents}
use Rattle.run_start.specs.Ready.{AreReadWhole}
use Rattle.run_start.specs.Given.{policy_of}
use Rattle.run_start.specs.Texts.{tuples_within}
use Rattle.run_start.proofs.Modes.{some_streams}
use Rattle.rpq_run.specs.Beside.{CountsReader, asks_held}
use Rattle.rpq_run.specs.Causes.{HasCauses}
use Rattle.rpq_run.specs.Done.{AreFewAsks, IsWholeStream, tuple_count, CanBeDone, NothingRose}
use Rattle.rpq_run.specs.Done.{NothingFails}
use Rattle.rpq_run.specs.Outcome.{Meanings, Sinks, Objects, Openings, Outcome, ends_of}
use Rattle.rpq_threads.specs.Runs.{IsLiveOf}
use Rattle.rpq_run.specs.Run.{Runs, RunsIn}
use Rattle.rpq_run.specs.RunsCheck.{RunsCheck}
use Rattle.rpq_run.specs.RunsGenerated.{RunsGenerated}
use Rattle.rpq_run.specs.RunsStreams.{RunsStreams}
use Rattle.rpq_run.specs.Shortage.{Shortage, no_shortage}
use Rattle.rpq_run.specs.Sources.{stream_sources, two_sources}
use Rattle.rpq_run.proofs.Sinks.{no_sinks}
use Rattle.rpq_run.proofs.Beside.{all_end_well as all_readers_end_well, contains_at, fine_ends}
use Rattle.rpq_run.proofs.Beside.{quiet_reader, served_or_shut}
use Rattle.rpq_run.proofs.Statuses.{IsFine, IsFineReader, counted_quietly, fine_or_memory}
use Rattle.rpq_run.proofs.Statuses.{first_of_done, read_quietly, told_quietly}
use Rattle.rpq_run.proofs.Totals.{AreFew, all_counted, fewer_in_all}
use Rattle.rpq_run.proofs.Windows.{as_many_contents}

-- ---- members of lists by their places

-- what holds of all holds at a place
pub all_at : {X : Type 0} (P : X → Type 0) (xs : List X) (place : ℕ) (x : X) → All P xs
    → slice_get xs place ≡ Some x → P x
all_at P [] place x all is = absurd (cc is)
all_at {X} P (first ∷ xs) zero x all is =
    let same : first ≡ x = cc is in
    subst P same (All-head P first xs all)
all_at P (first ∷ xs) (suc place) x all is = all_at P xs place x (All-tail P first xs all) is

-- there is a member at each place within the length
pub found : {X : Type 0} (xs : List X) (place : ℕ) → place < length xs → (x : X) × (slice_get xs place ≡ Some x)
found [] place inside = absurd (omega (arith, inside))
found (x ∷ xs) zero inside = (x, refl)
found (x ∷ xs) (suc place) inside = found xs place (omega (arith, inside))

-- all of a list, by what holds at each place
pub all_by : {X : Type 0} (P : X → Type 0) (xs : List X)
    → ((place : ℕ) (x : X) → slice_get xs place ≡ Some x → P x) → All P xs
all_by P xs each = λ place default inside.
    each place (get_or xs place default) (slice_get-get_or xs place default inside)

-- ---- a stream without a fault

-- the tuples of such a stream aren't too many; the history has at most so many entries
from_whole : (policy : FaultPolicy) (cap : ℕ) (file : Option (List ℕ)) (tuples : List Tuple) (end : StreamEnd)
    → IfSome file (λ text. tuples_within policy cap text ≡ tuples_with tuples end)
    → IsWholeStream policy cap file → (end ≡ Whole) × (length tuples ≤ tuple_count policy cap file)
from_whole policy cap None tuples end is whole = absurd whole
from_whole policy cap (Some text) tuples end is whole = (
  sym (ap (λ (ts : StreamTuples). ts.end) is) ∙ whole,
  omega (arith, ap (λ (ts : StreamTuples). length ts.tuples) is),
)

by_prefix : (policy : FaultPolicy) (cap : ℕ) (file : Option (List ℕ)) (tuples : List Tuple)
    → IfSome file (λ text. IsPrefix tuples (tuples_within policy cap text).tuples)
    → IsWholeStream policy cap file → length tuples ≤ tuple_count policy cap file
by_prefix policy cap None tuples is whole = absurd whole
by_prefix policy cap (Some text) tuples is whole =
    omega (arith, ap (λ (ts : List Tuple). length ts) is.cut, length-append tuples is.rest)

by_proper : (policy : FaultPolicy) (cap : ℕ) (file : Option (List ℕ)) (tuples : List Tuple)
    → IfSome file (λ text. IsProperPrefix tuples (tuples_within policy cap text).tuples)
    → IsWholeStream policy cap file → length tuples < tuple_count policy cap file
by_proper policy cap None tuples is whole = absurd whole
by_proper policy cap (Some text) tuples is whole = some is.rest is.proper is.cut
  where
    some : (rest : List Tuple) → rest ≢ [] → (tuples_within policy cap text).tuples ≡ tuples ++ rest
        → length tuples < tuple_count policy cap (Some text)
    some [] proper cut = absurd (proper refl)
    some (tuple ∷ rest) proper cut =
        omega (arith, ap (λ (ts : List Tuple). length ts) cut, length-append tuples (tuple ∷ rest))

-- what its end ties, without what is left of its source
not_whole : (policy : FaultPolicy) (cap : ℕ) (file left : Option (List ℕ)) (tuples : List Tuple)
    → IfSome file (λ text. AreTuplesOfEnd policy (byte_limit_of cap) text left tuples Whole)
    → IfSome file (λ text. tuples_within policy cap text ≡ tuples_with tuples Whole)
not_whole policy cap None left tuples is = tt
not_whole policy cap (Some text) left tuples is = is.0

-- such a stream of which no read failed gave at most the tuples of its file, and fewer where it
-- wasn't taken whole because the history was full
at_most : (policy : FaultPolicy) (cap : ℕ) (file left : Option (List ℕ)) (tuples : List Tuple) (end : StreamEnd) → IsWholeStream policy cap file
    → (end ≡ Read → ⊥) → IfSome file (λ text. AreTuplesOfEnd policy (byte_limit_of cap) text left tuples end)
    → length tuples ≤ tuple_count policy cap file
at_most policy cap file left tuples Whole whole read tied =
    (from_whole policy cap file tuples Whole (not_whole policy cap file left tuples tied) whole).1
at_most policy cap file left tuples (Line number fault) whole read tied =
    (from_whole policy cap file tuples (Line number fault) tied whole).1
at_most policy cap file left tuples (LongLine number) whole read tied =
    (from_whole policy cap file tuples (LongLine number) tied whole).1
at_most policy cap file left tuples LongStream whole read tied = (from_whole policy cap file tuples LongStream tied whole).1
at_most policy cap file left tuples Read whole read tied = absurd (read refl)
at_most policy cap file left tuples Faults whole read tied = by_prefix policy cap file tuples tied whole
at_most policy cap file left tuples Full whole read tied =
    let fewer = by_proper policy cap file tuples tied whole in
    omega (arith, fewer)
at_most policy cap file left tuples (Closed why) whole read tied =
    let fewer = by_proper policy cap file tuples tied whole in
    omega (arith, fewer)
at_most policy cap file left tuples Memory whole read tied = by_prefix policy cap file tuples tied whole

-- how such a stream ends where no write of the events failed and the history wasn't full
ends_well : (policy : FaultPolicy) (cap : ℕ) (file left : Option (List ℕ)) (tuples : List Tuple) (end : StreamEnd) → IsWholeStream policy cap file
    → (end ≡ Read → ⊥) → (end ≡ Faults → ⊥) → (end ≡ Full → ⊥) → (end ≡ Closed Write → ⊥)
    → IfSome file (λ text. AreTuplesOfEnd policy (byte_limit_of cap) text left tuples end) → IsFine end
ends_well policy cap file left tuples Whole whole read told full closed tied = inl refl
ends_well policy cap file left tuples (Line number fault) whole read told full closed tied =
    absurd (cc ((from_whole policy cap file tuples (Line number fault) tied whole).0))
ends_well policy cap file left tuples (LongLine number) whole read told full closed tied =
    absurd (cc ((from_whole policy cap file tuples (LongLine number) tied whole).0))
ends_well policy cap file left tuples LongStream whole read told full closed tied =
    absurd (cc ((from_whole policy cap file tuples LongStream tied whole).0))
ends_well policy cap file left tuples Read whole read told full closed tied = absurd (read refl)
ends_well policy cap file left tuples Faults whole read told full closed tied = absurd (told refl)
ends_well policy cap file left tuples Full whole read told full closed tied = absurd (full refl)
ends_well policy cap file left tuples (Closed Write) whole read told full closed tied = absurd (closed refl)
ends_well policy cap file left tuples (Closed MemoryOfAll) whole read told full closed tied = inr refl
ends_well policy cap file left tuples Memory whole read told full closed tied = inr refl

-- ---- all streams

module _ {S : Type 0} (policy : FaultPolicy) (left : S → Option (List ℕ)) (faults : S → ℕ) (limit : ℕ)
    (files : List (Option (List ℕ))) (sources : List S) (history : List Entry) (ends : List StreamEnd)
    (are : AreStreamsOf policy left faults limit files sources history ends) where
  -- a stream with its source and its end
  pub record IsAt (place : ℕ) (file : Option (List ℕ)) : Type 0 where
    pub source : S
    pub end : StreamEnd
    pub source_is : slice_get sources place ≡ Some source
    pub end_is : slice_get ends place ≡ Some end
    pub stream : IsStreamOf policy left faults (place + 1) limit file source history end

  pub stream_at : (place : ℕ) (file : Option (List ℕ)) → slice_get files place ≡ Some file → IsAt place file
  stream_at place file is =
      let inside = slice_get_within files place file is in
      let source = found sources place (omega (arith, inside, are.as_many_sources)) in
      let end = found ends place (omega (arith, inside, are.as_many_ends)) in
      record {
        source = source.0;
        end = end.0;
        source_is = source.1;
        end_is = end.1;
        stream = are.each place file source.0 end.0 is source.1 end.1;
      }

  -- the streams without a fault, of which no read failed, gave at most their tuples
  few_of : All (IsWholeStream policy limit) files → All (λ source. ¬ Rose 0 (faults source)) sources → AreFew policy limit 1 files history
  few_of whole reads place file is =
      let at = stream_at place file is in
      let quiet = all_at (λ source. ¬ Rose 0 (faults source)) sources place at.source reads at.source_is in
      let one : place + 1 ≡ 1 + place = omega arith in
      subst (λ n. length (own_tuples n history) ≤ tuple_count policy limit file) one
      (at_most policy limit file (left at.source) (own_tuples (place + 1) history) at.end
      (all_at (IsWholeStream policy limit) files place file whole is) (λ e. quiet (at.stream.read.rose e)) at.stream.tied)

  -- and none of them found the history full that could hold them all
  not_full : (count : ℕ) → count ≡ length files → All (λ (e : Entry). IsNumberOf count e.stream) history
      → All (IsWholeStream policy limit) files → All (λ source. ¬ Rose 0 (faults source)) sources
      → sum (map (tuple_count policy limit) files) ≤ limit → (place : ℕ) (file : Option (List ℕ))
      → slice_get files place ≡ Some file → length history ≡ limit
      → IfSome file (λ text. IsProperPrefix (own_tuples (place + 1) history) (tuples_within policy limit text).tuples)
      → ⊥
  not_full count as_many numbers whole reads few place file is full tied =
      let one : place + 1 ≡ 1 + place = omega arith in
      let fewer : length (own_tuples (1 + place) history) < tuple_count policy limit file =
      subst (λ n. length (own_tuples n history) < tuple_count policy limit file) one
      (by_proper policy limit file (own_tuples (place + 1) history) tied (all_at (IsWholeStream policy limit) files place file whole is)) in
      let all = fewer_in_all policy limit 1 files history place file (few_of whole reads) is fewer in
      let counted = all_counted (length files) history
      (subst (λ n. All (λ (e : Entry). IsNumberOf n e.stream) history) as_many numbers) in
      omega (arith, all, counted, full, few)

  -- so each ended well
  pub all_end_well : (count : ℕ) → count ≡ length files → All (λ (e : Entry). IsNumberOf count e.stream) history
      → All (IsWholeStream policy limit) files → All (λ source. ¬ Rose 0 (faults source)) sources
      → sum (map (tuple_count policy limit) files) ≤ limit
      → ((place : ℕ) → slice_get ends place ≡ Some Faults → ⊥)
      → (Contains ends (Closed Write) → ⊥) → All IsFine ends
  all_end_well count as_many numbers whole reads few told closed =
      all_by IsFine ends (λ place end end_is.
      let inside = slice_get_within ends place end end_is in
      let file = found files place (omega (arith, inside, are.as_many_ends)) in
      let source = found sources place (omega (arith, inside, are.as_many_ends, are.as_many_sources)) in
      let stream = are.each place file.0 source.0 end file.1 source.1 end_is in
      let quiet = all_at (λ s. ¬ Rose 0 (faults s)) sources place source.0 reads source.1 in
      ends_well policy limit file.0 (left source.0) (own_tuples (place + 1) history) end
      (all_at (IsWholeStream policy limit) files place file.0 whole file.1) (λ e. quiet (stream.read.rose e))
      (λ e. told place (end_is ∙ ap (λ (x : StreamEnd). Some x) e))
      (λ e. not_full count as_many numbers whole reads few place file.0 file.1 (stream.full e)
      (subst (λ (x : StreamEnd). IfSome file.0 (λ text.
      AreTuplesOfEnd policy (byte_limit_of limit) text (left source.0) (own_tuples (place + 1) history) x)) e stream.tied))
      (λ e. closed (contains_at ends place end (Closed Write) end_is e)) stream.tied)

  -- where all is done no read of a source failed
  pub reads_quietly : (asked : List ReaderEnd) (failed : List SinkName) (status : ℕ)
      → IsStatusOf ends asked failed status → status ≡ 0 → All (λ source. faults source ≡ 0) sources
  reads_quietly asked failed status is done =
      all_by (λ source. faults source ≡ 0) sources (λ place source source_is.
      let inside = slice_get_within sources place source source_is in
      let file = found files place (omega (arith, inside, are.as_many_sources)) in
      let end = found ends place (omega (arith, inside, are.as_many_sources, are.as_many_ends)) in
      let stream = are.each place file.0 source end.0 file.1 source_is end.1 in
      stream.read.quiet (read_quietly ends asked failed status place end.0 is done end.1))

-- ---- the sinks of faulty lines

module _ {S K : Type 0} (policy : FaultPolicy) (left : S → Option (List ℕ)) (faults : S → ℕ)
    (written : K → Option (List ℕ)) (failures : K → ℕ) (limit : ℕ)
    (files : List (Option (List ℕ))) (sources : List S) (sinks : List (Option K))
    (history : List Entry) (ends : List StreamEnd)
    (are : AreStreamsOf policy left faults limit files sources history ends)
    (told : AreReportedOf policy left written failures limit files sources sinks history ends) where
  -- no stream ended for a write of its faults where none failed
  pub none_untold : All (λ (sink : Option K). IfSome sink (λ own. ¬ Rose 0 (failures own))) sinks
      → (place : ℕ) → slice_get ends place ≡ Some Faults → ⊥
  none_untold quiet place end_is =
      let inside = slice_get_within ends place Faults end_is in
      let file = found files place (omega (arith, inside, are.as_many_ends)) in
      let source = found sources place (omega (arith, inside, are.as_many_ends, are.as_many_sources)) in
      let sink = found sinks place (omega (arith, inside, are.as_many_ends, told.as_many)) in
      let kind = (are.each place file.0 source.0 Faults file.1 source.1 end_is).kind in
      by sink.0 sink.1 (all_at (λ (one : Option K). policy_of_sink one ≡ policy) sinks place sink.0
      told.there sink.1) (all_at (λ (one : Option K). IfSome one (λ own. ¬ Rose 0 (failures own)))
      sinks place sink.0 quiet sink.1) kind file.0 file.1 source.0 source.1
    where
      by : (one : Option K) → slice_get sinks place ≡ Some one → policy_of_sink one ≡ policy
          → IfSome one (λ own. ¬ Rose 0 (failures own)) → CanEnd policy Faults
          → (file : Option (List ℕ)) → slice_get files place ≡ Some file
          → (source : S) → slice_get sources place ≡ Some source → ⊥
      by None at there silent kind file file_is source source_is =
          subst (λ (p : FaultPolicy). CanEnd p Faults) (sym {A = FaultPolicy} there) kind
      by (Some own) at there silent kind file file_is source source_is =
          silent ((told.each place file source own Faults file_is source_is at end_is).write.rose
          refl)

  -- and none failed where no stream ended so
  pub sinks_quiet : ((place : ℕ) (end : StreamEnd) → slice_get ends place ≡ Some end
      → end ≡ Faults → ⊥)
      → All (λ (sink : Option K). IfSome sink (λ own. failures own ≡ 0)) sinks
  sinks_quiet none = all_by (λ (sink : Option K). IfSome sink (λ own. failures own ≡ 0)) sinks by
    where
      by : (place : ℕ) (sink : Option K) → slice_get sinks place ≡ Some sink
          → IfSome sink (λ own. failures own ≡ 0)
      by place None at = tt
      by place (Some own) at =
          let inside = slice_get_within sinks place (Some own) at in
          let file = found files place (omega (arith, inside, told.as_many)) in
          let source = found sources place (omega (arith, inside, told.as_many, are.as_many_sources)) in
          let end = found ends place (omega (arith, inside, told.as_many, are.as_many_ends)) in
          (told.each place file.0 source.0 own end.0 file.1 source.1 at end.1).write.quiet
          (none place end.0 end.1)

-- ---- a run

-- a count that didn't rise from 0 stays there
no_rise : (count : ℕ) → ¬ Rose 0 count → count ≡ 0
no_rise zero quiet = refl
no_rise (suc count) quiet = absurd (quiet (inl (omega arith)))

-- the sources of the streams, by those of their files and that of the saved window
module _ {S : Type 0} (faults : S → ℕ) where
  both_quiet : (from : Option S) (source : S) → IfSome from (λ s. ¬ Rose 0 (faults s)) → ¬ Rose 0 (faults source)
      → ¬ Rose 0 (faults_of_both faults (two_sources from source))
  both_quiet from source first quiet rose =
      let none = first_none from first in
      let own = no_rise (faults source) quiet in
      elim rose [
        | inl some ↦ absurd (omega (arith, some, none, own))
        | inr limit ↦ absurd (omega (arith, limit, none, own))
      ]
    where
      first_none : (one : Option S) → IfSome one (λ s. ¬ Rose 0 (faults s)) → faults_of_first faults one ≡ 0
      first_none None first = refl
      first_none (Some s) first = no_rise (faults s) first

  others_quiet : (sources : List S) → All (λ s. ¬ Rose 0 (faults s)) sources
      → All (λ s. ¬ Rose 0 (faults_of_both faults s)) (map (two_sources None) sources)
  others_quiet [] all = All-nil (λ s. ¬ Rose 0 (faults_of_both faults s))
  others_quiet (source ∷ sources) all = All-cons (λ s. ¬ Rose 0 (faults_of_both faults s)) (two_sources None source)
      (map (two_sources None) sources)
      (both_quiet None source tt (All-head (λ s. ¬ Rose 0 (faults s)) source sources all))
      (others_quiet sources (All-tail (λ s. ¬ Rose 0 (faults s)) source sources all))

  sources_quiet : (from : Option S) (sources : List S) → IfSome from (λ s. ¬ Rose 0 (faults s))
      → All (λ s. ¬ Rose 0 (faults s)) sources
      → All (λ s. ¬ Rose 0 (faults_of_both faults s)) (stream_sources from sources)
  sources_quiet from [] first all = All-nil (λ s. ¬ Rose 0 (faults_of_both faults s))
  sources_quiet from (source ∷ sources) first all = All-cons (λ s. ¬ Rose 0 (faults_of_both faults s))
      (two_sources from source) (map (two_sources None) sources)
      (both_quiet from source first (All-head (λ s. ¬ Rose 0 (faults s)) source sources all))
      (others_quiet sources (All-tail (λ s. ¬ Rose 0 (faults s)) source sources all))

  -- and back
  others_none : (sources : List S) → All (λ s. faults_of_both faults s ≡ 0) (map (two_sources None) sources)
      → All (λ s. faults s ≡ 0) sources
  others_none [] all = All-nil (λ s. faults s ≡ 0)
  others_none (source ∷ sources) all =
      let first = All-head (λ s. faults_of_both faults s ≡ 0) (two_sources None source)
      (map (two_sources None) sources) all in
      All-cons (λ s. faults s ≡ 0) source sources (omega (arith, first)) (others_none sources
      (All-tail (λ s. faults_of_both faults s ≡ 0) (two_sources None source) (map (two_sources None) sources) all))

  sources_none : (from : Option S) (sources : List S) → 1 ≤ length (stream_sources from sources)
      → All (λ s. faults_of_both faults s ≡ 0) (stream_sources from sources)
      → All (λ s. faults s ≡ 0) sources × IfSome from (λ s. faults s ≡ 0)
  sources_none from [] some all = absurd (omega (arith, some))
  sources_none from (source ∷ sources) some all =
      let both = All-head (λ s. faults_of_both faults s ≡ 0) (two_sources from source)
      (map (two_sources None) sources) all in (
        All-cons (λ s. faults s ≡ 0) source sources (omega (arith, both)) (others_none sources
            (All-tail (λ s. faults_of_both faults s ≡ 0) (two_sources from source) (map (two_sources None) sources) all)),
        first from both,
      )
    where
      first : (one : Option S) → faults_of_both faults (two_sources one source) ≡ 0 → IfSome one (λ s. faults s ≡ 0)
      first None is = tt
      first (Some s) is = omega (arith, is)

-- where no count rose no write failed
pub none_failed : {S K : Type 0} (means : Meanings S K) (failed : List SinkName) (short : Shortage)
    (sinks : Sinks K) (outcome : Outcome S K) → HasCauses means failed short sinks outcome
    → ¬ Rose (means.failures sinks.events_old) (means.failures sinks.events_new)
    → IfSome outcome.replies (λ sink. ¬ Rose 0 (means.failures sink))
    → IfSome outcome.save (λ sink. ¬ Rose 0 (means.failures sink)) → failed ≡ []
none_failed {S} {K} means failed short sinks outcome causes writes replies save =
    no_sinks failed (λ has. writes (causes.events_failed.rose has))
    (none_of Replies outcome.replies causes.replies_failed causes.no_replies replies)
    (none_of Save outcome.save causes.save_failed causes.no_save save)
  where
    none_of : (name : SinkName) (r : Option K)
        → IfSome r (λ sink. CountsFault (Contains failed name) 0 (means.failures sink))
        → (r ≡ None → Contains failed name → ⊥)
        → IfSome r (λ sink. ¬ Rose 0 (means.failures sink)) → Contains failed name → ⊥
    none_of name None counts none quiet has = none refl has
    none_of name (Some sink) counts none quiet has = quiet (counts.rose has)

-- such a status is that of a run that is done, or of want of memory
done_or_short : (ends : List StreamEnd) (asked : List ReaderEnd) (failed : List SinkName)
    (status : ℕ) → failed ≡ [] → IsStatusOf ends asked failed status → All IsFine ends
    → All IsFineReader asked → (status ≡ 0) ⊎ (status ≡ 8)
done_or_short ends asked failed status none is fine fine_asked = elim (cases_eq status 8) [
  | inl eight ↦ inr eight
  | inr other ↦
      let first : status ≡ first_status ends asked [] =
      is.others other ∙ ap (λ (fs : List SinkName). first_status ends asked fs) none in
      elim (fine_or_memory ends asked fine fine_asked) [
        | inl done ↦ inl (first ∙ done)
        | inr eight ↦ inr (first ∙ eight)
      ]
]

-- there are as many streams as files
pub as_many_streams : (given : Settings) (holds : List ℕ → Option (List ℕ))
    → length (stream_contents given holds) ≡ length (streams_of given)
as_many_streams given holds = as_many_contents (from_content given holds) (map holds (streams_of given))
    ∙ length-map (streams_of given) holds

-- the readers of such a run ended well
readers_well : {S K : Type 0} (means : Meanings S K) (given : Settings)
    (holds : List ℕ → Option (List ℕ)) (openings : Openings) (sinks : Sinks K) (objects : Objects)
    (outcome : Outcome S K) → RunsStreams means given holds sinks objects outcome
    → CanBeDone given holds → NothingRose means given openings sinks outcome
    → All IsFineReader (ends_of outcome.readers)
readers_well means given holds openings sinks objects outcome runs can none =
    fine_ends outcome.readers (by (holds given.queries) can.understood can.readers
    runs.readers.each)
  where
    by : (file : Option (List ℕ)) → IsSomeAnd file (IsFaultless (two_way_of given))
        → All (λ (files : ReaderFiles). IsSomeAnd (holds files.asks)
        (AreFewAsks (two_way_of given) file)) (readers_of given)
        → ForQueries (two_way_of given) file (λ queries.
        AllZip (IsLiveOf means.left means.faults means.written means.failures queries
        outcome.history runs.replies.last) (asks_held given holds) outcome.readers)
        → All (λ (one : ReaderOutcome _ _). IsFineReader one.end) outcome.readers
    by None some can_be live = absurd some
    by (Some bytes) some can_be (queries, has, live) =
        all_readers_end_well means (two_way_of given) bytes queries has outcome.history
        runs.replies.last holds (readers_of given) outcome.readers can_be live none.asked
        none.answered

-- a run over streams that can be done, in which no count rose, is done, or wants memory
pub streams_done : {S K : Type 0} (means : Meanings S K) (given : Settings)
    (holds : List ℕ → Option (List ℕ)) (openings : Openings) (sinks : Sinks K) (objects : Objects)
    (outcome : Outcome S K) → RunsStreams means given holds sinks objects outcome → CanBeDone given holds
    → NothingRose means given openings sinks outcome → (outcome.status ≡ 0) ⊎ (outcome.status ≡ 8)
streams_done means given holds openings sinks objects outcome runs can none =
    let failed = none_failed means runs.failed runs.short sinks outcome runs.causes none.writes none.replies none.save in
    done_or_short outcome.ends (ends_of outcome.readers) runs.failed outcome.status failed
    runs.causes.status_is (all_end_well (policy_of given) (left_of_both means.left)
    (faults_of_both means.faults) (cap_of given) (stream_contents given holds)
    (stream_sources outcome.from outcome.sources) outcome.history outcome.ends runs.history.each_stream
    (length (streams_of given)) (sym (as_many_streams given holds)) runs.history.no_other can.whole
    (sources_quiet means.faults outcome.from outcome.sources none.from none.reads) can.few
    (none_untold (policy_of given) (left_of_both means.left) (faults_of_both means.faults)
    means.written means.failures (cap_of given) (stream_contents given holds)
    (stream_sources outcome.from outcome.sources) outcome.faults outcome.history outcome.ends
    runs.history.each_stream runs.faults.each_stream none.reported)
    (λ closed. none.writes (runs.causes.events_failed.rose (runs.causes.closed closed))))
    (readers_well means given holds openings sinks objects outcome runs can none)

-- no reader ended badly where there is none
no_reader_badly : {S K : Type 0} (readers : List (ReaderOutcome S K)) → readers ≡ []
    → All IsFineReader (ends_of readers)
no_reader_badly {S} {K} readers none =
    subst (λ (rs : List (ReaderOutcome S K)). All IsFineReader (ends_of rs)) (sym none)
    (All-nil IsFineReader)

-- so is one over generated tuples
pub generated_done : {S K : Type 0} (means : Meanings S K) (given : Settings) (two_way : Bool)
    (count : ℕ) (file : Option (List ℕ)) (openings : Openings) (sinks : Sinks K)
    (objects : Objects) (outcome : Outcome S K)
    → RunsGenerated means two_way (cap_of given) count file sinks objects outcome
    → count ≤ cap_of given
    → NothingRose means given openings sinks outcome → (outcome.status ≡ 0) ⊎ (outcome.status ≡ 8)
generated_done means given two_way count file openings sinks objects outcome runs fits none =
    let failed = none_failed means runs.failed no_shortage sinks outcome runs.causes none.writes none.replies none.save in
    let fine : IsFine runs.history.end = elim runs.history.one_of [
      | inl whole ↦ inl (ap status_of_end whole)
      | inr other ↦ elim other [
        | inl full ↦
            let at_limit = runs.history.full full in
            absurd (omega (arith, at_limit.0, at_limit.1, fits))
        | inr short ↦ inr (ap status_of_end short)
      ]
    ] in
    done_or_short outcome.ends (ends_of outcome.readers) runs.failed outcome.status failed
    runs.causes.status_is
    (subst (λ (ends : List StreamEnd). All IsFine ends) (sym runs.history.one_stream)
    (All-cons IsFine runs.history.end [] fine (All-nil IsFine)))
    (no_reader_badly outcome.readers runs.no_reader)

-- and so is a check
pub check_done : {S K : Type 0} (means : Meanings S K) (given : Settings) (two_way : Bool)
    (file : Option (List ℕ)) (openings : Openings) (sinks : Sinks K) (objects : Objects)
    (outcome : Outcome S K) → RunsCheck means two_way file sinks objects outcome
    → NothingRose means given openings sinks outcome → (outcome.status ≡ 0) ⊎ (outcome.status ≡ 8)
check_done means given two_way file openings sinks objects outcome runs none =
    let failed = none_failed means runs.failed no_shortage sinks outcome runs.causes none.writes none.replies none.save in
    done_or_short outcome.ends (ends_of outcome.readers) runs.failed outcome.status failed
    runs.causes.status_is
    (subst (λ (ends : List StreamEnd). All IsFine ends) (sym runs.nothing.no_stream) (All-nil IsFine))
    (no_reader_badly outcome.readers runs.nothing.no_reader)

-- ---- what failed nowhere

-- no write on a sink failed, if there is one
quiet_sink : {K : Type 0} (failures : K → ℕ) (failed : List SinkName) (ends : List StreamEnd)
    (asked : List ReaderEnd) (status : ℕ)
    (name : SinkName) → IsStatusOf ends asked failed status → status ≡ 0 → (one : Option K)
    → IfSome one (λ sink. CountsFault (Contains failed name) 0 (failures sink))
    → IfSome one (λ sink. failures sink ≡ 0)
quiet_sink failures failed ends asked status name is done None counts = tt
quiet_sink failures failed ends asked status name is done (Some sink) counts =
    counted_quietly ends asked failed status name 0 (failures sink) is done counts

module _ {S K : Type 0} (means : Meanings S K) (words : Option Settings) (given : Settings)
    (holds : List ℕ → Option (List ℕ)) (openings : Openings) (sinks : Sinks K) (outcome : Outcome S K)
    (are : words ≡ Some given) (unread : (name : List ℕ) → openings.unread_new name ≡ openings.unread_old name)
    (unmade : (name : List ℕ) → openings.unmade_new name ≡ openings.unmade_old name)
    (whole : AreReadWhole means.left means.faults given holds) (settings : AreSettings given)
    (done : outcome.status ≡ 0) where
  -- how the readers ended
  abbrev asked_in : List ReaderEnd
  asked_in = ends_of outcome.readers

  -- where all is done and no read of a source failed, nothing did
  all_quiet : (failed : List SinkName) (short : Shortage) → HasCauses means failed short sinks outcome
      → All (λ source. means.faults source ≡ 0) outcome.sources
      → All (λ (sink : Option K). IfSome sink (λ own. means.failures own ≡ 0)) outcome.faults
      → IfSome outcome.from (λ source. means.faults source ≡ 0)
      → All (CountsReader means) outcome.readers
      → NothingFails means words holds openings sinks outcome
  all_quiet failed short causes reads reported from counted = record {
    unread = unread;
    unmade = unmade;
    whole = subst (λ (w : Option Settings). IfSome w (λ g. AreReadWhole means.left means.faults g holds)) (sym are) whole;
    reads = reads;
    from = from;
    reported = reported;
    writes = counted_quietly outcome.ends asked_in failed outcome.status Events
        (means.failures sinks.events_old)
        (means.failures sinks.events_new) causes.status_is done causes.events_failed;
    replies = quiet_sink means.failures failed outcome.ends asked_in outcome.status Replies
        causes.status_is done outcome.replies causes.replies_failed;
    save = quiet_sink means.failures failed outcome.ends asked_in outcome.status Save
        causes.status_is done outcome.save causes.save_failed;
    asked = all_by (λ (one : ReaderOutcome S K). means.faults one.source ≡ 0) outcome.readers
        (λ place one at. (quiet place one at).0);
    answered = all_by (λ (one : ReaderOutcome S K). means.failures one.replies ≡ 0)
        outcome.readers (λ place one at. (quiet place one at).1);
  }
    where
      first : first_status outcome.ends asked_in failed ≡ 0
      first = first_of_done outcome.ends asked_in failed outcome.status causes.status_is done

      quiet : (place : ℕ) (one : ReaderOutcome S K) → slice_get outcome.readers place ≡ Some one
          → (means.faults one.source ≡ 0) × (means.failures one.replies ≡ 0)
      quiet place one at = quiet_reader means one
          (served_or_shut outcome.ends outcome.readers failed first place one at)
          (all_at (CountsReader means) outcome.readers place one counted at)

  -- no reader has a count where there is none
  none_counted : outcome.readers ≡ [] → All (CountsReader means) outcome.readers
  none_counted none = subst (λ (rs : List (ReaderOutcome S K)). All (CountsReader means) rs)
      (sym none) (All-nil (CountsReader means))

  -- no source has a fault where there is none
  none_faulty : outcome.sources ≡ [] → All (λ source. means.faults source ≡ 0) outcome.sources
  none_faulty none = subst (λ (ss : List S). All (λ source. means.faults source ≡ 0) ss) (sym none)
      (All-nil (λ source. means.faults source ≡ 0))

  -- and no sink of faulty lines either
  none_told : outcome.faults ≡ []
      → All (λ (sink : Option K). IfSome sink (λ own. means.failures own ≡ 0)) outcome.faults
  none_told none = subst (λ (ks : List (Option K)).
      All (λ (sink : Option K). IfSome sink (λ own. means.failures own ≡ 0)) ks) (sym none)
      (All-nil (λ (sink : Option K). IfSome sink (λ own. means.failures own ≡ 0)))

  none_first : outcome.from ≡ None → IfSome outcome.from (λ source. means.faults source ≡ 0)
  none_first none = subst (λ (s : Option S). IfSome s (λ source. means.faults source ≡ 0)) (sym none) tt

  -- nor in a run over streams
  streams_quiet : (objects : Objects) → 1 ≤ length (streams_of given)
      → RunsStreams means given holds sinks objects outcome → NothingFails means words holds openings sinks outcome
  streams_quiet objects some runs =
      let as_many = runs.history.each_stream.as_many_sources in
      let none = sources_none means.faults outcome.from outcome.sources
      (omega (arith, as_many, as_many_streams given holds, some))
      (reads_quietly (policy_of given) (left_of_both means.left) (faults_of_both means.faults) (cap_of given) (stream_contents given holds)
      (stream_sources outcome.from outcome.sources) outcome.history outcome.ends runs.history.each_stream asked_in
      runs.failed
      outcome.status runs.causes.status_is done) in
      let reported = sinks_quiet (policy_of given) (left_of_both means.left)
      (faults_of_both means.faults) means.written means.failures (cap_of given)
      (stream_contents given holds) (stream_sources outcome.from outcome.sources) outcome.faults
      outcome.history outcome.ends runs.history.each_stream runs.faults.each_stream
      (λ place end. told_quietly outcome.ends asked_in runs.failed outcome.status place end
      runs.causes.status_is done) in
      all_quiet runs.failed runs.short runs.causes none.0 reported none.1 runs.readers.counted

  -- nothing failed in a run that is done
  pub runs_quiet : (objects : Objects) → Runs means given holds sinks objects outcome
      → NothingFails means words holds openings sinks outcome
  runs_quiet objects = by (mode_of given) refl
    where
      by : (mode : RunMode) → mode_of given ≡ mode → RunsIn mode means given holds sinks objects
          outcome
          → NothingFails means words holds openings sinks outcome
      by (Check directions) is runs = all_quiet runs.failed no_shortage runs.causes
          (none_faulty runs.no_source) (none_told runs.nothing.no_faults)
          (none_first runs.nothing.no_window.0) (none_counted runs.nothing.no_reader)
      by (Generate directions count) is runs = all_quiet runs.failed no_shortage runs.causes
          (none_faulty runs.no_source) (none_told runs.no_faults) (none_first runs.no_window.0)
          (none_counted runs.no_reader)
      by (Streams run) is runs = streams_quiet objects (some_streams given run is settings).0 runs

-- a run that can be done, in which no count rose, is done, or wants memory
pub runs_done : {S K : Type 0} (means : Meanings S K) (given : Settings)
    (holds : List ℕ → Option (List ℕ)) (openings : Openings) (sinks : Sinks K) (objects : Objects)
    (outcome : Outcome S K) → Runs means given holds sinks objects outcome → CanBeDone given holds
    → NothingRose means given openings sinks outcome → (outcome.status ≡ 0) ⊎ (outcome.status ≡ 8)
runs_done means given holds openings sinks objects outcome runs can none =
    by (mode_of given) runs can.made
  where
    by : (mode : RunMode) → RunsIn mode means given holds sinks objects outcome
        → IfSome (count_of mode) (λ count. count ≤ cap_of given)
        → (outcome.status ≡ 0) ⊎ (outcome.status ≡ 8)
    by (Check directions) checks fits = check_done means given (is_both_ways directions)
        (holds given.queries) openings sinks objects outcome checks none
    by (Generate directions count) generated fits = generated_done means given
        (is_both_ways directions) count (holds given.queries) openings sinks objects outcome
        generated fits none
    by (Streams run) streams fits =
        streams_done means given holds openings sinks objects outcome streams can none
