-- What is known of a run that saved its window.
use Rattle.std.proofs.Common.{◌≡◌, ◌≢◌, ℕ, ◌+◌, Bool, true, false, List, [], ◌∷◌, ◌++◌, length, Option, Some, None}
use Rattle.std.proofs.Common.{refl, sym, ap, ap₂, subst, ◌∙◌, inl, inr}
use Rattle.std.specs.Prelude.{All, Contains, IfSome, is_some, option_map, slice_get, unwrap_or}
use Rattle.std.specs.Io.KnownBytes.{append_known}
use Rattle.std.proofs.lemmas.List.{length-map}
use Rattle.std.proofs.lemmas.Option.{slice_get-map}
use Rattle.join_file.specs.Joins.{JoinValue}
use Rattle.rpq_base.specs.declared.data.Entry.{Entry}
use Rattle.rpq_model.specs.Query.{Query}
use Rattle.rpq_words.specs.Views.{cap_of, streams_of, two_way_of}
use Rattle.stream_tuples.specs.Limits.{byte_limit_of}
use Rattle.tuple_text.specs.Parts.{LineByParts}
use Rattle.tuple_text.specs.Written.{IsStreamTuple}
use Rattle.live_asks.specs.declared.ends.ReaderEnd.{ReaderEnd}
use Rattle.stream_tuples.specs.declared.ends.StreamEnd.{StreamEnd}
use Rattle.stream_tuples.specs.History.{own_tuples}
use Rattle.query_file.specs.Laws.{OneOutcome, OneOutcomeOf}
use Rattle.saved_window.specs.Saved.{saved}
use Rattle.saved_window.specs.SavedText.{saved_text}
use Rattle.saved_window.specs.Then.{left_of_both, faults_of_both}
use Rattle.entry_steps.specs.Steps.{OptionsValue}
use Rattle.rpq_text.specs.declared.ends.SinkName.{SinkName}
use Rattle.rpq_text.specs.declared.ends.SinkName.TheVariants.{Events, Save}
use Rattle.rpq_text.specs.Statuses.{IsStatusOf}
use Rattle.rpq_text.specs.Text.{IsText}
use Rattle.rpq_threads.specs.Written.{Grew}
use Rattle.run_start.specs.Files.{ForQueries, HasQueries, stream_contents}
use Rattle.run_start.specs.Given.{policy_of}
use Rattle.rpq_run.specs.Continued.{StreamRun, IsToldRun}
use Rattle.rpq_run.specs.Headline.{AreJoined, behind_text, stream_texts}
use Rattle.rpq_run.specs.Options.{options_of}
use Rattle.rpq_run.specs.Outcome.{Meanings, ends_of}
use Rattle.rpq_run.specs.RunsStreams.{GotText, IsUnsaved}
use Rattle.rpq_run.specs.Shortage.{is_short_before}
use Rattle.rpq_run.specs.Sources.{stream_sources}
use Rattle.rpq_run.specs.Written.{WritesWhere}
use Rattle.rpq_run.proofs.ContinuedHistories.{IsFromStream, from_streams}
use Rattle.rpq_run.proofs.ContinuedReading.{taken_in_stream}
use Rattle.rpq_run.proofs.ContinuedSettings.{save_is_forwards}
use Rattle.rpq_run.proofs.Done.{stream_at}
use Rattle.rpq_run.proofs.Headlines.{contents_are, from_joined, joins_there}
use Rattle.rpq_run.proofs.Shortages.{NoneShort, never_both, none_short}
use Rattle.rpq_run.proofs.Statuses.{sink_status}

-- the options of a run that takes edges forwards
abbrev pub forwards_with : Bool → List JoinValue → OptionsValue
forwards_with paths joins = record { two_way = false; paths = paths; joins = joins }

-- where the status is that of neither, no write of a sink failed
none_failed : (ends : List StreamEnd) (asked : List ReaderEnd) (failed : List SinkName) (status : ℕ)
    (sink : SinkName) →
    IsStatusOf ends asked failed status → status ≢ 6 → status ≢ 8 → Contains failed sink → ⊥
none_failed ends asked failed status sink is no_write no_memory has =
    elim (sink_status ends asked failed status sink is has) [
      | inl eight ↦ no_memory eight
      | inr six ↦ no_write six
    ]

-- the sink of the saved window, and what it got
sink_there : {K : Type 0} (written : K → Option (List ℕ)) (save : Option K) (window : List ℕ) →
    option_map written save ≡ Some (Some window) → (sink : K) × (save ≡ Some sink) × (written sink ≡ Some window)
sink_there written None window is = absurd (cc is)
sink_there written (Some sink) window is = (sink, refl, cc is)

as_many_texts : (first : List ℕ) (texts : List (List ℕ)) → length texts ≡ length (behind_text first texts)
as_many_texts first [] = refl
as_many_texts first (text ∷ texts) = refl

-- a run that saved these bytes
pub record HasSaved {S K : Type 0} (means : Meanings S K) (run : StreamRun S K) (window : List ℕ) : Type 0 where
  pub forwards : run.told.two_way ≡ false
  pub queries : List Query
  pub has : HasQueries false run.told.queries queries
  pub window_is : window ≡ saved_text (saved queries run.outcome.history)
  pub from_stream : All IsFromStream run.outcome.history
  pub joins : List JoinValue
  pub joined : AreJoined queries run.told.joins joins
  pub text : List ℕ
  pub is_text : IsText (forwards_with run.told.paths joins) queries run.outcome.history text
  pub written : means.written run.sinks.events_new ≡ Some (run.told.events ++ text)

pub has_saved : {S K : Type 0} (means : Meanings S K) (run : StreamRun S K) (window : List ℕ) → OneOutcome → LineByParts →
    IsToldRun means run → run.outcome.status ≢ 6 → run.outcome.status ≢ 8 →
    option_map means.written run.outcome.save ≡ Some (Some window) → HasSaved means run window
has_saved {S} {K} means run window one by_parts is no_write no_memory saved_is = record {
  forwards = sym is.told.two_way ∙ forwards;
  queries = queries;
  has = subst (λ (two_way : Bool). HasQueries two_way run.told.queries queries) forwards saves.1;
  window_is = subst (λ (bytes : Option (List ℕ)). IfSome bytes (λ all. all ≡ saved_text (saved queries history)))
      there.2 (saves.2.whole is_saved (none Save) (never_both is.runs.short.save fine.save));
  from_stream = from_stream;
  joins = joins.0;
  joined = joins.1;
  text = grew.text;
  is_text = subst (λ (options : OptionsValue). IsText options queries history grew.text) options_are grew.of_kind;
  written = grew.written ∙ ap (λ (bytes : Option (List ℕ)). append_known bytes grew.text) is.told.events;
}
  where
    history : List Entry
    history = run.outcome.history

    none : (sink : SinkName) → Contains is.runs.failed sink → ⊥
    none sink = none_failed run.outcome.ends (ends_of run.outcome.readers) is.runs.failed run.outcome.status sink
        is.runs.causes.status_is no_write no_memory

    fine : NoneShort run.outcome.ends (ends_of run.outcome.readers) is.runs.short
    fine = none_short run.outcome.ends (ends_of run.outcome.readers) is.runs.short
        (λ short. no_memory (is.runs.causes.memory.1 short))

    is_saved : IsUnsaved is.runs.failed run.outcome.ends is.runs.short → ⊥
    is_saved (inl failed) = none Events failed
    is_saved (inr before) = never_both (is_short_before run.outcome.ends is.runs.short) fine.before before

    there : (sink : K) × (run.outcome.save ≡ Some sink) × (means.written sink ≡ Some window)
    there = sink_there means.written run.outcome.save window saved_is

    forwards : two_way_of run.given ≡ false
    forwards = save_is_forwards run.given (sym is.runs.saves.sink ∙ ap is_some there.1)

    Got : K → List Query → Type 0
    Got sink all =
        GotText (IsUnsaved is.runs.failed run.outcome.ends is.runs.short) (Contains is.runs.failed Save)
        (is.runs.short.save ≡ true) (saved_text (saved all history)) (means.written sink)

    saves : (all : List Query) × HasQueries (two_way_of run.given) run.told.queries all × Got there.0 all
    saves =
        subst (λ (file : Option (List ℕ)). ForQueries (two_way_of run.given) file (Got there.0)) is.told.queries
        (subst (λ (save : Option K). IfSome save (λ sink.
        ForQueries (two_way_of run.given) (run.holds run.given.queries) (Got sink))) there.1 is.runs.saves.text)

    queries : List Query
    queries = saves.0

    one_of : OneOutcomeOf (two_way_of run.given)
    one_of = subst OneOutcomeOf (sym forwards) one

    joins : (all : List JoinValue) × AreJoined queries run.told.joins all
    joins = joins_there means run.given run.holds run.sinks run.told queries one_of is.told saves.1 is.runs.understood.joins

    Writes : List Query → List JoinValue → Type 0
    Writes all found =
        WritesWhere (Contains is.runs.failed Events) (is.runs.short.engine ≡ true)
        (IsText (options_of run.given found) all history)
        (means.written run.sinks.events_old) (means.written run.sinks.events_new)

    options_are : options_of run.given joins.0 ≡ forwards_with run.told.paths joins.0
    options_are = ap₂ (λ (two_way paths : Bool). record { two_way = two_way; paths = paths; joins = joins.0 }) forwards is.told.paths

    grew : Grew (IsText (options_of run.given joins.0) queries history) (means.written run.sinks.events_old)
        (means.written run.sinks.events_new)
    grew =
        (from_joined means run.given run.holds run.sinks run.told queries joins.0 Writes one_of is.told saves.1 joins.1
        is.runs.events.text).whole (none Events) (never_both is.runs.short.engine fine.engine)

    texts : List (List ℕ)
    texts = stream_texts run.told

    own : (place : ℕ) (text : List ℕ) → slice_get texts place ≡ Some text → All IsStreamTuple (own_tuples (place + 1) history)
    own place text at =
        let file : slice_get (stream_contents run.given run.holds) place ≡ Some (Some text) =
        ap (λ (files : List (Option (List ℕ))). slice_get files place)
        (contents_are run.given run.holds run.told is.told.from is.told.streams)
        ∙ (slice_get-map (λ (bytes : List ℕ). Some bytes) texts place ∙ ap (option_map (λ (bytes : List ℕ). Some bytes)) at) in
        let stream = stream_at (policy_of run.given) (left_of_both means.left) (faults_of_both means.faults) (cap_of run.given)
        (stream_contents run.given run.holds) (stream_sources run.outcome.from run.outcome.sources) history run.outcome.ends
        is.runs.history.each_stream place (Some text) file in
        taken_in_stream (policy_of run.given) by_parts (byte_limit_of (cap_of run.given)) text (left_of_both means.left stream.source) (own_tuples (place + 1) history) stream.end
        stream.stream.tied

    as_many : length (streams_of run.given) ≡ length texts
    as_many =
        sym (length-map (streams_of run.given) run.holds)
        ∙ (ap (λ (files : List (Option (List ℕ))). length files) is.told.streams
        ∙ (length-map run.told.streams (λ (bytes : List ℕ). Some bytes)
        ∙ as_many_texts (unwrap_or run.told.from []) run.told.streams))

    from_stream : All IsFromStream history
    from_stream = from_streams history texts (length (streams_of run.given)) as_many own is.runs.history.no_other
