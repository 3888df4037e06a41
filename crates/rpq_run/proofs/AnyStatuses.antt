-- A run over streams with any status, in one piece.
use Rattle.std.proofs.Common.{◌≡◌, ◌≢◌, ℕ, ◌+◌, Bool, true, false, ◌||◌, List, [], ◌∷◌, ◌++◌, length}
use Rattle.std.proofs.Common.{Option, Some, None, refl, ap, sym, subst, subst₂, ◌∙◌, arith, inl}
use Rattle.std.proofs.Common.{inr, ◌⊎◌}
use Rattle.std.proofs.Common.{append-nil, cond, length-append}
use Rattle.std.specs.Prelude.{IfSome, Contains, filter, is_some, option_map, slice_get}
use Rattle.std.specs.List.{All, AllZip}
use Rattle.std.proofs.lemmas.List.{length-map}
use Rattle.std.proofs.lemmas.Option.{slice_get-map}
use Rattle.std.specs.Io.KnownBytes.{append_known}
use Rattle.rpq_base.specs.declared.data.Entry.{Entry}
use Rattle.rpq_base.specs.declared.data.Tuple.{Tuple}
use Rattle.rpq_io.specs.Counts.{CountsFault}
use Rattle.rpq_model.specs.Query.{Query}
use Rattle.query_file.specs.Laws.{OneOutcome, OneOutcomeOf, OneTwoWayOutcome}
use Rattle.rpq_words.specs.declared.settings.Settings.{Settings}
use Rattle.rpq_words.specs.Views.{cap_of, paths_of, streams_of, two_way_of}
use Rattle.ask_text.specs.Replies.{replies}
use Rattle.stream_tuples.specs.declared.ends.StreamEnd.{StreamEnd}
use Rattle.stream_tuples.specs.declared.ends.StreamEnd.TheVariants.{Whole, Line, LongLine}
use Rattle.stream_tuples.specs.declared.ends.StreamEnd.TheVariants.{LongStream, Read, Faults, Full}
use Rattle.stream_tuples.specs.declared.ends.StreamEnd.TheVariants.{Closed, Memory}
use Rattle.stream_tuples.specs.declared.faults.FaultPolicy.{FaultPolicy}
use Rattle.stream_tuples.specs.History.{AreTuplesOfEnd, IsNumberOf, IsPrefix, ReportsFaults}
use Rattle.stream_tuples.specs.History.{own_tuples, policy_of_sink}
use Rattle.stream_tuples.specs.Limits.{byte_limit_of}
use Rattle.stream_tuples.specs.StreamText.{StreamTuples, tuples_with}
use Rattle.rpq_text.specs.declared.ends.SinkName.{SinkName}
use Rattle.rpq_text.specs.declared.ends.SinkName.TheVariants.{Events, Replies, Save}
use Rattle.rpq_text.specs.Statuses.{AreSomeSinks, all_sinks}
use Rattle.rpq_text.specs.Text.{IsText}
use Rattle.rpq_threads.specs.Runs.{AreSessionsOf, IsLiveOf, asks_answered}
use Rattle.saved_window.specs.Saved.{saved}
use Rattle.saved_window.specs.SavedText.{saved_text}
use Rattle.saved_window.specs.Then.{left_of_both, faults_of_both}
use Rattle.run_start.specs.Files.{HasQueries, ForQueries, stream_contents}
use Rattle.run_start.specs.Given.{policy_of}
use Rattle.run_start.specs.Texts.{reports_within, tuples_within}
use Rattle.rpq_run.specs.AnyStatus.{AnyStatus, IsFrontOf, IsUncut}
use Rattle.rpq_run.specs.Beside.{asks_held}
use Rattle.rpq_run.specs.Failed.{failed_sinks}
use Rattle.rpq_run.specs.Headline.{Told, IsTold, stream_texts}
use Rattle.rpq_run.specs.Options.{options_of}
use Rattle.rpq_run.specs.Outcome.{Meanings, Sinks, Objects, Outcome, ends_of}
use Rattle.rpq_run.specs.Replies.{texts_of}
use Rattle.rpq_run.specs.RunsStreams.{GotText, IsUnsaved, RunsStreams, nothing_told}
use Rattle.rpq_run.specs.Shortage.{has_memory_end, has_short_reader, is_short_before}
use Rattle.rpq_run.specs.Sources.{stream_sources}
use Rattle.rpq_run.specs.Written.{WritesWhere}
use Rattle.rpq_run.proofs.Done.{as_many_streams, stream_at}
use Rattle.rpq_run.proofs.Headlines.{are_there, contents_are, either_way, from_asked, from_joined}
use Rattle.rpq_run.proofs.Headlines.{from_queries, joins_there, telling}
use Rattle.rpq_run.proofs.Shortages.{NoneShort, either, never_both, none_short, not_so}
use Rattle.rpq_run.proofs.Sinks.{events_in, in_events, in_replies, in_save, replies_in, save_in}
use Rattle.rpq_run.proofs.Statuses.{sink_status}
use Rattle.rpq_run.proofs.Telling.{front_told}

-- ---- which writes failed

-- some of the sinks, by which of them are chosen
chosen_sinks : (chosen : SinkName → Bool)
    → filter chosen all_sinks ≡ failed_sinks (chosen Events) (chosen Replies) (chosen Save)
chosen_sinks chosen = by (chosen Events) (chosen Replies) (chosen Save)
  where
    by : (events replies save : Bool)
        → cond events (Events ∷ cond replies (Replies ∷ cond save (Save ∷ []) [])
        (cond save (Save ∷ []) []))
        (cond replies (Replies ∷ cond save (Save ∷ []) []) (cond save (Save ∷ []) []))
        ≡ failed_sinks events replies save
    by true true true = refl
    by true true false = refl
    by true false true = refl
    by true false false = refl
    by false true true = refl
    by false true false = refl
    by false false true = refl
    by false false false = refl

-- something is so, or it isn't
abbrev IsDecided : Type 0 → Type 0
IsDecided P = P ⊎ (P → ⊥)

decided : (b : Bool) (P : Type 0) → (b ≡ true → P) → (P → b ≡ true) → IsDecided P
decided true P there back = inl (there refl)
decided false P there back = inr (λ p. never_both false refl (back p))

told_or_not : (events replies save : Bool) (sink : SinkName)
    → IsDecided (Contains (failed_sinks events replies save) sink)
told_or_not events replies save Events =
    decided events (Contains (failed_sinks events replies save) Events)
    (events_in events replies save) (in_events events replies save)
told_or_not events replies save Replies =
    decided replies (Contains (failed_sinks events replies save) Replies)
    (replies_in events replies save) (in_replies events replies save)
told_or_not events replies save Save =
    decided save (Contains (failed_sinks events replies save) Save)
    (save_in events replies save) (in_save events replies save)

failed_or_not : (failed : List SinkName) (sink : SinkName) → AreSomeSinks failed
    → IsDecided (Contains failed sink)
failed_or_not failed sink once = subst (λ (fs : List SinkName). IsDecided (Contains fs sink))
    (sym {A = List SinkName} (once.1 ∙ chosen_sinks once.0))
    (told_or_not (once.0 Events) (once.0 Replies) (once.0 Save) sink)

-- a count that changed shows that one did
failed_by : (P : Type 0) (before after : ℕ) → IsDecided P → CountsFault P before after
    → after ≢ before → P
failed_by P before after (inl p) counts changed = p
failed_by P before after (inr none) counts changed = absurd (changed (counts.quiet none))

-- ---- fronts of a stream

-- of which no read failed, where the history has at most so many entries
front_taken : (policy : FaultPolicy) (cap : ℕ) (text : List ℕ) (left : Option (List ℕ)) (tuples : List Tuple)
    (end : StreamEnd) → (end ≡ Read → ⊥)
    → AreTuplesOfEnd policy (byte_limit_of cap) text left tuples end
    → IsPrefix tuples (tuples_within policy cap text).tuples
front_taken policy cap text left tuples end read tied = by end read tied
  where
    all_taken : (last : StreamEnd) → tuples_within policy cap text ≡ tuples_with tuples last
        → IsPrefix tuples (tuples_within policy cap text).tuples
    all_taken last is = record {
      rest = [];
      cut = ap (λ (ts : StreamTuples). ts.tuples) is ∙ sym (append-nil tuples);
    }

    by : (e : StreamEnd) → (e ≡ Read → ⊥)
        → AreTuplesOfEnd policy (byte_limit_of cap) text left tuples e
        → IsPrefix tuples (tuples_within policy cap text).tuples
    by Whole read tied = all_taken Whole tied.0
    by (Line number fault) read tied = all_taken (Line number fault) tied
    by (LongLine number) read tied = all_taken (LongLine number) tied
    by LongStream read tied = all_taken LongStream tied
    by Read read tied = absurd (read refl)
    by Faults read tied = tied
    by Full read tied = record { rest = tied.rest; cut = tied.cut }
    by (Closed why) read tied = record { rest = tied.rest; cut = tied.cut }
    by Memory read tied = tied

-- ---- fronts of a text

-- what was written of a text, by whether a write failed, and whether memory ran out for it
record IsFront (failed short : Type 0) (text front : List ℕ) : Type 0 where
  prefix : IsPrefix front text
  whole : (failed → ⊥) → (short → ⊥) → front ≡ text
  cut : failed → front ≢ text

not_all : (text front rest : List ℕ) → text ≡ front ++ rest → rest ≢ [] → front ≢ text
not_all text front [] cut proper = absurd (proper refl)
not_all text front (byte ∷ rest) cut proper = λ same. absurd (omega (
  arith,
  ap (λ (bytes : List ℕ). length bytes) cut,
  length-append front (byte ∷ rest),
  ap (λ (bytes : List ℕ). length bytes) same,
))

-- what was written behind these bytes
record WroteFront (failed short : Type 0) (IsKind : List ℕ → Type 0) (old : List ℕ)
    (after : Option (List ℕ)) : Type 0 where
  text : List ℕ
  of_kind : IsKind text
  front : List ℕ
  written : after ≡ Some (old ++ front)
  fronts : IsFront failed short text front

wrote_front : (failed short : Type 0) (IsKind : List ℕ → Type 0) (old : List ℕ)
    (before after : Option (List ℕ)) → before ≡ Some old
    → WritesWhere failed short IsKind before after → IsDecided failed → IsDecided short
    → WroteFront failed short IsKind old after
wrote_front failed short IsKind old before after is writes (inl has) lacks =
    let part = writes.part has in
    record {
      text = part.front ++ part.rest;
      of_kind = part.of_kind;
      front = part.front;
      written = part.written ∙ ap (λ (w : Option (List ℕ)). append_known w part.front) is;
      fronts = record {
        prefix = record { rest = part.rest; cut = refl };
        whole = λ none fine. absurd (none has);
        cut = λ _. not_all (part.front ++ part.rest) part.front part.rest refl part.proper;
      };
    }
wrote_front failed short IsKind old before after is writes (inr none) (inl lack) =
    let part = writes.prefix in
    record {
      text = part.front ++ part.rest;
      of_kind = part.of_kind;
      front = part.front;
      written = part.written ∙ ap (λ (w : Option (List ℕ)). append_known w part.front) is;
      fronts = record {
        prefix = record { rest = part.rest; cut = refl };
        whole = λ _ fine. absurd (fine lack);
        cut = λ has. absurd (none has);
      };
    }
wrote_front failed short IsKind old before after is writes (inr none) (inr fine) =
    let all = writes.whole none fine in
    record {
      text = all.text;
      of_kind = all.of_kind;
      front = all.text;
      written = all.written ∙ ap (λ (w : Option (List ℕ)). append_known w all.text) is;
      fronts = record {
        prefix = record { rest = []; cut = sym (append-nil all.text) };
        whole = λ _ _. refl;
        cut = λ has. absurd (none has);
      };
    }

-- what was written on a new sink
new_front : (failed short : Type 0) (text bytes : List ℕ)
    → WritesWhere failed short (λ t. t ≡ text) (Some []) (Some bytes)
    → IsDecided failed → IsDecided short → IsFront failed short text bytes
new_front failed short text bytes writes failing lacking =
    let wrote = wrote_front failed short (λ t. t ≡ text) [] (Some []) (Some bytes) refl writes
    failing lacking in
    let is : ◌≡◌ {A = Option (List ℕ)} (Some bytes) (Some wrote.front) = wrote.written in
    let same : wrote.front ≡ bytes = cc is in
    subst₂ (λ (all front : List ℕ). IsFront failed short all front) wrote.of_kind same wrote.fronts

-- ---- all of it

no_one : {A : Type 0} (one : Option A) → is_some one ≡ false → one ≡ None
no_one None none = refl
no_one (Some x) none = absurd (cc none)

module _ {S K : Type 0} (means : Meanings S K) (given : Settings)
    (holds : List ℕ → Option (List ℕ)) (sinks : Sinks K) (objects : Objects)
    (outcome : Outcome S K) (told : Told) (one : OneOutcomeOf (two_way_of given))
    (runs : RunsStreams means given holds sinks objects outcome)
    (is : IsTold means given holds sinks told) where
  -- which writes failed
  failing : (sink : SinkName) → IsDecided (Contains runs.failed sink)
  failing sink = failed_or_not runs.failed sink runs.causes.once

  lacking : (short : Bool) → IsDecided (short ≡ true)
  lacking short = decided short (short ≡ true) (λ is. is) (λ is. is)

  -- none did, and memory didn't run out, where nothing was cut
  no_failure : IsUncut outcome.status → (sink : SinkName) → Contains runs.failed sink → ⊥
  no_failure uncut sink has =
      elim (sink_status outcome.ends (ends_of outcome.readers) runs.failed outcome.status sink
      runs.causes.status_is has) [
        | inl eight ↦ uncut.1 eight
        | inr six ↦ uncut.0 six
      ]

  no_shortage_in : IsUncut outcome.status
      → NoneShort outcome.ends (ends_of outcome.readers) runs.short
  no_shortage_in uncut = none_short outcome.ends (ends_of outcome.readers) runs.short
      (λ short. uncut.1 (runs.causes.memory.1 short))

  -- a failed write of the window isn't told as want of memory, unless it ran out for a reader
  window_write : has_short_reader (ends_of outcome.readers) ≡ false → Contains runs.failed Save
      → outcome.status ≡ 6
  window_write fine has =
      elim (sink_status outcome.ends (ends_of outcome.readers) runs.failed outcome.status Save
      runs.causes.status_is has) [
        | inl eight ↦ absurd (elim (either (is_short_before outcome.ends runs.short
            || runs.short.save) (has_short_reader (ends_of outcome.readers))
            (runs.causes.memory.0 eight)) [
              | inl run ↦ elim (either (is_short_before outcome.ends runs.short)
                  runs.short.save run) [
                    | inl before ↦ runs.saves.tried (inl has) (inr before)
                    | inr short ↦ runs.saves.apart has short
                  ]
              | inr reader ↦ never_both (has_short_reader (ends_of outcome.readers)) fine reader
            ])
        | inr six ↦ six
      ]

  -- a front of the replies
  replied_in : (text : List ℕ) (kept : Option K) → IfSome kept (λ sink.
      WritesWhere (Contains runs.failed Replies) (runs.short.replies ≡ true) (λ t. t ≡ text)
      (nothing_told (means.written sink)) (means.written sink))
      → IfSome kept (λ sink. CountsFault (Contains runs.failed Replies) 0 (means.failures sink))
      → IfSome kept (λ sink. IfSome (means.written sink)
      (IsFrontOf (means.failures sink ≢ 0) (IsUncut outcome.status) runs.short.replies text))
  replied_in text None writes counts = tt
  replied_in text (Some sink) writes counts =
      by (means.written sink) writes
    where
      by : (now : Option (List ℕ)) → WritesWhere (Contains runs.failed Replies)
          (runs.short.replies ≡ true) (λ t. t ≡ text) (nothing_told now) now
          → IfSome now
          (IsFrontOf (means.failures sink ≢ 0) (IsUncut outcome.status) runs.short.replies text)
      by None wrote = tt
      by (Some bytes) wrote =
          let front = new_front (Contains runs.failed Replies) (runs.short.replies ≡ true) text
          bytes wrote (failing Replies) (lacking runs.short.replies) in
          let has = failed_by (Contains runs.failed Replies) 0 (means.failures sink)
          (failing Replies) counts in
          record {
            prefix = front.prefix;
            whole = λ uncut. front.whole (no_failure uncut Replies)
                (never_both runs.short.replies (no_shortage_in uncut).replies);
            cut = λ changed. front.cut (has changed);
            apart = λ changed. not_so runs.short.replies (wrote.apart (has changed));
          }

  -- a front of the window
  abbrev GotWindow : List Query → K → Type 0
  GotWindow queries sink = GotText (IsUnsaved runs.failed outcome.ends runs.short)
      (Contains runs.failed Save) (runs.short.save ≡ true)
      (saved_text (saved queries outcome.history)) (means.written sink)

  is_saved : IsUncut outcome.status → IsUnsaved runs.failed outcome.ends runs.short → ⊥
  is_saved uncut (inl has) = no_failure uncut Events has
  is_saved uncut (inr before) = never_both (is_short_before outcome.ends runs.short)
      (no_shortage_in uncut).before before

  saved_in : (queries : List Query) (kept : Option K) → IfSome kept (GotWindow queries)
      → IfSome kept (λ sink. CountsFault (Contains runs.failed Save) 0 (means.failures sink))
      → IfSome kept (λ sink. IfSome (means.written sink)
      (IsFrontOf (means.failures sink ≢ 0) (IsUncut outcome.status) runs.short.save
      (saved_text (saved queries outcome.history))))
  saved_in queries None got counts = tt
  saved_in queries (Some sink) got counts = by (means.written sink) got
    where
      by : (now : Option (List ℕ)) → GotText (IsUnsaved runs.failed outcome.ends runs.short)
          (Contains runs.failed Save) (runs.short.save ≡ true)
          (saved_text (saved queries outcome.history)) now
          → IfSome now (IsFrontOf (means.failures sink ≢ 0) (IsUncut outcome.status)
          runs.short.save (saved_text (saved queries outcome.history)))
      by None window = tt
      by (Some bytes) window =
          let has = failed_by (Contains runs.failed Save) 0 (means.failures sink)
          (failing Save) counts in
          record {
            prefix = window.prefix;
            whole = λ uncut. window.whole (is_saved uncut) (no_failure uncut Save)
                (never_both runs.short.save (no_shortage_in uncut).save);
            cut = λ changed.
                let part = window.part (has changed) in
                not_all (saved_text (saved queries outcome.history)) bytes part.rest part.cut
                part.proper;
            apart = λ changed. not_so runs.short.save (runs.saves.apart (has changed));
          }

  -- nothing of it, where a stream ended for want of memory
  none_in : (queries : List Query) (kept : Option K) → has_memory_end outcome.ends ≡ true
      → IfSome kept (GotWindow queries)
      → IfSome kept (λ sink. IfSome (means.written sink) (λ bytes. bytes ≡ []))
  none_in queries None ended got = tt
  none_in queries (Some sink) ended got = got.none (inr (ap (λ (b : Bool).
      b || (runs.short.engine || (runs.short.session || runs.short.replies))) ended))

  -- and its status, where a write of it failed
  write_in : has_short_reader (ends_of outcome.readers) ≡ false → (kept : Option K)
      → IfSome kept (λ sink. CountsFault (Contains runs.failed Save) 0 (means.failures sink))
      → IfSome kept (λ sink. means.failures sink ≢ 0 → outcome.status ≡ 6)
  write_in fine None counts = tt
  write_in fine (Some sink) counts = λ changed.
      window_write fine (failed_by (Contains runs.failed Save) 0 (means.failures sink) (failing Save)
      counts changed)

  -- the tuples of a stream of which no read failed
  file_at : (place : ℕ) (text : List ℕ) → slice_get (stream_texts told) place ≡ Some text
      → slice_get (stream_contents given holds) place ≡ Some (Some text)
  file_at place text at =
      ap (λ (fs : List (Option (List ℕ))). slice_get fs place)
      (contents_are given holds told is.from is.streams)
      ∙ (slice_get-map (λ (bytes : List ℕ). Some bytes) (stream_texts told) place
      ∙ ap (option_map (λ (bytes : List ℕ). Some bytes)) at)

  in_order_in : (place : ℕ) (text : List ℕ) → slice_get (stream_texts told) place ≡ Some text
      → slice_get outcome.ends place ≢ Some Read
      → IsPrefix (own_tuples (place + 1) outcome.history)
      (tuples_within told.policy told.limit text).tuples
  in_order_in place text at read =
      let stream = stream_at (policy_of given) (left_of_both means.left)
      (faults_of_both means.faults) (cap_of given) (stream_contents given holds)
      (stream_sources outcome.from outcome.sources) outcome.history outcome.ends
      runs.history.each_stream place (Some text) (file_at place text at) in
      subst₂ (λ (policy : FaultPolicy) (cap : ℕ).
      IsPrefix (own_tuples (place + 1) outcome.history) (tuples_within policy cap text).tuples)
      is.policy is.limit
      (front_taken (policy_of given) (cap_of given) text (left_of_both means.left stream.source)
      (own_tuples (place + 1) outcome.history) stream.end
      (λ failed. read (stream.end_is ∙ ap (λ (end : StreamEnd). Some end) failed))
      stream.stream.tied)

  -- and what is told of its faulty lines
  reported_in : (place : ℕ) (text : List ℕ) (sink : K)
      → slice_get (stream_texts told) place ≡ Some text
      → slice_get outcome.ends place ≢ Some Read
      → slice_get outcome.faults place ≡ Some (Some sink)
      → IfSome (means.written sink) (λ bytes. IsPrefix bytes (reports_within told.limit text))
  reported_in place text sink at read there =
      let file = file_at place text at in
      let stream = stream_at (policy_of given) (left_of_both means.left)
      (faults_of_both means.faults) (cap_of given) (stream_contents given holds)
      (stream_sources outcome.from outcome.sources) outcome.history outcome.ends
      runs.history.each_stream place (Some text) file in
      subst (λ (cap : ℕ).
      IfSome (means.written sink) (λ bytes. IsPrefix bytes (reports_within cap text))) is.limit
      (by (means.written sink) (left_of_both means.left stream.source) stream.end
      (λ failed. read (stream.end_is ∙ ap (λ (end : StreamEnd). Some end) failed))
      (runs.faults.each_stream.each place (Some text) stream.source sink stream.end file
      stream.source_is there stream.end_is).tied)
    where
      by : (now left : Option (List ℕ)) (end : StreamEnd) → (end ≡ Read → ⊥)
          → IfSome now (λ bytes. ReportsFaults (byte_limit_of (cap_of given)) text left
          (own_tuples (place + 1) outcome.history) bytes end)
          → IfSome now (λ bytes. IsPrefix bytes (reports_within (cap_of given) text))
      by None left end read told = tt
      by (Some bytes) left end read told = front_told (byte_limit_of (cap_of given)) text left
          (own_tuples (place + 1) outcome.history) bytes end read told

  as_many : length (streams_of given) ≡ length told.streams
  as_many = sym (length-map (streams_of given) holds)
      ∙ (ap (λ (fs : List (Option (List ℕ))). length fs) is.streams
      ∙ length-map told.streams (λ (bytes : List ℕ). Some bytes))

  -- what is wanted of the files
  window_of : (queries : List Query) → HasQueries (two_way_of given) told.queries queries
      → (kept : Option K) → IfSome kept (λ sink.
      ForQueries (two_way_of given) (holds given.queries) (λ all. GotWindow all sink))
      → IfSome kept (GotWindow queries)
  window_of queries has None got = tt
  window_of queries has (Some sink) got =
      from_queries (two_way_of given) one (holds given.queries) told.queries queries
      (λ all. GotWindow all sink) is.queries has got

  any_status_of : AnyStatus means (telling (two_way_of given) (paths_of given) told) sinks outcome
  any_status_of =
      let there = are_there means given holds sinks told is runs.understood.asks in
      let found = joins_there means given holds sinks told there.queries one is there.has
      runs.understood.joins in
      let IsKind = IsText (options_of given found.0) there.queries outcome.history in
      let writes = from_joined means given holds sinks told there.queries found.0
      (λ queries joins. WritesWhere (Contains runs.failed Events) (runs.short.engine ≡ true)
      (IsText (options_of given joins) queries outcome.history)
      (means.written sinks.events_old) (means.written sinks.events_new)) one is there.has found.1
      runs.events.text in
      let wrote = wrote_front (Contains runs.failed Events) (runs.short.engine ≡ true) IsKind
      told.events (means.written sinks.events_old) (means.written sinks.events_new) is.events
      writes (failing Events) (lacking runs.short.engine) in
      let has = failed_by (Contains runs.failed Events) (means.failures sinks.events_old)
      (means.failures sinks.events_new) (failing Events) runs.causes.events_failed in
      let window = window_of there.queries there.has outcome.save runs.saves.text in
      record {
        queries = there.queries;
        accepted = there.has;
        joins = found.0;
        joined = found.1;
        sessions = there.sessions;
        asked = there.asked;
        in_order = in_order_in;
        no_other = subst (λ n. All (λ (e : Entry). IsNumberOf n e.stream) outcome.history) as_many
            runs.history.no_other;
        few = omega (arith, runs.history.few, is.limit);
        whole = λ capped. runs.history.whole (is.endless ∙ capped);
        as_many = runs.faults.each_stream.as_many ∙ (as_many_streams given holds ∙ as_many);
        faults_there = subst (λ (policy : FaultPolicy).
            All (λ (sink : Option K). policy_of_sink sink ≡ policy) outcome.faults) is.policy
            runs.faults.each_stream.there;
        reported = reported_in;
        short = runs.short;
        memory = runs.causes.memory;
        text = wrote.text;
        of_history = wrote.of_kind;
        front = wrote.front;
        written = wrote.written;
        events = record {
          prefix = wrote.fronts.prefix;
          whole = λ uncut. wrote.fronts.whole (no_failure uncut Events)
              (never_both runs.short.engine (no_shortage_in uncut).engine);
          cut = λ changed. wrote.fronts.cut (has changed);
          apart = λ changed. not_so runs.short.engine (writes.apart (has changed));
        };
        last = runs.replies.last;
        within = runs.replies.within;
        at_end = λ uncut. elim runs.replies.at_end [
          | inl all ↦ all
          | inr other ↦ elim other [
            | inl failed ↦ absurd (no_failure uncut Events failed)
            | inr engine ↦
                absurd (never_both runs.short.engine (no_shortage_in uncut).engine engine)
          ]
        ];
        readers = from_asked means given holds sinks told there.queries there.sessions
            (λ queries asked. AreSessionsOf queries outcome.history runs.replies.last asked
            outcome.sessions) one is there.has there.asked runs.replies.sessions;
        all_answered = λ uncut. from_asked means given holds sinks told there.queries
            there.sessions (λ queries asked. asks_answered outcome.sessions ≡ asked) one is
            there.has there.asked (runs.replies.all (no_shortage_in uncut).session);
        replied = replied_in (replies (texts_of outcome.sessions)) outcome.replies
            runs.replies.text runs.causes.replies_failed;
        beside = subst (λ (files : List (Option (List ℕ))).
            AllZip (IsLiveOf means.left means.faults means.written means.failures there.queries
            outcome.history runs.replies.last) files outcome.readers) is.readers
            (from_queries (two_way_of given) one (holds given.queries) told.queries there.queries
            (λ queries. AllZip (IsLiveOf means.left means.faults means.written means.failures queries
            outcome.history runs.replies.last) (asks_held given holds) outcome.readers) is.queries
            there.has runs.readers.each);
        saved_is = saved_in there.queries outcome.save window runs.causes.save_failed;
        none_saved = λ ended. none_in there.queries outcome.save ended window;
        window_failed = λ fine. write_in fine outcome.save runs.causes.save_failed;
        no_replies = λ none. runs.replies.no_sink
            (no_one outcome.replies (runs.replies.sink ∙ (is.replies ∙ none)));
        no_window = λ none. runs.saves.no_sink
            (no_one outcome.save (runs.saves.sink ∙ (is.save ∙ none)));
      }

-- and as it is told
pub any_status_holds : {S K : Type 0} (means : Meanings S K) (given : Settings)
    (holds : List ℕ → Option (List ℕ)) (sinks : Sinks K) (objects : Objects) (outcome : Outcome S K)
    (told : Told) → OneOutcome → OneTwoWayOutcome
    → RunsStreams means given holds sinks objects outcome
    → IsTold means given holds sinks told → AnyStatus means told sinks outcome
any_status_holds means given holds sinks objects outcome told one other runs is =
    subst (λ (all : Told). AnyStatus means all sinks outcome)
    (λ i. telling (is.two_way i) (is.paths i) told)
    (any_status_of means given holds sinks objects outcome told
    (either_way one other (two_way_of given)) runs is)
