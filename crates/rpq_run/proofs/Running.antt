-- What the run over streams does.
use Rattle.std.proofs.Common.{◌≡◌, ℕ, Bool, true, false, List, [], length, Option, Some, None}
use Rattle.std.proofs.Common.{Result, Ok, refl, ap, sym, subst, subst₂, ◌∙◌, arith, inl, inr, ◌⊎◌}
use Rattle.std.specs.Prelude.{◌<◌, ◌↔◌, ◌||◌, IfSome, MatchOption, Contains, is_some, map, slice_get}
use Rattle.std.specs.Global.{Vec}
use Rattle.std.specs.List.{All, AllZip}
use Rattle.std.proofs.lemmas.List.{length-map}
use Rattle.std.proofs.lemmas.Slice.Zip.{AllZip-long}
use Rattle.rpq_base.specs.declared.data.Entry.{Entry}
use Rattle.rpq_io.specs.Counts.{CountsFault}
use Rattle.rpq_io.specs.Files.{IsNewSink}
use Rattle.rpq_io.specs.Reader.{ReaderState}
use Rattle.rpq_io.proofs.Counting.{counts_none}
use Rattle.rpq_model.specs.Query.{Query}
use Rattle.join_file.specs.FileLaws.{JoinsAreSound}
use Rattle.join_file.specs.Joins.{JoinValue}
use Rattle.join_file.specs.Sound.{IsSound}
use Rattle.rpq_words.specs.declared.settings.Settings.{Settings}
use Rattle.rpq_words.specs.declared.reader_names.ReaderFiles.{ReaderFiles}
use Rattle.rpq_words.specs.Views.{asks_of, cap_of, from_of, joins_of, readers_of, streams_of}
use Rattle.rpq_words.specs.Views.{two_way_of}
use Rattle.live_asks.specs.declared.ends.ReaderEnd.{ReaderEnd}
use Rattle.live_asks.specs.declared.ends.ReaderEnd.TheVariants as reader
use Rattle.live_asks.specs.declared.reader.AskReader.{AskReader}
use Rattle.live_asks.specs.declared.reader.ReaderOutcome.{ReaderOutcome}
use Rattle.history_model.specs.declared.line.Why.{Why}
use Rattle.history_model.specs.declared.line.Why.TheVariants.{Write, Memory}
use Rattle.stream_tuples.specs.declared.faults.FaultPolicy.{FaultPolicy}
use Rattle.stream_tuples.specs.History.{IsNumberOf, AreReportedOf, AreStreamsOf, policy_of_sinks}
use Rattle.ask_text.specs.declared.ask.Ask.{Ask}
use Rattle.ask_text.specs.Answered.{AnsweredValue}
use Rattle.ask_text.specs.Replies.{replies}
use Rattle.rpq_text.specs.Definitions.{definitions_of}
use Rattle.rpq_text.specs.declared.ends.SinkName.{SinkName}
use Rattle.rpq_text.specs.declared.ends.SinkName.TheVariants.{Events, Replies, Save}
use Rattle.rpq_text.specs.ErrorLines.{run_lines}
use Rattle.entry_steps.specs.Laws.{FrontsHoldAnswers, FrontsHoldBindings}
use Rattle.rpq_text.specs.Statuses.{IsStatusOf}
use Rattle.entry_steps.specs.Steps.{OptionsValue}
use Rattle.rpq_text.specs.Text.{IsText}
use Rattle.saved_window.specs.Saved.{saved}
use Rattle.saved_window.specs.SavedText.{saved_text}
use Rattle.saved_window.specs.Then.{TwoSources, count_of, left_of_both, faults_of_both}
use Rattle.run_start.specs.Files.{HasJoins, HasQueries, HasSessions, IsQueriesFile, ForQueries}
use Rattle.run_start.specs.Files.{ForJoins, ForJoined, ForSessions, ForAsked, from_content}
use Rattle.run_start.specs.Files.{stream_contents}
use Rattle.run_start.specs.Given.{policy_of}
use Rattle.run_start.proofs.Modes.{same_policy}
use Rattle.run_start.specs.declared.sinks.OwnSinks.{OwnSinks}
use Rattle.standing.specs.Circles.{Parts, as_seen}
use Rattle.standing.specs.Objects.{ObjectValue}
use Rattle.rpq_threads.specs.declared.task.RunOutcome.{RunOutcome as ThreadsOutcome}
use Rattle.rpq_threads.specs.declared.task.Task.{Task}
use Rattle.rpq_threads.specs.Runs.{AreSessionsOf, HasAnswered, Holds, IsLiveOf, asks_answered}
use Rattle.rpq_threads.specs.Runs.{asks_files, stream_files}
use Rattle.rpq_threads.specs.Told.{TellsObjects}
use Rattle.rpq_run.specs.declared.fault.TextFault.{TextFault}
use Rattle.rpq_run.specs.Asked.{IsAsked}
use Rattle.rpq_run.specs.Beside.{AnswersReaders, CountsReader, asks_held}
use Rattle.rpq_run.specs.Ending.{KeepsParts, SavesIfThere, failed_of, is_left_out, shortage_of}
use Rattle.rpq_run.specs.declared.report.Report.{Report}
use Rattle.rpq_run.specs.Failed.{is_failed, is_memory, is_write, lacks_memory}
use Rattle.rpq_run.specs.Options.{options_of}
use Rattle.rpq_run.specs.Shortage.{Shortage, has_memory_end, is_short, is_short_before}
use Rattle.rpq_run.specs.Sources.{stream_sources}
use Rattle.rpq_run.specs.declared.streams.WrittenTexts.{WrittenTexts}
use Rattle.rpq_run.specs.Outcome.{Meanings, Sinks, Objects, Outcome, ends_of, objects, outcome}
use Rattle.rpq_run.specs.Parts.{WritesIfThere}
use Rattle.rpq_run.specs.Replies.{texts_of}
use Rattle.rpq_run.specs.RunsCheck.{LeavesObjects}
use Rattle.rpq_run.specs.RunsStreams.{HoldsStreams, WritesEvents, AnswersSessions, TellsHistory}
use Rattle.rpq_run.specs.RunsStreams.{GotText, RunsStreams, SavesWindow, FrontsBind, FrontsHold}
use Rattle.rpq_run.specs.RunsStreams.{IsUnsaved, WritesFaults, nothing_told}
use Rattle.rpq_run.specs.Written.{TellsLines, WritesWhere}
use Rattle.rpq_run.proofs.Beside.{all_second, contains_at, end_at}
use Rattle.rpq_run.proofs.Done.{all_at, all_by}
use Rattle.rpq_run.proofs.Sinks.{some_sinks, in_replies, in_save, events_in, is_write_some}
use Rattle.rpq_run.proofs.Sinks.{events_written, events_counted, in_events}
use Rattle.rpq_run.proofs.Sinks.{replies_in, save_in, text_counted}
use Rattle.rpq_run.proofs.Sinks.{text_written}
use Rattle.rpq_run.proofs.Shortages.{either, left_out_by, neither, never_both, one_fault}
use Rattle.rpq_run.proofs.Shortages.{short_by_engine, short_by_reader}
use Rattle.rpq_run.proofs.Statuses.{short_at}
use Rattle.rpq_run.proofs.Windows.{as_many_contents, none_lacking, none_written, same_sink}
use Rattle.rpq_run.proofs.Windows.{there_by_count}
use Rattle.rpq_run.proofs.Windows.{window_unwritten, window_written}

-- ---- what is asked

-- what holds of the queries that a file gives
pub for_queries : (two_way : Bool) (file : Option (List ℕ)) (queries : List Query)
    (P : List Query → Type 0) → IfSome file (λ bytes. HasQueries two_way bytes queries) → P queries
    → ForQueries two_way file P
for_queries two_way None queries P is holds = tt
for_queries two_way (Some bytes) queries P is holds = (queries, is, holds)

pub is_queries_file : (two_way : Bool) (file : Option (List ℕ)) (queries : List Query)
    → IfSome file (λ bytes. HasQueries two_way bytes queries) → IsQueriesFile two_way file
is_queries_file two_way None queries is = tt
is_queries_file two_way (Some bytes) queries is = (queries, is)

-- the joins are none, or those of a joins file over these queries
abbrev pub AreFrom : List Query → List JoinValue → Type 0
AreFrom queries joins = (joins ≡ []) ⊎ ((bytes : List ℕ) × HasJoins queries bytes joins)

-- what holds of the joins that a file gives, by what is known of them
pub for_joins : (given : Settings) (holds : List ℕ → Option (List ℕ)) (queries : List Query)
    (P Q : List JoinValue → Type 0)
    → ((found : List JoinValue) → AreFrom queries found → P found → Q found)
    → ForJoins given holds queries P → ForJoins given holds queries Q
for_joins given holds queries P Q step told = by (joins_of given) told
  where
    by_file : (file : Option (List ℕ))
        → IfSome file (λ bytes. (found : List JoinValue) × HasJoins queries bytes found × P found)
        → IfSome file (λ bytes. (found : List JoinValue) × HasJoins queries bytes found × Q found)
    by_file None told = tt
    by_file (Some bytes) (found, has, p) = (found, has, step found (inr (bytes, has)) p)

    by : (named : Option (List ℕ))
        → MatchOption named (P []) (λ name. IfSome (holds name)
        (λ bytes. (found : List JoinValue) × HasJoins queries bytes found × P found))
        → MatchOption named (Q []) (λ name. IfSome (holds name)
        (λ bytes. (found : List JoinValue) × HasJoins queries bytes found × Q found))
    by None p = step [] (inl refl) p
    by (Some name) told = by_file (holds name) told

-- what holds of the queries and the joins
pub for_joined : (given : Settings) (holds : List ℕ → Option (List ℕ)) (queries : List Query)
    (P : List JoinValue → Type 0) (Q : List Query → List JoinValue → Type 0)
    → IfSome (holds given.queries) (λ bytes. HasQueries (two_way_of given) bytes queries)
    → ((found : List JoinValue) → AreFrom queries found → P found → Q queries found)
    → ForJoins given holds queries P → ForJoined given holds Q
for_joined given holds queries P Q has step told =
    for_queries (two_way_of given) (holds given.queries) queries
    (λ all. ForJoins given holds all (Q all)) has
    (for_joins given holds queries P (Q queries) step told)

-- going through the changes of their bindings leaves the bindings
fronts_bind : JoinsAreSound → FrontsHoldBindings → (queries : List Query) (joins : List JoinValue)
    (history : List Entry) → AreFrom queries joins → FrontsBind queries joins history
fronts_bind sound law queries joins history (inl none) = λ number join changes here.
    let no : slice_get [] number ≡ Some join =
    sym (ap (λ (all : List JoinValue). slice_get all number) none) ∙ here in
    absurd (cc no)
fronts_bind sound law queries joins history (inr file) = λ number join changes here are.
    let each = sound queries file.0 joins file.1.1 in
    law queries joins number join history changes here
    (all_at (IsSound (length queries)) joins number join each.1 here)
    (all_at (λ (one : JoinValue). 0 < one.variables) joins number join each.2 here) are

-- what holds of the sessions that a file gives
pub for_sessions : (given : Settings) (holds : List ℕ → Option (List ℕ)) (queries : List Query)
    (sessions : List (List Ask)) (P : List (List Ask) → Type 0)
    → ForSessions given holds queries (λ asked. sessions ≡ asked) → P sessions
    → ForSessions given holds queries P
for_sessions given holds queries sessions P are p = by (asks_of given) are
  where
    by_file : (file : Option (List ℕ))
        → IfSome file (λ bytes. (asked : List (List Ask)) × HasSessions queries bytes asked
        × (sessions ≡ asked))
        → IfSome file (λ bytes. (asked : List (List Ask)) × HasSessions queries bytes asked
        × P asked)
    by_file None told = tt
    by_file (Some bytes) (asked, has, same) = (asked, has, subst P same p)

    by : (asks : Option (List ℕ))
        → MatchOption asks (sessions ≡ []) (λ name. IfSome (holds name)
        (λ bytes. (asked : List (List Ask)) × HasSessions queries bytes asked × (sessions ≡ asked)))
        → MatchOption asks (P []) (λ name. IfSome (holds name)
        (λ bytes. (asked : List (List Ask)) × HasSessions queries bytes asked × P asked))
    by None same = subst P same p
    by (Some name) told = by_file (holds name) told

-- what holds of the queries and the sessions
pub for_asked : (given : Settings) (holds : List ℕ → Option (List ℕ)) (queries : List Query)
    (sessions : List (List Ask)) (P : List Query → List (List Ask) → Type 0)
    → IfSome (holds given.queries) (λ bytes. HasQueries (two_way_of given) bytes queries)
    → ForSessions given holds queries (λ asked. sessions ≡ asked) → P queries sessions
    → ForAsked given holds P
for_asked given holds queries sessions P has are p =
    for_queries (two_way_of given) (holds given.queries) queries
    (λ all. ForSessions given holds all (P all)) has
    (for_sessions given holds queries sessions (P queries) are p)

-- ---- the objects

-- they are these, as they are seen
pub objects_are : {X : Type 0} (seen : X → ObjectValue)
    (before before' stayed stayed' left left' : List X)
    → before ≡ before' → stayed ≡ stayed' → left ≡ left'
    → objects seen before stayed left ≡ objects seen before' stayed' left'
objects_are seen before before' stayed stayed' left left' befores stays leaves = λ i.
    objects seen (befores i) (stays i) (leaves i)

-- all stayed as they were
pub leaves_objects : {X : Type 0} (seen : X → ObjectValue) (all left : List X) → left ≡ []
    → LeavesObjects (objects seen all all left)
leaves_objects seen all left none = record { stayed = refl; none_left = ap (map seen) none }

-- ---- the run over streams

-- as many readers ended as were given
pub many_readers : {T A K O : Type 0} (left : A → Option (List ℕ)) (faults : A → ℕ)
    (written : K → Option (List ℕ)) (failures : K → ℕ) (task : Task T A K)
    (threads : ThreadsOutcome T A K O)
    → HasAnswered left faults written failures task threads
    → length threads.readers.items ≡ length task.ask_readers.items
many_readers {A = A} {K = K} left faults written failures task threads answers =
    AllZip-long (IsLiveOf left faults written failures (definitions_of task.queries.items)
    threads.history.items answers.last) (asks_files left task) threads.readers.items answers.readers
    ∙ length-map task.ask_readers.items (λ (one : AskReader A K). left one.reader.source)

-- what a run over streams answers, by what its threads gave, and the sources and sinks
abbrev pub outcome_of : {T S K O : Type 0} → ℕ → ThreadsOutcome T S K O → Option S → List S
    → OwnSinks K → Outcome S K
outcome_of status threads from sources own = record {
  status = status;
  history = threads.history.items;
  base = threads.history.base;
  ends = threads.ends.items;
  sources = sources;
  faults = threads.faults.items;
  from = from;
  sessions = map (λ (each : Vec AnsweredValue). each.items) threads.sessions.items;
  readers = threads.readers.items;
  replies = own.replies;
  save = own.save;
}

-- the objects that were handed to the threads, and as they gave them back
abbrev pub objects_of : {T A K O : Type 0} → (O → ObjectValue) → Parts O
    → ThreadsOutcome T A K O → Objects
objects_of seen circle threads =
    objects seen circle.members threads.circle.members threads.circle.left

-- the text of the replies
abbrev pub replies_of : {T A K O : Type 0} → ThreadsOutcome T A K O → List ℕ
replies_of threads =
    replies (texts_of (map (λ (each : Vec AnsweredValue). each.items) threads.sessions.items))

-- the report has these in its lists
pub answers_are : {T O F S K V : Type 0} {W : V → Type 0} (threads : ThreadsOutcome T S K O)
    (own : OwnSinks K) (report : Report F S K V W) → KeepsParts threads own report
    → outcome_of report.status threads report.from report.sources.items own ≡ outcome report
answers_are threads own report parts = λ i. record {
  status = report.status;
  history = (sym parts.history i).items;
  base = (sym parts.history i).base;
  ends = (sym parts.ends i).items;
  sources = report.sources.items;
  faults = (sym parts.faults i).items;
  from = report.from;
  sessions = map (λ (each : Vec AnsweredValue). each.items) (sym parts.sessions i).items;
  readers = (sym parts.readers i).items;
  replies = sym parts.replies i;
  save = sym parts.save i;
}

module _ {S K O : Type 0} (means : Meanings S K) (given : Settings)
    (holds : List ℕ → Option (List ℕ)) (firsts : ℕ) (task : Task (TwoSources S) S K)
    (old new : OwnSinks K) (sinks : Sinks K) (seen : O → ObjectValue) (circle : Parts O)
    (threads : ThreadsOutcome (TwoSources S) S K O) (from : Option S) (sources : List S)
    (written : WrittenTexts) (status : ℕ)
    (asked : IsAsked means.left means.written means.failures given holds firsts task old)
    (held : Holds (left_of_both means.left) (faults_of_both means.faults) means.left means.faults
    means.written means.failures seen task
    sinks.events_old sinks.events_new circle threads)
    (replied : WritesIfThere means.written means.failures (replies_of threads) old.replies
    new.replies written.replied)
    (saved_is : SavesIfThere means.written means.failures
    (saved_text (saved (definitions_of task.queries.items) threads.history.items))
    (is_left_out threads.why threads.short_of_memory threads.ends.items written.replied) old.save
    new.save written.saved)
    (parts : stream_sources from sources ≡ threads.sources.items) (from_is : count_of from ≡ firsts)
    (memory : (status ≡ 8) ↔ (is_short threads.ends.items (ends_of threads.readers.items)
    (shortage_of threads.why threads.short_of_memory written) ≡ true))
    (status_is : IsStatusOf threads.ends.items (ends_of threads.readers.items)
    (failed_of threads.why written) status) where
  -- the sinks of which a write failed
  abbrev pub failed_in : List SinkName
  failed_in = failed_of threads.why written

  -- what memory ran out for
  abbrev pub short_in : Shortage
  short_in = shortage_of threads.why threads.short_of_memory written

  -- what the run answers
  abbrev pub answer : Outcome S K
  answer = outcome_of status threads from sources new

  -- the queries and the sessions
  abbrev queries_in : List Query
  queries_in = definitions_of task.queries.items

  for_both : (P : List Query → List (List Ask) → Type 0) → P queries_in task.sessions.items
      → ForAsked given holds P
  for_both P p = for_asked given holds queries_in task.sessions.items P asked.has asked.asked p

  -- what holds of the task's options holds of those with the joins of the file
  for_options : (P : List Query → OptionsValue → Type 0) → P queries_in task.options
      → ForJoined given holds (λ queries joins. P queries (options_of given joins))
  for_options P p = for_joined given holds queries_in
      (λ joins. task.options ≡ options_of given joins)
      (λ queries joins. P queries (options_of given joins)) asked.has
      (λ joins from_file is. subst (P queries_in) is p) asked.options

  -- a failed write is told of its sink, and of no other
  write_told : threads.why ≡ Some Write → Contains failed_in Events
  write_told is = events_in (is_write threads.why) (is_failed written.replied)
      (is_failed written.saved) (is_write_some threads.why is)

  replies_told : is_failed written.replied ≡ true → Contains failed_in Replies
  replies_told = replies_in (is_write threads.why) (is_failed written.replied)
      (is_failed written.saved)

  told_replies : Contains failed_in Replies → is_failed written.replied ≡ true
  told_replies = in_replies (is_write threads.why) (is_failed written.replied)
      (is_failed written.saved)

  save_told : is_failed written.saved ≡ true → Contains failed_in Save
  save_told = save_in (is_write threads.why) (is_failed written.replied) (is_failed written.saved)

  told_save : Contains failed_in Save → is_failed written.saved ≡ true
  told_save = in_save (is_write threads.why) (is_failed written.replied) (is_failed written.saved)

  -- faulty lines are told apart exactly where the settings name files for them
  policy_is : policy_of_sinks task.faults.items ≡ policy_of given
  policy_is = same_policy given task.faults.items asked.faults.as_many

  -- one history
  holds_streams : HoldsStreams means given holds answer
  holds_streams =
      let left = left_of_both means.left in
      let as_many : length task.readers.items ≡ length (streams_of given) =
      sym (length-map task.readers.items (λ (reader : ReaderState (TwoSources S)).
      left reader.source))
      ∙ (ap (λ (fs : List (Option (List ℕ))). length fs)
      (sym {A = List (Option (List ℕ))} asked.contents)
      ∙ (as_many_contents (from_content given holds) (map holds (streams_of given))
      ∙ length-map (streams_of given) holds)) in
      record {
        from = there_by_count from (from_of given) (from_is ∙ asked.behind);
        each_stream = subst
            (λ (ss : List (TwoSources S)). AreStreamsOf (policy_of given) left
            (faults_of_both means.faults) (cap_of given) (stream_contents given holds) ss
            threads.history.items threads.ends.items)
            (sym {A = List (TwoSources S)} parts)
            (subst (λ (fs : List (Option (List ℕ))). AreStreamsOf (policy_of given) left
            (faults_of_both means.faults) (cap_of given) fs threads.sources.items
            threads.history.items threads.ends.items)
            (sym {A = List (Option (List ℕ))} asked.contents)
            (subst₂ (λ (policy : FaultPolicy) (limit : ℕ). AreStreamsOf policy left
            (faults_of_both means.faults) limit (stream_files left task) threads.sources.items
            threads.history.items threads.ends.items) policy_is asked.limit held.streams));
        no_other = subst (λ n. All (λ (e : Entry). IsNumberOf n e.stream) threads.history.items)
            as_many held.numbers;
        few = omega (arith, held.few, asked.limit);
        whole = λ capped. held.whole (omega (arith, asked.limit, (asked.capped capped).1));
      }

  -- the faulty lines
  writes_faults : WritesFaults means given holds answer
  writes_faults =
      let left = left_of_both means.left in
      record {
        each_stream = subst
            (λ (ss : List (TwoSources S)). AreReportedOf (policy_of given) left means.written
            means.failures (cap_of given) (stream_contents given holds) ss threads.faults.items
            threads.history.items threads.ends.items)
            (sym {A = List (TwoSources S)} parts)
            (subst (λ (fs : List (Option (List ℕ))). AreReportedOf (policy_of given) left
            means.written means.failures (cap_of given) fs threads.sources.items
            threads.faults.items threads.history.items threads.ends.items)
            (sym {A = List (Option (List ℕ))} asked.contents)
            (subst₂ (λ (policy : FaultPolicy) (limit : ℕ). AreReportedOf policy left means.written
            means.failures limit (stream_files left task) threads.sources.items
            threads.faults.items threads.history.items threads.ends.items) policy_is asked.limit
            held.reported));
      }

  -- the events
  writes_events : FrontsHoldAnswers → JoinsAreSound → FrontsHoldBindings
      → WritesEvents means given holds failed_in short_in sinks answer
  writes_events fronts sound binds = record {
    text = for_options (λ all options. WritesWhere (Contains failed_in Events)
        (short_in.engine ≡ true) (IsText options all threads.history.items)
        (means.written sinks.events_old) (means.written sinks.events_new))
        (events_written means.written means.failures task.options queries_in
        threads.history.items sinks.events_old sinks.events_new threads.why
        (is_failed written.replied) (is_failed written.saved) held.text);
    sets = for_queries (two_way_of given) (holds given.queries) queries_in (λ all.
        FrontsHold (two_way_of given) all threads.history.items) asked.has
        (λ place query events here all count pair.
        fronts (two_way_of given) queries_in place query threads.history.items events here all count
        pair);
    bindings = for_joined given holds queries_in (λ joins. task.options ≡ options_of given joins)
        (λ all joins. FrontsBind all joins threads.history.items) asked.has
        (λ joins from_file is.
        fronts_bind sound binds queries_in joins threads.history.items from_file) asked.options;
  }

  replies_text : IfSome new.replies (λ sink. WritesWhere (Contains failed_in Replies)
      (short_in.replies ≡ true) (λ text. text ≡ replies_of threads)
      (nothing_told (means.written sink)) (means.written sink))
  replies_text = by old.replies new.replies asked.sinks.new_replies replied
    where
      by : (before after : Option K) → IfSome before (IsNewSink means.written means.failures)
          → WritesIfThere means.written means.failures (replies_of threads) before after
          written.replied
          → IfSome after (λ sink. WritesWhere (Contains failed_in Replies)
          (short_in.replies ≡ true) (λ text. text ≡ replies_of threads)
          (nothing_told (means.written sink)) (means.written sink))
      by before None fresh wrote = tt
      by None (Some after) fresh wrote = absurd wrote
      by (Some before) (Some after) fresh wrote =
          text_written means.written means.failures (replies_of threads)
          before after (Contains failed_in Replies) written.replied replies_told told_replies
          fresh wrote

  -- a failed write of a text is counted
  text_failed : (text : List ℕ) (failed : Type 0) (result : Result (Unit {0}) TextFault)
      → (is_failed result ≡ true → failed) → (failed → is_failed result ≡ true)
      → (before after : Option K)
      → IfSome before (IsNewSink means.written means.failures)
      → WritesIfThere means.written means.failures text before after result
      → IfSome after (λ sink. CountsFault failed 0 (means.failures sink))
  text_failed text failed result there back before None fresh wrote = tt
  text_failed text failed result there back None (Some after) fresh wrote = absurd wrote
  text_failed text failed result there back (Some before) (Some after) fresh wrote =
      text_counted failed result (means.failures before) (means.failures after) there back
      fresh.no_fault wrote.counted

  -- the last entry that was published is the last of the history, unless the engine shut
  at_end : (why : Option Why) → threads.why ≡ why
      → (held.answers.last ≡ length threads.history.items)
      ⊎ (Contains failed_in Events ⊎ (short_in.engine ≡ true))
  at_end None is = inl (held.answers.at_end is)
  at_end (Some Write) is = inr (inl (write_told is))
  at_end (Some Memory) is = inr (inr (ap is_memory is))

  answers_sessions : AnswersSessions means given holds failed_in short_in answer
  answers_sessions = record {
    last = held.answers.last;
    within = held.answers.within;
    at_end = at_end threads.why refl;
    sessions = for_both (λ queries asks.
        AreSessionsOf queries threads.history.items held.answers.last asks
        (map (λ (each : Vec AnsweredValue). each.items) threads.sessions.items))
        held.answers.sessions;
    all = λ none. for_both (λ queries asks.
        asks_answered (map (λ (each : Vec AnsweredValue). each.items) threads.sessions.items)
        ≡ asks) (held.answers.all none);
    sink = same_sink means.written means.failures (replies_of threads) old.replies new.replies
        written.replied replied
        ∙ asked.sinks.replies;
    text = replies_text;
    no_sink = λ none. none_lacking means.written means.failures (replies_of threads) old.replies
        new.replies written.replied none replied;
  }

  -- ---- the readers

  abbrev HasAsked : List Query → Option (List ℕ) → ReaderOutcome S K → Type 0
  HasAsked queries = IsLiveOf means.left means.faults means.written means.failures queries
      threads.history.items held.answers.last

  -- a reader that found the history shut did so for the reason that the engine had
  shut_for : (why : Why) (place : ℕ) (one : ReaderOutcome S K)
      → slice_get threads.readers.items place ≡ Some one → one.end ≡ reader.Closed why
      → threads.why ≡ Some why
  shut_for why place one at is = held.answers.closed why
      (contains_at (ends_of threads.readers.items) place one.end (reader.Closed why)
      (end_at threads.readers.items place one at) is)

  -- the status tells that memory ran out for it
  short_for : (place : ℕ) (one : ReaderOutcome S K)
      → slice_get threads.readers.items place ≡ Some one
      → (one.end ≡ reader.Closed Memory) ⊎ (one.end ≡ reader.Memory) → status ≡ 8
  short_for place one at (inl is) = memory.1
      (short_by_engine threads.ends.items (ends_of threads.readers.items) short_in
      (ap is_memory (shut_for Memory place one at is)))
  short_for place one at (inr is) = memory.1
      (short_by_reader threads.ends.items (ends_of threads.readers.items) short_in
      (short_at (ends_of threads.readers.items) place
      (end_at threads.readers.items place one at ∙ ap (λ (end : ReaderEnd). Some end) is)))

  answers_readers : AnswersReaders means given holds failed_in held.answers.last answer
  answers_readers = record {
    as_many = AllZip-long (HasAsked queries_in) (asks_files means.left task) threads.readers.items
        held.answers.readers
        ∙ (ap (λ (files : List (Option (List ℕ))). length files)
        (sym {A = List (Option (List ℕ))} asked.beside)
        ∙ length-map (readers_of given) (λ (files : ReaderFiles). holds files.asks));
    each = for_queries (two_way_of given) (holds given.queries) queries_in
        (λ queries. AllZip (HasAsked queries) (asks_held given holds) threads.readers.items)
        asked.has (subst (λ (files : List (Option (List ℕ))).
        AllZip (HasAsked queries_in) files threads.readers.items)
        (sym {A = List (Option (List ℕ))} asked.beside) held.answers.readers);
    counted = all_second (HasAsked queries_in) (CountsReader means)
        (λ file one live. record { read = live.read; write = live.write })
        (asks_files means.left task) threads.readers.items held.answers.readers;
    closed = all_by (λ (one : ReaderOutcome S K). one.end ≡ reader.Closed Write
        → Contains failed_in Events) threads.readers.items
        (λ place one at is. write_told (shut_for Write place one at is));
    memory = all_by (λ (one : ReaderOutcome S K). (one.end ≡ reader.Closed Memory)
        ⊎ (one.end ≡ reader.Memory) → status ≡ 8) threads.readers.items short_for;
  }

  -- ---- the saved window

  abbrev window_in : List ℕ
  window_in = saved_text (saved queries_in threads.history.items)

  -- whether it's left out, by whether a write of the events failed, or memory ran out before
  out_by : is_left_out threads.why threads.short_of_memory threads.ends.items written.replied
      ≡ (is_write threads.why || is_short_before threads.ends.items short_in)
  out_by = left_out_by threads.why threads.short_of_memory (has_memory_end threads.ends.items)
      (lacks_memory written.replied)

  abbrev unsaved_in : Type 0
  unsaved_in = IsUnsaved failed_in threads.ends.items short_in

  unsaved : is_left_out threads.why threads.short_of_memory threads.ends.items written.replied
      ≡ true → unsaved_in
  unsaved is = elim (either (is_write threads.why) (is_short_before threads.ends.items short_in)
      (sym out_by ∙ is)) [
        | inl failed ↦ inl (events_in (is_write threads.why) (is_failed written.replied)
            (is_failed written.saved) failed)
        | inr before ↦ inr before
      ]

  not_unsaved : is_left_out threads.why threads.short_of_memory threads.ends.items written.replied
      ≡ false → unsaved_in → ⊥
  not_unsaved is reason =
      let none = neither (is_write threads.why) (is_short_before threads.ends.items short_in)
      (sym out_by ∙ is) in
      elim reason [
        | inl has ↦ never_both (is_write threads.why) none.0
            (in_events (is_write threads.why) (is_failed written.replied)
            (is_failed written.saved) has)
        | inr before ↦ never_both (is_short_before threads.ends.items short_in) none.1 before
      ]

  -- and then no write of it failed, and memory didn't run out for it
  none_of_save : written.saved ≡ Ok tt → Contains failed_in Save → ⊥
  none_of_save is has =
      let no : false ≡ true = sym (ap is_failed is) ∙ told_save has in
      cc no

  not_short_of_save : written.saved ≡ Ok tt → short_in.save ≡ true → ⊥
  not_short_of_save is short =
      let no : false ≡ true = sym (ap lacks_memory is) ∙ short in
      cc no

  tried_in : Contains failed_in Save ⊎ (short_in.save ≡ true) → unsaved_in → ⊥
  tried_in tried reason = elim saved_is [
    | inl wrote ↦ not_unsaved wrote.0 reason
    | inr none ↦ elim tried [
      | inl has ↦ none_of_save none.1 has
      | inr short ↦ not_short_of_save none.1 short
    ]
  ]

  window_sink : is_some new.save ≡ is_some old.save
  window_sink = elim saved_is [
    | inl wrote ↦ same_sink means.written means.failures window_in old.save new.save
        written.saved wrote.1
    | inr none ↦ ap (λ (sink : Option K). is_some sink) none.2
  ]

  no_window_sink : new.save ≡ None → short_in.save ≡ false
  no_window_sink is = elim saved_is [
    | inl wrote ↦ none_lacking means.written means.failures window_in old.save new.save
        written.saved is wrote.1
    | inr none ↦ ap lacks_memory none.1
  ]

  abbrev GotWindow : K → Type 0
  GotWindow sink = GotText unsaved_in (Contains failed_in Save) (short_in.save ≡ true) window_in
      (means.written sink)

  window_text : IfSome new.save GotWindow
  window_text = elim saved_is [
    | inl wrote ↦ by (not_unsaved wrote.0) old.save new.save asked.sinks.new_save wrote.1
    | inr none ↦ subst (λ (sink : Option K). IfSome sink GotWindow) (sym none.2)
        (as_before old.save (unsaved none.0) (none_of_save none.1) asked.sinks.new_save)
  ]
    where
      by : (unsaved_in → ⊥) → (before after : Option K)
          → IfSome before (IsNewSink means.written means.failures)
          → WritesIfThere means.written means.failures window_in before after written.saved
          → IfSome after GotWindow
      by wanted before None fresh wrote = tt
      by wanted None (Some after) fresh wrote = absurd wrote
      by wanted (Some before) (Some after) fresh wrote =
          window_written means.written means.failures window_in before after unsaved_in
          (Contains failed_in Save) written.saved wanted save_told told_save fresh wrote

      as_before : (sink : Option K) → unsaved_in → (Contains failed_in Save → ⊥)
          → IfSome sink (IsNewSink means.written means.failures) → IfSome sink GotWindow
      as_before None reason none fresh = tt
      as_before (Some sink) reason none fresh =
          window_unwritten means.written means.failures window_in sink unsaved_in
          (Contains failed_in Save) (short_in.save ≡ true) reason none fresh

  saves_window : SavesWindow means given holds failed_in short_in answer
  saves_window = record {
    sink = window_sink ∙ asked.sinks.save;
    text = by new.save window_text;
    tried = tried_in;
    apart = λ has short. one_fault written.saved (told_save has) short;
    no_sink = no_window_sink;
  }
    where
      by : (sink : Option K) → IfSome sink GotWindow
          → IfSome sink (λ s. ForQueries (two_way_of given) (holds given.queries)
          (λ queries. GotText unsaved_in (Contains failed_in Save) (short_in.save ≡ true)
          (saved_text (saved queries threads.history.items)) (means.written s)))
      by None got = tt
      by (Some sink) got = for_queries (two_way_of given) (holds given.queries) queries_in
          (λ all. GotText unsaved_in (Contains failed_in Save) (short_in.save ≡ true)
          (saved_text (saved all threads.history.items)) (means.written sink))
          asked.has got

  save_failed : IfSome new.save (λ sink. CountsFault (Contains failed_in Save) 0
      (means.failures sink))
  save_failed = elim saved_is [
    | inl wrote ↦ text_failed window_in (Contains failed_in Save) written.saved save_told told_save
        old.save new.save asked.sinks.new_save wrote.1
    | inr none ↦ subst (λ (sink : Option K). IfSome sink (λ s.
        CountsFault (Contains failed_in Save) 0 (means.failures s))) (sym none.2)
        (quiet old.save (none_of_save none.1) asked.sinks.new_save)
  ]
    where
      quiet : (sink : Option K) → (Contains failed_in Save → ⊥)
          → IfSome sink (IsNewSink means.written means.failures)
          → IfSome sink (λ s. CountsFault (Contains failed_in Save) 0 (means.failures s))
      quiet None none fresh = tt
      quiet (Some sink) none fresh = counts_none (Contains failed_in Save) 0 (means.failures sink)
          none fresh.no_fault

  no_save : new.save ≡ None → Contains failed_in Save → ⊥
  no_save is has = elim saved_is [
    | inl wrote ↦ none_written means.written means.failures window_in old.save new.save
        written.saved is wrote.1 (told_save has)
    | inr none ↦ none_of_save none.1 has
  ]

  -- the objects
  tells_history : TellsHistory means given holds failed_in short_in sinks
      (objects_of seen circle threads) answer
  tells_history = record {
    why = threads.why;
    write = write_told;
    memory = λ is. ap is_memory is;
    told = for_options (λ all options. TellsObjects options all threads.history.items
        (means.written sinks.events_old) (means.written sinks.events_new)
        (map seen circle.members) threads.why (as_seen seen threads.circle)) held.objects;
  }

  -- the run over streams
  streams_run : FrontsHoldAnswers → JoinsAreSound → FrontsHoldBindings
      → TellsLines means.written means.failures
      (run_lines threads.ends.items (ends_of threads.readers.items) failed_in status)
      sinks.errors_old sinks.errors_new
      → RunsStreams means given holds sinks (objects_of seen circle threads) answer
  unfolding answers_sessions
  streams_run fronts sound binds told = record {
    understood = record {
      joins = for_options (λ queries options. Unit {0}) tt;
      asks = for_both (λ queries asks. Unit {0}) tt;
    };
    failed = failed_in;
    short = short_in;
    history = holds_streams;
    faults = writes_faults;
    events = writes_events fronts sound binds;
    replies = answers_sessions;
    readers = answers_readers;
    saves = saves_window;
    told = tells_history;
    causes = record {
      once = some_sinks (is_write threads.why) (is_failed written.replied)
          (is_failed written.saved);
      events_failed = events_counted threads.why (is_failed written.replied)
          (is_failed written.saved) (means.failures sinks.events_old)
          (means.failures sinks.events_new) held.text.counted;
      replies_failed = text_failed (replies_of threads) (Contains failed_in Replies) written.replied
          replies_told told_replies old.replies new.replies asked.sinks.new_replies replied;
      no_replies = λ is has. none_written means.written means.failures (replies_of threads)
          old.replies new.replies written.replied is replied (told_replies has);
      save_failed = save_failed;
      no_save = no_save;
      closed = λ closed. write_told (held.closed Write closed);
      status_is = status_is;
      memory = memory;
      told = told;
    };
  }

  -- the same with the objects in their lists
  pub runs_streams : (before stayed left : List O) → circle.members ≡ before
      → threads.circle.members ≡ stayed → threads.circle.left ≡ left → FrontsHoldAnswers
      → JoinsAreSound → FrontsHoldBindings
      → TellsLines means.written means.failures
      (run_lines threads.ends.items (ends_of threads.readers.items) failed_in status)
      sinks.errors_old sinks.errors_new
      → RunsStreams means given holds sinks (objects seen before stayed left) answer
  runs_streams before stayed left befores stays leaves fronts sound binds told =
      subst (λ (all : Objects). RunsStreams means given holds sinks all answer)
      (objects_are seen circle.members before threads.circle.members stayed threads.circle.left left
      befores stays leaves)
      (streams_run fronts sound binds told)

-- the same of a report
pub run_reported : {S K O F V : Type 0} {W : V → Type 0} (means : Meanings S K) (given : Settings)
    (holds : List ℕ → Option (List ℕ)) (firsts : ℕ) (task : Task (TwoSources S) S K)
    (old new : OwnSinks K) (sinks : Sinks K) (seen : O → ObjectValue) (circle : Parts O)
    (threads : ThreadsOutcome (TwoSources S) S K O) (report : Report F S K V W)
    (written : WrittenTexts)
    → IsAsked means.left means.written means.failures given holds firsts task old
    → Holds (left_of_both means.left) (faults_of_both means.faults) means.left means.faults
    means.written means.failures seen task sinks.events_old sinks.events_new circle threads
    → WritesIfThere means.written means.failures (replies_of threads) old.replies new.replies
    written.replied
    → SavesIfThere means.written means.failures
    (saved_text (saved (definitions_of task.queries.items) threads.history.items))
    (is_left_out threads.why threads.short_of_memory threads.ends.items written.replied) old.save
    new.save written.saved
    → stream_sources report.from report.sources.items ≡ threads.sources.items
    → count_of report.from ≡ firsts
    → ((report.status ≡ 8) ↔ (is_short threads.ends.items (ends_of threads.readers.items)
    (shortage_of threads.why threads.short_of_memory written) ≡ true))
    → IsStatusOf threads.ends.items (ends_of threads.readers.items)
    (failed_of threads.why written) report.status
    → KeepsParts threads new report
    → (before stayed left : List O) → circle.members ≡ before → threads.circle.members ≡ stayed
    → threads.circle.left ≡ left → FrontsHoldAnswers → JoinsAreSound → FrontsHoldBindings
    → TellsLines means.written means.failures
    (run_lines threads.ends.items (ends_of threads.readers.items) (failed_of threads.why written)
    report.status) sinks.errors_old sinks.errors_new
    → RunsStreams means given holds sinks (objects seen before stayed left) (outcome report)
run_reported means given holds firsts task old new sinks seen circle threads report written asked
    held replied saved_is
    parts from_is memory status_is keeps before stayed left befores stays leaves fronts sound binds
    told =
    subst (λ (answer : Outcome _ _). RunsStreams means given holds sinks
    (objects seen before stayed left) answer) (answers_are threads new report keeps)
    (runs_streams means given holds firsts task old new sinks seen circle threads report.from
    report.sources.items written report.status asked held replied saved_is parts from_is memory
    status_is before stayed left befores stays leaves fronts sound binds told)
