-- What the top call hands on, and what it says of it.
use Rattle.std.proofs.Common.{◌≡◌, ℕ, Bool, true, false, List, [], ◌∷◌, length, Option, Some, None}
use Rattle.std.proofs.Common.{sym}
use Rattle.std.proofs.Common.{ap, subst, subst₂, ◌∙◌, arith, refl, inl, inr, ◌⊎◌}
use Rattle.std.specs.Prelude.{◌≤◌, IfSome, MatchOption, is_some, map}
use Rattle.std.specs.List.{All}
use Rattle.std.proofs.lemmas.List.{length-map}
use Rattle.rpq_io.specs.Reader.{ReaderState}
use Rattle.rpq_model.specs.Query.{Query}
use Rattle.join_file.specs.Joins.{JoinValue}
use Rattle.join_file.specs.Sound.{IsSound}
use Rattle.query_file.specs.Compiled.{CompiledValue}
use Rattle.ask_text.specs.declared.ask.Ask.{Ask}
use Rattle.ask_text.specs.Ranges.{IsSession}
use Rattle.generated_run.specs.declared.generation.Generation.{Generation}
use Rattle.generated_run.specs.Generates.{IsGeneration}
use Rattle.rpq_words.specs.declared.settings.RunMode.{RunMode}
use Rattle.live_asks.specs.declared.reader.AskReader.{AskReader}
use Rattle.live_asks.specs.Readers.{IsNewAskReader}
use Rattle.rpq_words.specs.declared.reader_names.ReaderFiles.{ReaderFiles}
use Rattle.rpq_words.specs.declared.settings.RunMode.TheVariants.{Check, Generate, Streams}
use Rattle.rpq_words.specs.declared.settings.StreamSettings.TheVariants.{BothWays, Forwards}
use Rattle.rpq_words.specs.declared.settings.Directions.{Directions}
use Rattle.rpq_words.specs.Modes.{AreSettings, IsCap, IsMode, IsWithin}
use Rattle.rpq_words.proofs.Modes.{is_cap}
use Rattle.rpq_words.specs.declared.settings.Settings.{Settings}
use Rattle.rpq_words.specs.Views.{is_both_ways}
use Rattle.rpq_words.specs.Views.{asks_of, cap_of, forwards_in, from_of, mode_of, paths_of}
use Rattle.rpq_words.specs.Views.{readers_in, readers_of, streams_of, two_way_in, two_way_of}
use Rattle.saved_window.specs.Then.{TwoSources, count_of, left_of_both, faults_of_both}
use Rattle.rpq_text.specs.Definitions.{definitions_of}
use Rattle.entry_steps.specs.Steps.{OptionsValue}
use Rattle.run_start.specs.Files.{ForJoins, ForSessions, HasQueries, HasSessions, stream_contents}
use Rattle.run_start.specs.Readers.{AreNew, AreNewReaders, contents_of, is_behind, lefts_of}
use Rattle.run_start.specs.Ready.{AreFaultSinks, AreUnderstood, IsReady}
use Rattle.run_start.specs.declared.ready.StreamsPlan.{StreamsPlan}
use Rattle.run_start.specs.declared.ready.Work.{Work}
use Rattle.run_start.specs.declared.ready.Work.TheVariants.{Read as Reading}
use Rattle.run_start.specs.declared.streams.Readers.{Readers}
use Rattle.run_start.proofs.Modes.{forwards_alone, one_stream, some_streams, unasked}
use Rattle.rpq_threads.specs.Runs.{IsTask}
use Rattle.rpq_threads.specs.declared.task.Task.{Task}
use Rattle.rpq_run.specs.Asked.{IsAsked, IsGenerationOf, IsTaskOf}
use Rattle.rpq_run.specs.Options.{options_of}
use Rattle.rpq_run.specs.Outcome.{Meanings, Sinks, Objects, Outcome}
use Rattle.rpq_run.specs.Run.{Runs, RunsIn}
use Rattle.rpq_run.specs.RunsGenerated.{RunsGenerated}
use Rattle.rpq_run.specs.RunsStreams.{RunsStreams}
use Rattle.rpq_run.proofs.Done.{as_many_streams}
use Rattle.rpq_run.proofs.Running.{for_joins}

-- what holds of the settings of words
pub for_given : (words : Option Settings) (given : Settings) (P : Settings → Type 0)
    → words ≡ Some given
    → P given → IfSome words P
for_given words given P are holds = subst (λ (w : Option Settings). IfSome w P) (sym are) holds

-- the run that the mode of its settings asks for
pub runs_in : {S K : Type 0} (means : Meanings S K) (given : Settings)
    (holds : List ℕ → Option (List ℕ)) (sinks : Sinks K) (objects : Objects)
    (outcome : Outcome S K) (mode : RunMode) → mode_of given ≡ mode
    → RunsIn mode means given holds sinks objects outcome
    → Runs means given holds sinks objects outcome
runs_in means given holds sinks objects outcome mode is runs =
    subst (λ (m : RunMode). RunsIn m means given holds sinks objects outcome)
    (sym {A = RunMode} is) runs

-- the queries of a file, as the mode says that they take edges
pub queries_in : (given : Settings) (file : Option (List ℕ)) (queries : List Query) (mode : RunMode)
    → mode_of given ≡ mode → IfSome file (λ bytes. HasQueries (two_way_of given) bytes queries)
    → IfSome file (λ bytes. HasQueries (two_way_in mode) bytes queries)
queries_in given file queries mode is has =
    subst (λ (m : RunMode). IfSome file (λ bytes. HasQueries (two_way_in m) bytes queries)) is has

-- the run over generated tuples, by what it is given
pub generated_in : {S K : Type 0} (means : Meanings S K) (given : Settings)
    (holds : List ℕ → Option (List ℕ)) (sinks : Sinks K) (objects : Objects)
    (outcome : Outcome S K) (directions : Directions) (count : ℕ) (queries : List CompiledValue)
    (generation : Generation)
    → IsGenerationOf given queries (is_both_ways directions) count generation
    → mode_of given ≡ Generate directions count
    → IfSome (holds given.queries) (λ bytes.
    HasQueries (two_way_of given) bytes (definitions_of queries))
    → ((file : Option (List ℕ)) → IfSome file (λ bytes.
    HasQueries generation.two_way bytes (definitions_of generation.queries.items))
    → RunsGenerated means generation.two_way generation.limit generation.count file sinks objects
    outcome)
    → Runs means given holds sinks objects outcome
generated_in means given holds sinks objects outcome directions count queries generation of is
    has runs =
    let file = holds given.queries in
    let own = subst₂ (λ (two_way : Bool) (qs : List CompiledValue). IfSome file (λ bytes.
    HasQueries two_way bytes (definitions_of qs))) (sym {A = Bool} of.two_way_is)
    (sym {A = List CompiledValue} of.queries_are)
    (queries_in given file (definitions_of queries) (Generate directions count) is has) in
    let counted = subst (λ n. RunsGenerated means generation.two_way generation.limit n file sinks
    objects outcome) of.count_is (runs file own) in
    let limited = subst (λ n. RunsGenerated means generation.two_way n count file sinks objects
    outcome) of.limit_is counted in
    runs_in means given holds sinks objects outcome (Generate directions count) is
    (subst (λ (b : Bool). RunsGenerated means b (cap_of given) count file sinks objects outcome)
    of.two_way_is limited)

-- what a mode says of how many tuples are generated
few_generated : (given : Settings) (directions : Directions) (count : ℕ) → AreSettings given
    → mode_of given ≡ Generate directions count → count ≤ 1000000
few_generated given directions count settings is =
    let within : IsMode (Generate directions count) = subst IsMode is settings.mode in
    within.1

-- and what is given is a generation
pub is_generation : (given : Settings) (directions : Directions) (count : ℕ)
    (queries : List CompiledValue) (generation : Generation)
    → IsGenerationOf given queries (is_both_ways directions) count generation
    → AreUnderstood queries → AreSettings given → mode_of given ≡ Generate directions count
    → IsGeneration generation
is_generation given directions count queries generation of all settings is =
    let few = few_generated given directions count settings is in
    let own = subst AreUnderstood (sym {A = List CompiledValue} of.queries_are) all in
    record {
      some = own.some;
      few = own.few;
      accepted = own.accepted;
      count = omega (arith, of.count_is, few);
    }

-- ---- the streams

-- there is one saved window or none
pub none_named : {A : Type 0} (one : Option A) → false ≡ is_some one → 0 ≡ count_of one
none_named None is = refl
none_named (Some x) is = absurd (cc is)

pub one_named : {A : Type 0} (one : Option A) → true ≡ is_some one → 1 ≡ count_of one
one_named None is = absurd (cc is)
one_named (Some x) is = refl

-- there are as many readers as streams
as_many_readers : {S : Type 0} (left : S → Option (List ℕ)) (given : Settings)
    (holds : List ℕ → Option (List ℕ)) (readers : List (ReaderState (TwoSources S)))
    → stream_contents given holds ≡ lefts_of left readers → length readers ≡ length (streams_of given)
as_many_readers {S} left given holds readers contents =
    sym (length-map readers (λ (reader : ReaderState (TwoSources S)).
    left_of_both left reader.source))
    ∙ (ap (λ (files : List (Option (List ℕ))). length files)
    (sym {A = List (Option (List ℕ))} contents)
    ∙ as_many_streams given holds)

-- nobody asks where no asks file is named
none_asked : (given : Settings) (holds : List ℕ → Option (List ℕ)) (queries : List Query)
    (sessions : List (List Ask)) → ForSessions given holds queries (λ asked. sessions ≡ asked)
    → asks_of given ≡ None → sessions ≡ []
none_asked given holds queries sessions = by (asks_of given)
  where
    by : (asks : Option (List ℕ)) → MatchOption asks (sessions ≡ []) (λ name. IfSome (holds name)
        (λ bytes. (asked : List (List Ask)) × HasSessions queries bytes asked × (sessions ≡ asked)))
        → asks ≡ None → sessions ≡ []
    by None is none = is
    by (Some name) is none = absurd (cc none)

-- nor does anybody ask beside a run where edges may be taken backwards
no_reader : (given : Settings) → two_way_of given ≡ true → readers_of given ≡ []
no_reader given is = by (mode_of given) is
  where
    by : (mode : RunMode) → two_way_in mode ≡ true → readers_in (forwards_in mode) ≡ []
    by (Check directions) is = refl
    by (Generate directions count) is = refl
    by (Streams (BothWays streams)) is = refl
    by (Streams (Forwards forwards)) is = absurd (cc is)

-- a list without a member is empty
none_long : {A : Type 0} (all : List A) → length all ≡ 0 → all ≡ []
none_long [] none = refl
none_long (one ∷ more) none = absurd (omega (arith, none))

none_beside : {S K : Type 0} (left : S → Option (List ℕ)) (holds : List ℕ → Option (List ℕ))
    (files : List ReaderFiles) (readers : List (AskReader S K))
    → map (λ (each : ReaderFiles). holds each.asks) files
    ≡ map (λ (one : AskReader S K). left one.reader.source) readers → files ≡ [] → readers ≡ []
none_beside left holds files [] same none = refl
none_beside left holds [] (one ∷ readers) same none = absurd (cc same)
none_beside left holds (file ∷ files) (one ∷ readers) same none = absurd (cc none)

-- a run over streams, by what it begins with: its queries, and what is read and answered
module _ {S K : Type 0} (left : S → Option (List ℕ)) (faults : S → ℕ)
    (written : K → Option (List ℕ)) (failures : K → ℕ) (given : Settings)
    (holds : List ℕ → Option (List ℕ)) (queries : List CompiledValue)
    (work : Work S K) (reads : StreamsPlan S K) (there : work ≡ Reading reads)
    (opened : Readers S) (are : reads.readers ≡ opened)
    (readers : List (ReaderState (TwoSources S))) (task : Task (TwoSources S) S K)
    (of : IsTaskOf given queries reads.joins.value.items readers reads.faults.items
    reads.sessions.items reads.ask_readers.items task)
    (settings : AreSettings given)
    (ready : IsReady left faults written failures given holds queries work)
    (lefts : contents_of left opened ≡ lefts_of left readers) where
  -- what is ready
  ready_reads : IsReady left faults written failures given holds queries (Reading reads)
  ready_reads = subst (λ (each : Work S K).
      IsReady left faults written failures given holds queries each) there ready

  -- and of the queries of the task
  ready_queries : IsReady left faults written failures given holds task.queries.items
      (Reading reads)
  ready_queries = subst (λ (qs : List CompiledValue).
      IsReady left faults written failures given holds qs (Reading reads))
      (sym {A = List CompiledValue} of.queries_are) ready_reads

  streams_within : IsWithin 64 (length (streams_of given))
  streams_within =
      some_streams given ready_reads.asked_for.run ready_reads.asked_for.mode settings

  -- what the streams hold, of the readers of the task
  contents_left : stream_contents given holds ≡ lefts_of left task.readers.items
  contents_left = ready_reads.asked_for.contents ∙ (ap (contents_of left) are
      ∙ (lefts ∙ ap (lefts_of left) (sym {A = List (ReaderState (TwoSources S))} of.readers_are)))

  behind_is : is_behind opened ≡ is_some (from_of given)
  behind_is = sym (ap is_behind are) ∙ ready_reads.asked_for.behind

  many : length task.readers.items ≡ length (streams_of given)
  many = as_many_readers left given holds task.readers.items contents_left

  asked_in : ForSessions given holds (definitions_of task.queries.items)
      (λ asked. task.sessions.items ≡ asked)
  asked_in = subst (λ (ss : List (List Ask)).
      ForSessions given holds (definitions_of task.queries.items) (λ asked. ss ≡ asked))
      (sym {A = List (List Ask)} of.sessions_are) ready_queries.asked_for.asked

  -- edges are taken, and paths are told, as the settings say; and the joins are those of their file
  two_way_is : task.options.two_way ≡ (two_way_of given)
  two_way_is = ap (λ (options : OptionsValue). options.two_way) of.options_are

  paths_is : task.options.paths ≡ (paths_of given)
  paths_is = ap (λ (options : OptionsValue). options.paths) of.options_are

  joins_are : task.options.joins ≡ reads.joins.value.items
  joins_are = ap (λ (options : OptionsValue). options.joins) of.options_are

  options_in : ForJoins given holds (definitions_of task.queries.items)
      (λ joins. task.options ≡ options_of given joins)
  options_in = for_joins given holds (definitions_of task.queries.items)
      (λ joins. reads.joins.value.items ≡ joins) (λ joins. task.options ≡ options_of given joins)
      (λ joins from_file same. of.options_are ∙ ap (options_of given) same)
      ready_queries.asked_for.joined

  -- the sinks of faulty lines are those that the settings name: one for each stream, or none
  fault_sinks : AreFaultSinks written failures given task.faults.items
  fault_sinks = subst (λ (ks : List K). AreFaultSinks written failures given ks)
      (sym {A = List K} of.faults_are) ready_queries.asked_for.fault_sinks

  few_or_all : (task.faults.items ≡ []) ⊎ (length task.faults.items ≡ length task.readers.items)
  few_or_all = elim settings.faults [
    | inl none ↦ inl (none_long task.faults.items
        (fault_sinks.as_many ∙ ap (λ (names : List (List ℕ)). length names) none))
    | inr all ↦ inr (omega (arith, fault_sinks.as_many, all, many))
  ]

  -- what a run begins with is a task for its threads
  pub task_is : (AreNew (cap_of given) left faults opened
      → AreNewReaders (cap_of given) left faults readers)
      → IsTask (left_of_both left) (faults_of_both faults) left faults written failures task
  task_is fresh =
      let all = ready_queries.understood in
      record {
        understood = record {
          some = all.some;
          few = all.few;
          accepted = all.accepted;
          compiled = all.compiled;
        };
        streams = (
          omega (arith, many, streams_within.0),
          omega (arith, many, streams_within.1),
        );
        fresh = subst₂ (λ cap rs. AreNewReaders cap left faults rs) (sym of.limit_is)
            (sym {A = List (ReaderState (TwoSources S))} of.readers_are)
            (fresh (subst (AreNew (cap_of given) left faults) are ready_reads.asked_for.fresh));
        faults = few_or_all;
        new_faults = fault_sinks.new;
        few = omega (
          arith,
          ready_queries.asked_for.few,
          ap (λ (ss : List (List Ask)). length ss) of.sessions_are,
        );
        sessions = subst (λ (ss : List (List Ask)). All (IsSession (length task.queries.items)) ss)
            (sym {A = List (List Ask)} of.sessions_are) ready_queries.asked_for.ranges;
        few_readers = omega (
          arith,
          ready_queries.asked_for.ask_readers.few,
          ap (λ (rs : List (AskReader S K)). length rs) of.ask_readers_are,
        );
        new_readers = subst (λ (rs : List (AskReader S K)).
            All (IsNewAskReader left faults written failures) rs)
            (sym {A = List (AskReader S K)} of.ask_readers_are)
            ready_queries.asked_for.ask_readers.new;
        unasked = λ both. (
          none_asked given holds (definitions_of task.queries.items) task.sessions.items asked_in
              (unasked given (sym {A = Bool} two_way_is ∙ both)),
          of.ask_readers_are ∙ none_beside left holds (readers_of given) reads.ask_readers.items
              ready_queries.asked_for.ask_readers.contents
              (no_reader given (sym {A = Bool} two_way_is ∙ both)),
        );
        forwards = λ told. two_way_is ∙ forwards_alone given (sym {A = Bool} paths_is ∙ told);
        few_joins = omega (
          arith,
          ready_queries.asked_for.few_joins,
          ap (λ (js : List JoinValue). length js) joins_are,
        );
        sound = subst (λ (js : List JoinValue). All (IsSound (length task.queries.items)) js)
            (sym {A = List JoinValue} joins_are) ready_queries.asked_for.sound;
        limit = subst IsCap (sym of.limit_is) (is_cap given settings);
      }

  -- where a saved window is read first, there is one reader
  pub one_reader : is_behind opened ≡ true → length task.readers.items ≡ 1
  one_reader behind =
      let one = one_stream given (sym {A = Bool} behind ∙ behind_is) in
      omega (arith, many, one)

  -- the task is what the settings ask for
  task_asked : (firsts : ℕ) → (is_behind opened ≡ is_some (from_of given) → firsts ≡ count_of (from_of given))
      → IsAsked left written failures given holds firsts task reads.sinks
  task_asked firsts named = record {
    has = ready_queries.has;
    contents = contents_left;
    behind = named behind_is;
    faults = fault_sinks;
    asked = asked_in;
    beside = ready_queries.asked_for.ask_readers.contents
        ∙ ap (λ (rs : List (AskReader S K)). map (λ (one : AskReader S K). left one.reader.source) rs)
        (sym {A = List (AskReader S K)} of.ask_readers_are);
    options = options_in;
    limit = of.limit_is;
    capped = settings.cap;
    sinks = ready_queries.asked_for.sinks;
  }

  -- and what the settings ask for is the run over streams
  pub streams_run : (means : Meanings S K) (sinks : Sinks K) (objects : Objects)
      (outcome : Outcome S K) (firsts : ℕ)
      → (is_behind opened ≡ is_some (from_of given) → firsts ≡ count_of (from_of given))
      → (IsAsked left written failures given holds firsts task reads.sinks
      → RunsStreams means given holds sinks objects outcome)
      → Runs means given holds sinks objects outcome
  streams_run means sinks objects outcome firsts named runs =
      runs_in means given holds sinks objects outcome (Streams ready_reads.asked_for.run)
      ready_reads.asked_for.mode (runs (task_asked firsts named))
