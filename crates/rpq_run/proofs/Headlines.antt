-- A run over streams that is done, in one piece.
use Rattle.std.proofs.Common.{◌≡◌, ◌≢◌, ℕ, ◌+◌, Bool, List, [], ◌∷◌, ◌++◌, length, take, Option}
use Rattle.std.proofs.Common.{Some, None, Result, Ok, true, false, refl, ap, ap₂, sym, subst, ◌∙◌}
use Rattle.std.proofs.Common.{subst₂, arith, inl, inr, ◌⊎◌, append-nil}
use Rattle.std.specs.Prelude.{⊤, IfSome, MatchOption, Contains, map, option_map, unwrap_or}
use Rattle.std.specs.Prelude.{is_some, slice_get}
use Rattle.std.specs.Io.KnownBytes.{append_known}
use Rattle.std.specs.List.{All, AllZip, flat_map}
use Rattle.std.proofs.lemmas.List.{length-map, take_all}
use Rattle.std.proofs.lemmas.List.Elements.{All-head, All-map, All-tail}
use Rattle.std.proofs.lemmas.Option.{slice_get-map, slice_get_within}
use Rattle.rpq_base.specs.declared.data.Entry.{Entry}
use Rattle.rpq_io.proofs.Bytes.{append_known-nil}
use Rattle.rpq_model.specs.Query.{Query}
use Rattle.join_file.specs.declared.fault.JoinFileFault.{JoinFileFault}
use Rattle.join_file.specs.Joins.{JoinValue}
use Rattle.history_model.specs.declared.line.Why.{Why}
use Rattle.history_model.specs.declared.line.Why.TheVariants.{Write, Memory}
use Rattle.query_file.specs.declared.fault.QueryFault.{QueryFault}
use Rattle.query_file.specs.Laws.{OneOutcome, OneOutcomeOf, OneTwoWayOutcome}
use Rattle.rpq_words.specs.declared.settings.Settings.{Settings}
use Rattle.rpq_words.specs.Views.{asks_of, cap_of, from_of, joins_of, paths_of, streams_of}
use Rattle.rpq_words.specs.Views.{two_way_of}
use Rattle.ask_text.specs.declared.ask.Ask.{Ask}
use Rattle.ask_text.specs.declared.fault.AskFault.{AskFault}
use Rattle.ask_text.specs.Replies.{replies}
use Rattle.live_asks.specs.declared.ends.ReaderEnd.{ReaderEnd}
use Rattle.live_asks.specs.declared.ends.ReaderEnd.TheVariants.{Closed, Memory as ShortOfMemory}
use Rattle.live_asks.specs.declared.reader.ReaderOutcome.{ReaderOutcome}
use Rattle.stream_tuples.specs.declared.ends.StreamEnd.{StreamEnd}
use Rattle.stream_tuples.specs.declared.ends.StreamEnd.TheVariants.{Whole}
use Rattle.stream_tuples.specs.declared.faults.FaultPolicy.{FaultPolicy}
use Rattle.stream_tuples.specs.History.{IsNumberOf, AreTuplesOfEnd, own_tuples, policy_of_sink}
use Rattle.stream_tuples.specs.Limits.{byte_limit_of}
use Rattle.stream_tuples.specs.StreamText.{StreamTuples}
use Rattle.rpq_text.specs.declared.ends.SinkName.{SinkName}
use Rattle.rpq_text.specs.declared.ends.SinkName.TheVariants.{Events, Replies, Save}
use Rattle.rpq_text.specs.ErrorLines.{end_line, end_lines, memory_line, run_lines}
use Rattle.rpq_text.specs.Statuses.{first_status}
use Rattle.entry_steps.specs.Laws.{StepsHaveJoinEvents, StepsHaveTheEvents}
use Rattle.entry_steps.specs.Steps.{OptionsValue, StepValue, AreSteps, events_of}
use Rattle.rpq_text.specs.Text.{blocks_from}
use Rattle.saved_window.specs.Saved.{saved}
use Rattle.saved_window.specs.SavedText.{saved_text}
use Rattle.saved_window.specs.Then.{left_of_both, faults_of_both}
use Rattle.run_start.specs.Files.{HasJoins, HasQueries, HasSessions, ForQueries, ForJoins}
use Rattle.run_start.specs.Files.{ForJoined, ForSessions, ForAsked, stream_contents, with_first}
use Rattle.run_start.specs.Given.{policy_of}
use Rattle.run_start.specs.Texts.{reports_within, tuples_within}
use Rattle.rpq_threads.specs.Runs.{AreSessionsOf, IsLiveOf, asks_answered}
use Rattle.rpq_threads.specs.Told.{BeginsBlock, TellsObjects}
use Rattle.standing.specs.Circles.{CircleValue}
use Rattle.standing.specs.Objects.{ObjectValue}
use Rattle.standing.specs.Stood.{HaveStood}
use Rattle.standing.proofs.HavingStood.{stood_weaker}
use Rattle.rpq_run.specs.Beside.{IsServedEnd, asks_held}
use Rattle.rpq_run.specs.Headline.{Told, IsTold, AreAsked, AreBound, AreJoined, Headline}
use Rattle.rpq_run.specs.Headline.{behind_text, stream_texts}
use Rattle.rpq_run.specs.Options.{options_of}
use Rattle.rpq_run.specs.Outcome.{Meanings, Sinks, Objects, Outcome, ends_of}
use Rattle.rpq_run.specs.Replies.{texts_of}
use Rattle.rpq_run.specs.RunsStreams.{GotText, RunsStreams, FrontsBind, FrontsHold, IsUnsaved}
use Rattle.rpq_run.specs.RunsStreams.{nothing_told}
use Rattle.rpq_run.specs.Shortage.{is_short_before}
use Rattle.rpq_run.specs.Sources.{stream_sources}
use Rattle.rpq_run.specs.Written.{TellsLines, WritesWhere}
use Rattle.rpq_run.proofs.Beside.{all_served, no_reader_lines, served_or_shut}
use Rattle.rpq_run.proofs.Done.{all_at, all_by, as_many_streams, stream_at}
use Rattle.rpq_run.proofs.ErrorTexts.{nil_front}
use Rattle.rpq_run.proofs.Shortages.{never_both, none_short}
use Rattle.rpq_run.proofs.Sinks.{no_sinks}
use Rattle.rpq_run.proofs.Statuses.{IsServedOrShut, first_of_done, sink_quietly, whole_end}
use Rattle.rpq_run.proofs.Telling.{reports_are}

-- ---- the one list of queries, of joins, and of sessions

-- bytes give one thing, whether the queries may take edges backwards or not
pub either_way : OneOutcome → OneTwoWayOutcome → (two_way : Bool) → OneOutcomeOf two_way
either_way one other false = one
either_way one other true = other

-- the queries of bytes that give some
pub one_query_list : (two_way : Bool) → OneOutcomeOf two_way → (bytes : List ℕ)
    (first second : List Query)
    → HasQueries two_way bytes first → HasQueries two_way bytes second → first ≡ second
one_query_list two_way one bytes first second has other =
    let same : ◌≡◌ {A = Result (List Query) QueryFault} (Ok first) (Ok second) =
    one bytes (Ok first) (Ok second) has.1 other.1 in
    cc same

pub from_queries : (two_way : Bool) → OneOutcomeOf two_way → (file : Option (List ℕ)) (bytes : List ℕ)
    (queries : List Query) (P : List Query → Type 0) → file ≡ Some bytes
    → HasQueries two_way bytes queries
    → ForQueries two_way file P → P queries
from_queries two_way one file bytes queries P is has holds =
    let held = subst (λ (f : Option (List ℕ)). ForQueries two_way f P) is holds in
    subst P (one_query_list two_way one bytes held.0 queries held.1 has) held.2

pub from_joins : (given : Settings) (holds : List ℕ → Option (List ℕ)) (queries : List Query)
    (told : Option (List ℕ)) (joins : List JoinValue) (P : List JoinValue → Type 0)
    → option_map holds (joins_of given) ≡ option_map (λ bytes. Some bytes) told
    → AreJoined queries told joins
    → ForJoins given holds queries P → P joins
from_joins given holds queries told joins P is joined = by (joins_of given) told is joined
  where
    by : (named known : Option (List ℕ))
        → option_map holds named ≡ option_map (λ bytes. Some bytes) known
        → AreJoined queries known joins
        → MatchOption named (P []) (λ name. IfSome (holds name)
        (λ bytes. (found : List JoinValue) × HasJoins queries bytes found × P found)) → P joins
    by None None is joined p = subst P (sym {A = List JoinValue} joined) p
    by None (Some bytes) is joined p = absurd (cc is)
    by (Some name) None is joined p = absurd (cc is)
    by (Some name) (Some bytes) is joined p =
        let content : holds name ≡ Some bytes = cc is in
        let held = subst (λ (f : Option (List ℕ)). IfSome f
        (λ text. (found : List JoinValue) × HasJoins queries text found × P found)) content p in
        let same : ◌≡◌ {A = Result (List JoinValue) JoinFileFault} (Ok held.0) (Ok joins) =
        sym held.1.1 ∙ joined.1 in
        let same_joins : held.0 ≡ joins = cc same in
        subst P same_joins held.2

pub from_joined : {S K : Type 0} (means : Meanings S K) (given : Settings)
    (holds : List ℕ → Option (List ℕ)) (sinks : Sinks K) (told : Told) (queries : List Query)
    (joins : List JoinValue) (P : List Query → List JoinValue → Type 0)
    → OneOutcomeOf (two_way_of given)
    → IsTold means given holds sinks told → HasQueries (two_way_of given) told.queries queries
    → AreJoined queries told.joins joins → ForJoined given holds P → P queries joins
from_joined means given holds sinks told queries joins P one is has joined p =
    from_joins given holds queries told.joins joins (P queries) is.joins joined
    (from_queries (two_way_of given) one (holds given.queries) told.queries queries
    (λ all. ForJoins given holds all (P all)) is.queries has p)

pub from_sessions : (given : Settings) (holds : List ℕ → Option (List ℕ)) (queries : List Query)
    (told : Option (List ℕ)) (sessions : List (List Ask)) (P : List (List Ask) → Type 0)
    → option_map holds (asks_of given) ≡ option_map (λ bytes. Some bytes) told
    → AreAsked queries told sessions
    → ForSessions given holds queries P → P sessions
from_sessions given holds queries told sessions P is asked = by (asks_of given) told is asked
  where
    by : (asks known : Option (List ℕ))
        → option_map holds asks ≡ option_map (λ bytes. Some bytes) known
        → AreAsked queries known sessions
        → MatchOption asks (P []) (λ name. IfSome (holds name)
        (λ bytes. (all : List (List Ask)) × HasSessions queries bytes all × P all)) → P sessions
    by None None is asked p = subst P (sym {A = List (List Ask)} asked) p
    by None (Some bytes) is asked p = absurd (cc is)
    by (Some name) None is asked p = absurd (cc is)
    by (Some name) (Some bytes) is asked p =
        let content : holds name ≡ Some bytes = cc is in
        let held = subst (λ (f : Option (List ℕ)). IfSome f
        (λ text. (all : List (List Ask)) × HasSessions queries text all × P all)) content p in
        let same : ◌≡◌ {A = Result (List (List Ask)) AskFault} (Ok held.0) (Ok sessions) =
        sym held.1.1 ∙ asked.1 in
        let same_sessions : held.0 ≡ sessions = cc same in
        subst P same_sessions held.2

pub from_asked : {S K : Type 0} (means : Meanings S K) (given : Settings)
    (holds : List ℕ → Option (List ℕ)) (sinks : Sinks K) (told : Told) (queries : List Query)
    (sessions : List (List Ask)) (P : List Query → List (List Ask) → Type 0)
    → OneOutcomeOf (two_way_of given)
    → IsTold means given holds sinks told → HasQueries (two_way_of given) told.queries queries
    → AreAsked queries told.asks sessions → ForAsked given holds P → P queries sessions
from_asked means given holds sinks told queries sessions P one is has asked p =
    from_sessions given holds queries told.asks sessions (P queries) is.asks asked
    (from_queries (two_way_of given) one (holds given.queries) told.queries queries
    (λ all. ForSessions given holds all (P all)) is.queries has p)

-- there are joins
pub joins_there : {S K : Type 0} (means : Meanings S K) (given : Settings)
    (holds : List ℕ → Option (List ℕ)) (sinks : Sinks K) (told : Told) (queries : List Query)
    → OneOutcomeOf (two_way_of given) → IsTold means given holds sinks told
    → HasQueries (two_way_of given) told.queries queries
    → ForJoined given holds (λ queries joins. Unit {0})
    → (joins : List JoinValue) × AreJoined queries told.joins joins
joins_there means given holds sinks told queries one is has there =
    by (joins_of given) told.joins is.joins
    (from_queries (two_way_of given) one (holds given.queries) told.queries queries
    (λ all. ForJoins given holds all (λ joins. Unit {0})) is.queries has there)
  where
    by : (named known : Option (List ℕ))
        → option_map holds named ≡ option_map (λ bytes. Some bytes) known
        → MatchOption named (Unit {0}) (λ name. IfSome (holds name)
        (λ bytes. (found : List JoinValue) × HasJoins queries bytes found × Unit {0}))
        → (joins : List JoinValue) × AreJoined queries known joins
    by None None is there = ([], refl)
    by None (Some bytes) is there = absurd (cc is)
    by (Some name) None is there = absurd (cc is)
    by (Some name) (Some bytes) is there =
        let content : holds name ≡ Some bytes = cc is in
        let file = subst (λ (f : Option (List ℕ)). IfSome f
        (λ text. (found : List JoinValue) × HasJoins queries text found × Unit {0}))
        content there in
        (file.0, file.1)

-- there are queries and sessions
pub record AreThere (two_way : Bool) (told : Told) : Type 0 where
  pub queries : List Query
  pub has : HasQueries two_way told.queries queries
  pub sessions : List (List Ask)
  pub asked : AreAsked queries told.asks sessions

pub are_there : {S K : Type 0} (means : Meanings S K) (given : Settings)
    (holds : List ℕ → Option (List ℕ)) (sinks : Sinks K) (told : Told)
    → IsTold means given holds sinks told
    → ForAsked given holds (λ queries sessions. Unit {0}) → AreThere (two_way_of given) told
are_there means given holds sinks told is there =
    let held = subst (λ (f : Option (List ℕ)). ForQueries (two_way_of given) f
    (λ queries. ForSessions given holds queries (λ sessions. Unit {0}))) is.queries there in
    let asked = by held.0 (asks_of given) told.asks is.asks held.2 in
    record { queries = held.0; has = held.1; sessions = asked.0; asked = asked.1 }
  where
    by : (queries : List Query) (asks known : Option (List ℕ))
        → option_map holds asks ≡ option_map (λ bytes. Some bytes) known
        → MatchOption asks (Unit {0}) (λ name. IfSome (holds name)
        (λ bytes. (all : List (List Ask)) × HasSessions queries bytes all × Unit {0}))
        → (sessions : List (List Ask)) × AreAsked queries known sessions
    by queries None None is there = ([], refl)
    by queries None (Some bytes) is there = absurd (cc is)
    by queries (Some name) None is there = absurd (cc is)
    by queries (Some name) (Some bytes) is there =
        let content : holds name ≡ Some bytes = cc is in
        let file = subst (λ (f : Option (List ℕ)). IfSome f
        (λ text. (all : List (List Ask)) × HasSessions queries text all × Unit {0}))
        content there in
        (file.0, file.1)

-- ---- the parts

-- what stands on a sink, where nothing stood before
from_nothing : (now : Option (List ℕ)) (text : List ℕ) → now ≡ append_known (nothing_told now) text
    → IfSome now (λ bytes. bytes ≡ text)
from_nothing None text is = tt
from_nothing (Some bytes) text is = cc is

replies_are : {K : Type 0} (written : K → Option (List ℕ)) (text : List ℕ) (failed short : Type 0)
    → (failed → ⊥) → (short → ⊥) → (replies : Option K)
    → IfSome replies (λ sink. WritesWhere failed short (λ t. t ≡ text)
    (nothing_told (written sink)) (written sink))
    → IfSome replies (λ sink. IfSome (written sink) (λ bytes. bytes ≡ text))
replies_are written text failed short none other None writes = tt
replies_are written text failed short none other (Some sink) writes =
    let whole = writes.whole none other in
    from_nothing (written sink) text (subst (λ (t : List ℕ).
    written sink ≡ append_known (nothing_told (written sink)) t) whole.of_kind whole.written)

-- the tuples of a stream, where the history has at most so many entries
tuples_are : (policy : FaultPolicy) (cap : ℕ) (text : List ℕ) (left : Option (List ℕ)) (number : ℕ)
    (history : List Entry) (end : StreamEnd) → end ≡ Whole
    → AreTuplesOfEnd policy (byte_limit_of cap) text left (own_tuples number history) end
    → own_tuples number history ≡ (tuples_within policy cap text).tuples
tuples_are policy cap text left number history end whole tied =
    let at_whole = subst (λ (e : StreamEnd).
    AreTuplesOfEnd policy (byte_limit_of cap) text left (own_tuples number history) e) whole tied in
    sym (ap (λ (ts : StreamTuples). ts.tuples) at_whole.0)

-- what is read as each stream, where all is told
texts_behind : (first : List ℕ) (texts : List (List ℕ))
    → with_first (Some first) (map (λ (bytes : List ℕ). Some bytes) texts)
    ≡ map (λ (bytes : List ℕ). Some bytes) (behind_text first texts)
texts_behind first [] = refl
texts_behind first (text ∷ texts) = refl

pub contents_are : (given : Settings) (holds : List ℕ → Option (List ℕ)) (told : Told)
    → option_map holds (from_of given) ≡ option_map (λ bytes. Some bytes) told.from
    → map holds (streams_of given) ≡ map (λ bytes. Some bytes) told.streams
    → stream_contents given holds ≡ map (λ (bytes : List ℕ). Some bytes) (stream_texts told)
contents_are given holds told from streams =
    ap₂ (λ (first : Option (List ℕ)) (files : List (Option (List ℕ))). with_first first files)
    (by (from_of given) told.from from) streams ∙ texts_behind (unwrap_or told.from []) told.streams
  where
    by : (name known : Option (List ℕ))
        → option_map holds name ≡ option_map (λ bytes. Some bytes) known
        → unwrap_or (option_map holds name) (Some []) ≡ Some (unwrap_or known [])
    by None None is = refl
    by None (Some bytes) is = absurd (cc is)
    by (Some name) None is = absurd (cc is)
    by (Some name) (Some bytes) is = cc is

-- one of two is there exactly where the other is
there_as_told : (holds : List ℕ → Option (List ℕ)) (name known : Option (List ℕ))
    → option_map holds name ≡ option_map (λ bytes. Some bytes) known → is_some name ≡ is_some known
there_as_told holds None None is = refl
there_as_told holds None (Some bytes) is = absurd (cc is)
there_as_told holds (Some name) None is = absurd (cc is)
there_as_told holds (Some name) (Some bytes) is = refl

-- ---- the errors

-- streams that were read to their ends have no line
whole_lines : (ends : List StreamEnd) (number : ℕ) → All (λ (end : StreamEnd). end ≡ Whole) ends
    → end_lines number ends ≡ []
unfolding end_line
whole_lines [] number whole = refl
whole_lines (end ∷ ends) number whole =
    ap (λ (e : StreamEnd). end_line number e ++ end_lines (number + 1) ends)
    (All-head (λ (e : StreamEnd). e ≡ Whole) end ends whole)
    ∙ whole_lines ends (number + 1) (All-tail (λ (e : StreamEnd). e ≡ Whole) end ends whole)

-- a run that is done has none
no_lines : (ends : List StreamEnd) (asked : List ReaderEnd) (failed : List SinkName) (status : ℕ)
    → All (λ (end : StreamEnd). end ≡ Whole) ends → All IsServedEnd asked → failed ≡ []
    → status ≡ 0 → run_lines ends asked failed status ≡ []
unfolding run_lines memory_line
no_lines ends asked failed status whole served none done =
    ap₂ (λ (names : List SinkName) (n : ℕ). run_lines ends asked names n) none done
    ∙ ap₂ (λ (lines more : List ℕ). lines ++ (more ++ [])) (whole_lines ends 1 whole)
    (no_reader_lines asked 1 served)

-- so nothing was written on the errors
nothing_written : {K : Type 0} (written : K → Option (List ℕ)) (failures : K → ℕ) (lines : List ℕ)
    (old new : K) → lines ≡ [] → TellsLines written failures lines old new
    → written new ≡ written old
nothing_written written failures lines old new none told =
    let part = told.prefix in
    part.written ∙ (ap (λ (bytes : List ℕ). append_known (written old) bytes)
    (nil_front part.front part.rest (part.of_kind ∙ none)) ∙ append_known-nil (written old))

-- ---- the objects

-- the steps of a history, one for each entry, which were written, and whose events were told to the
-- objects
record AreAllTold (options : OptionsValue) (queries : List Query) (history : List Entry)
    (before now : Option (List ℕ)) (objects : List ObjectValue) (circle : CircleValue)
    : Type 0 where
  steps : List StepValue
  are_steps : AreSteps options queries history steps
  written : now ≡ append_known before (blocks_from queries 1 history steps)
  heard : HaveStood objects (flat_map (λ own. own) (events_of steps)) ⊤ circle.members circle.left

-- no block begins behind the last one
none_begun : (options : OptionsValue) (queries : List Query) (history : List Entry) (count : ℕ)
    (rest : List ℕ) → count ≡ length history
    → (rest ≡ []) ⊎ BeginsBlock options queries history count rest → rest ≡ []
none_begun options queries history count rest all (inl none) = none
none_begun options queries history count rest all (inr begun) =
    let inside = slice_get_within history count begun.entry begun.there in
    absurd (omega (arith, inside, all))

-- where nothing ended the run early all of them were
all_told : (options : OptionsValue) (queries : List Query) (history : List Entry)
    (before now : Option (List ℕ)) (objects : List ObjectValue) (why : Option Why)
    (circle : CircleValue) → why ≡ None
    → TellsObjects options queries history before now objects why circle
    → AreAllTold options queries history before now objects circle
all_told options queries history before now objects why circle none tells =
    let all : tells.count ≡ length history = tells.all none in
    let whole : take tells.count history ≡ history =
    take_all tells.count history (omega (arith, all)) in
    let text = λ (entries : List Entry) (rest : List ℕ).
    blocks_from queries 1 entries tells.steps ++ rest in
    record {
      steps = tells.steps;
      are_steps = subst (λ (entries : List Entry). AreSteps options queries entries tells.steps)
          whole tells.are_steps;
      written = tells.written ∙ ap (λ (t : List ℕ). append_known before t)
          (ap₂ text whole (none_begun options queries history tells.count tells.rest all tells.part)
          ∙ append-nil (blocks_from queries 1 history tells.steps));
      heard = stood_weaker objects (flat_map (λ own. own) (events_of tells.steps))
          (why ≢ Some Memory) ⊤ circle.members circle.left (λ _ is.
          let no : None ≡ Some Memory = sym none ∙ is in
          absurd (cc no)) tells.told;
    }

-- ---- the bindings

-- where edges are taken forwards alone, the steps have the lines of the changes of the bindings
bound_by : (options : OptionsValue) (queries : List Query) (history : List Entry)
    (steps : List StepValue) → StepsHaveJoinEvents → options.two_way ≡ false
    → AreSteps options queries history steps → FrontsBind queries options.joins history
    → AreBound queries options.joins history steps
bound_by options queries history steps law forwards are bindings =
    let changes = law options queries history steps forwards are in
    record {
      changes = changes.0;
      are_changes = changes.1;
      lines = changes.2;
      held = λ number join at count names.
          bindings number join changes.0 at changes.1 count names;
    }

-- ---- all of it

-- what is told, where edges are taken and paths are told as the settings say
abbrev pub telling : Bool → Bool → Told → Told
telling two_way paths told = record told { two_way = two_way; paths = paths }

-- it holds as the settings say
headline_of : {S K : Type 0} (means : Meanings S K) (given : Settings)
    (holds : List ℕ → Option (List ℕ)) (sinks : Sinks K) (objects : Objects) (outcome : Outcome S K)
    (told : Told) → OneOutcomeOf (two_way_of given) → StepsHaveTheEvents → StepsHaveJoinEvents
    → RunsStreams means given holds sinks objects outcome → outcome.status ≡ 0
    → IsTold means given holds sinks told
    → Headline means (telling (two_way_of given) (paths_of given) told) sinks objects outcome
headline_of means given holds sinks objects outcome told one law lines runs done is =
    let there = are_there means given holds sinks told is runs.understood.asks in
    let found = joins_there means given holds sinks told there.queries one is there.has
    runs.understood.joins in
    let options = options_of given found.0 in
    let quiet : (Contains runs.failed Events → ⊥) =
    sink_quietly outcome.ends (ends_of outcome.readers) runs.failed outcome.status Events
    runs.causes.status_is done in
    let not_short : outcome.status ≢ 8 = λ eight. absurd (omega (arith, eight, done)) in
    let short = none_short outcome.ends (ends_of outcome.readers) runs.short
    (λ is. not_short (runs.causes.memory.1 is)) in
    let tells = from_joined means given holds sinks told there.queries found.0
    (λ queries joins. TellsObjects (options_of given joins) queries outcome.history
    (means.written sinks.events_old) (means.written sinks.events_new) objects.before
    runs.told.why objects.after) one is there.has found.1 runs.told.told in
    let all = all_told options there.queries outcome.history
    (means.written sinks.events_old) (means.written sinks.events_new) objects.before
    runs.told.why objects.after (unended runs.told.why refl quiet
    (never_both runs.short.engine short.engine)) tells in
    let events = law.are options there.queries outcome.history all.steps all.are_steps in
    let sets = from_queries (two_way_of given) one (holds given.queries) told.queries there.queries
    (λ queries. FrontsHold (two_way_of given) queries outcome.history) is.queries there.has
    runs.events.sets in
    let bindings = from_joined means given holds sinks told there.queries found.0
    (λ queries joins. FrontsBind queries joins outcome.history) one is there.has found.1
    runs.events.bindings in
    let last : runs.replies.last ≡ length outcome.history = elim runs.replies.at_end [
      | inl all ↦ all
      | inr other ↦ elim other [
        | inl failed ↦ absurd (quiet failed)
        | inr engine ↦ absurd (never_both runs.short.engine short.engine engine)
      ]
    ] in
    record {
      queries = there.queries;
      accepted = there.has;
      joins = found.0;
      joined = found.1;
      sessions = there.sessions;
      asked = there.asked;
      in_order = in_order;
      no_other = subst (λ n. All (λ (e : Entry). IsNumberOf n e.stream) outcome.history) as_many
          runs.history.no_other;
      few = omega (arith, runs.history.few, is.limit);
      whole = λ capped. runs.history.whole (is.endless ∙ capped);
      from_there = runs.history.from ∙ there_as_told holds (from_of given) told.from is.from;
      as_many = runs.faults.each_stream.as_many ∙ (as_many_streams given holds ∙ as_many);
      faults_there = subst (λ (policy : FaultPolicy).
          All (λ (sink : Option _). policy_of_sink sink ≡ policy) outcome.faults) is.policy
          runs.faults.each_stream.there;
      reported = reported;
      steps = all.steps;
      are_steps = all.are_steps;
      written = all.written ∙ ap (λ (w : Option (List ℕ)). append_known w
          (blocks_from there.queries 1 outcome.history all.steps)) is.events;
      held = λ place query at count pair.
          sets place query (events_of all.steps) at events count pair;
      bound = λ forwards.
          bound_by options there.queries outcome.history all.steps lines forwards all.are_steps
          bindings;
      heard = all.heard;
      readers = subst (λ n.
          AreSessionsOf there.queries outcome.history n there.sessions outcome.sessions) last
          (from_asked means given holds sinks told there.queries there.sessions (λ queries asked.
          AreSessionsOf queries outcome.history runs.replies.last asked outcome.sessions) one is
          there.has there.asked runs.replies.sessions);
      all_answered = from_asked means given holds sinks told there.queries there.sessions
          (λ queries asked. asks_answered outcome.sessions ≡ asked) one is there.has there.asked
          (runs.replies.all short.session);
      served = all_served means there.queries outcome.history told.readers outcome.readers
          each_served (subst (λ (files : List (Option (List ℕ))).
          AllZip (IsLiveOf means.left means.faults means.written means.failures there.queries
          outcome.history (length outcome.history)) files outcome.readers) is.readers
          (subst (λ n. AllZip (IsLiveOf means.left means.faults means.written means.failures
          there.queries outcome.history n) (asks_held given holds) outcome.readers) last
          (from_queries (two_way_of given) one (holds given.queries) told.queries there.queries
          (λ queries. AllZip (IsLiveOf means.left means.faults means.written means.failures queries
          outcome.history runs.replies.last) (asks_held given holds) outcome.readers) is.queries
          there.has runs.readers.each)));
      replies_there = runs.replies.sink ∙ is.replies;
      replied = replies_are means.written (replies (texts_of outcome.sessions))
          (Contains runs.failed Replies) (runs.short.replies ≡ true)
          (sink_quietly outcome.ends (ends_of outcome.readers) runs.failed outcome.status Replies
          runs.causes.status_is done)
          (never_both runs.short.replies short.replies) outcome.replies runs.replies.text;
      window_there = runs.saves.sink ∙ is.save;
      saved_is = window_is outcome.save runs.saves.text
          (sink_quietly outcome.ends (ends_of outcome.readers) runs.failed outcome.status Save
          runs.causes.status_is done)
          (λ reason. elim reason [
            | inl failed ↦ quiet failed
            | inr before ↦
                never_both (is_short_before outcome.ends runs.short) short.before before
          ]) (never_both runs.short.save short.save) there.queries there.has;
      quiet = nothing_written means.written means.failures
          (run_lines outcome.ends (ends_of outcome.readers) runs.failed outcome.status)
          sinks.errors_old sinks.errors_new
          (no_lines outcome.ends (ends_of outcome.readers) runs.failed outcome.status whole_ends
          served_ends none_failed_in done)
          runs.causes.told;
    }
  where
    unended : (why : Option Why) → runs.told.why ≡ why → (Contains runs.failed Events → ⊥)
        → (runs.short.engine ≡ true → ⊥) → runs.told.why ≡ None
    unended None why_is quiet not_short = why_is
    unended (Some Write) why_is quiet not_short = absurd (quiet (runs.told.write why_is))
    unended (Some Memory) why_is quiet not_short = absurd (not_short (runs.told.memory why_is))

    first : first_status outcome.ends (ends_of outcome.readers) runs.failed ≡ 0
    first = first_of_done outcome.ends (ends_of outcome.readers) runs.failed outcome.status
        runs.causes.status_is done

    quiet_of : (sink : SinkName) → Contains runs.failed sink → ⊥
    quiet_of sink = sink_quietly outcome.ends (ends_of outcome.readers) runs.failed outcome.status
        sink runs.causes.status_is done

    whole_ends : All (λ (end : StreamEnd). end ≡ Whole) outcome.ends
    whole_ends = all_by (λ (end : StreamEnd). end ≡ Whole) outcome.ends (λ place end at.
        whole_end outcome.ends (ends_of outcome.readers) runs.failed place end first at)

    none_failed_in : runs.failed ≡ []
    none_failed_in = no_sinks runs.failed (quiet_of Events) (quiet_of Replies) (quiet_of Save)

    -- no reader found the history shut
    not_shut : (place : ℕ) (reader : ReaderOutcome _ _)
        → slice_get outcome.readers place ≡ Some reader → IsServedOrShut reader.end
        → IsServedEnd reader.end
    not_shut place reader at (inl served) = served
    not_shut place reader at (inr (Write, is)) = absurd (quiet_of Events
        (all_at (λ (each : ReaderOutcome _ _). each.end ≡ Closed Write
        → Contains runs.failed Events) outcome.readers place reader runs.readers.closed at is))
    not_shut place reader at (inr (Memory, is)) =
        let eight = all_at (λ (each : ReaderOutcome _ _).
        (each.end ≡ Closed Memory) ⊎ (each.end ≡ ShortOfMemory) → outcome.status ≡ 8)
        outcome.readers place reader runs.readers.memory at (inl is) in
        absurd (omega (arith, eight, done))

    each_served : All (λ (reader : ReaderOutcome _ _). IsServedEnd reader.end) outcome.readers
    each_served = all_by (λ (reader : ReaderOutcome _ _). IsServedEnd reader.end) outcome.readers
        (λ place reader at. not_shut place reader at
        (served_or_shut outcome.ends outcome.readers runs.failed first place reader at))

    served_ends : All IsServedEnd (ends_of outcome.readers)
    served_ends = All-map IsServedEnd (λ (reader : ReaderOutcome _ _). reader.end) outcome.readers
        each_served

    window_is : (save : Option _)
        → IfSome save (λ sink. ForQueries (two_way_of given) (holds given.queries) (λ queries.
        GotText (IsUnsaved runs.failed outcome.ends runs.short) (Contains runs.failed Save)
        (runs.short.save ≡ true) (saved_text (saved queries outcome.history)) (means.written sink)))
        → (Contains runs.failed Save → ⊥)
        → (IsUnsaved runs.failed outcome.ends runs.short → ⊥) → (runs.short.save ≡ true → ⊥)
        → (queries : List Query) → HasQueries (two_way_of given) told.queries queries
        → IfSome save (λ sink. IfSome (means.written sink)
        (λ bytes. bytes ≡ saved_text (saved queries outcome.history)))
    window_is None got none wanted not_short queries has = tt
    window_is (Some sink) got none wanted not_short queries has =
        (from_queries (two_way_of given) one (holds given.queries) told.queries queries (λ all.
        GotText (IsUnsaved runs.failed outcome.ends runs.short) (Contains runs.failed Save)
        (runs.short.save ≡ true) (saved_text (saved all outcome.history)) (means.written sink))
        is.queries has got).whole wanted none not_short

    as_many : length (streams_of given) ≡ length told.streams
    as_many = sym (length-map (streams_of given) holds)
        ∙ (ap (λ (fs : List (Option (List ℕ))). length fs) is.streams
        ∙ length-map told.streams (λ (bytes : List ℕ). Some bytes))

    file_at : (place : ℕ) (text : List ℕ) → slice_get (stream_texts told) place ≡ Some text
        → slice_get (stream_contents given holds) place ≡ Some (Some text)
    file_at place text at =
        ap (λ (fs : List (Option (List ℕ))). slice_get fs place)
        (contents_are given holds told is.from is.streams)
        ∙ (slice_get-map (λ (bytes : List ℕ). Some bytes) (stream_texts told) place
        ∙ ap (option_map (λ (bytes : List ℕ). Some bytes)) at)

    in_order : (place : ℕ) (text : List ℕ) → slice_get (stream_texts told) place ≡ Some text
        → own_tuples (place + 1) outcome.history
        ≡ (tuples_within told.policy told.limit text).tuples
    in_order place text at =
        let stream = stream_at (policy_of given) (left_of_both means.left)
        (faults_of_both means.faults) (cap_of given) (stream_contents given holds)
        (stream_sources outcome.from outcome.sources) outcome.history outcome.ends
        runs.history.each_stream place (Some text) (file_at place text at) in
        subst₂ (λ (policy : FaultPolicy) (cap : ℕ).
        own_tuples (place + 1) outcome.history ≡ (tuples_within policy cap text).tuples)
        is.policy is.limit
        (tuples_are (policy_of given) (cap_of given) text (left_of_both means.left stream.source)
        (place + 1) outcome.history stream.end
        (whole_end outcome.ends (ends_of outcome.readers) runs.failed place stream.end first
        stream.end_is) stream.stream.tied)

    reported : (place : ℕ) (text : List ℕ) (sink : _)
        → slice_get (stream_texts told) place ≡ Some text
        → slice_get outcome.faults place ≡ Some (Some sink)
        → IfSome (means.written sink) (λ bytes. bytes ≡ reports_within told.limit text)
    reported place text sink at there =
        let file = file_at place text at in
        let stream = stream_at (policy_of given) (left_of_both means.left)
        (faults_of_both means.faults) (cap_of given) (stream_contents given holds)
        (stream_sources outcome.from outcome.sources) outcome.history outcome.ends
        runs.history.each_stream place (Some text) file in
        subst (λ (cap : ℕ).
        IfSome (means.written sink) (λ bytes. bytes ≡ reports_within cap text)) is.limit
        (reports_are (cap_of given) text (left_of_both means.left stream.source)
        (own_tuples (place + 1) outcome.history) stream.end
        (whole_end outcome.ends (ends_of outcome.readers) runs.failed place stream.end first
        stream.end_is) (means.written sink)
        (runs.faults.each_stream.each place (Some text) stream.source sink stream.end file
        stream.source_is there stream.end_is).tied)

-- and as it is told
pub headline_holds : {S K : Type 0} (means : Meanings S K) (given : Settings)
    (holds : List ℕ → Option (List ℕ)) (sinks : Sinks K) (objects : Objects) (outcome : Outcome S K)
    (told : Told) → OneOutcome → OneTwoWayOutcome → StepsHaveTheEvents → StepsHaveJoinEvents
    → RunsStreams means given holds sinks objects outcome → outcome.status ≡ 0
    → IsTold means given holds sinks told → Headline means told sinks objects outcome
headline_holds means given holds sinks objects outcome told one other law lines runs done is =
    subst (λ (all : Told). Headline means all sinks objects outcome)
    (λ i. telling (is.two_way i) (is.paths i) told)
    (headline_of means given holds sinks objects outcome told
    (either_way one other (two_way_of given)) law lines runs done is)
