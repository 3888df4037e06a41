-- What a run over streams that is done comes to, in one piece.
use Rattle.std.specs.Prelude.{◌≡◌, ℕ, ◌+◌, ◌≤◌, ◌↔◌, ⊤, Bool, false, List, [], ◌∷◌, ◌++◌, length}
use Rattle.std.specs.Prelude.{map, take, All, Option, Some, option_map, unwrap_or, slice_get}
use Rattle.std.specs.Prelude.{is_some, IfSome, MatchOption}
use Rattle.std.specs.List.{AllZip, flat_map}
use Rattle.join_bindings.specs.declared.event.JoinEvent.{JoinEvent}
use Rattle.join_bindings.specs.Histories.{AreJoinEventsOn, IsBindingOver, IsJoinHeld}
use Rattle.join_file.specs.Joins.{JoinValue}
use Rattle.join_bindings.specs.JoinText.{join_lines}
use Rattle.rpq_base.specs.declared.data.Entry.{Entry}
use Rattle.rpq_base.specs.declared.data.Pair.{Pair}
use Rattle.rpq_model.specs.Answers.{IsAnswer}
use Rattle.rpq_model.specs.Events.{IsHeld}
use Rattle.rpq_model.specs.Query.{Query, path_query}
use Rattle.two_way.specs.TwoWay.{walked}
use Rattle.rpq_words.specs.declared.settings.Settings.{Settings}
use Rattle.rpq_words.specs.Views.{asks_of, cap_of, from_of, is_endless, joins_of, paths_of}
use Rattle.rpq_words.specs.Views.{replies_of, save_of, streams_of, two_way_of}
use Rattle.ask_text.specs.declared.ask.Ask.{Ask}
use Rattle.ask_text.specs.Replies.{replies}
use Rattle.saved_window.specs.Saved.{saved}
use Rattle.saved_window.specs.SavedText.{saved_text}
use Rattle.standing.specs.Stood.{HaveStood}
use Rattle.stream_tuples.specs.declared.faults.FaultPolicy.{FaultPolicy}
use Rattle.stream_tuples.specs.History.{IsNumberOf, own_tuples, policy_of_sink}
use Rattle.entry_steps.specs.Steps.{OptionsValue, StepValue, AreSteps, events_of, lines_of}
use Rattle.rpq_text.specs.Text.{blocks_from}
use Rattle.run_start.specs.Files.{HasJoins, HasQueries, HasSessions}
use Rattle.run_start.specs.Given.{policy_of}
use Rattle.run_start.specs.Texts.{reports_within, tuples_within}
use Rattle.rpq_threads.specs.Runs.{AreSessionsOf, asks_answered}
use Rattle.rpq_run.specs.Beside.{IsServed, asks_held}
use Rattle.rpq_run.specs.Outcome.{Meanings, Sinks, Objects, Outcome}

-- whether edges are taken backwards, and whether paths are told; whether replies are to be written,
-- and whether a window is to be saved; what becomes of faulty lines; whether the run goes on as
-- long as its streams do, and how many entries the history may have; the bytes of the queries file;
-- of the joins file, of the asks file and of the saved window with which the run begins, if there
-- are such; of the streams' files and of those by which readers ask; and those that stood on the
-- events before
pub record Told : Type 0 where
  pub two_way : Bool
  pub paths : Bool
  pub replies : Bool
  pub save : Bool
  pub policy : FaultPolicy
  pub endless : Bool
  pub limit : ℕ
  pub queries : List ℕ
  pub joins : Option (List ℕ)
  pub asks : Option (List ℕ)
  pub from : Option (List ℕ)
  pub streams : List (List ℕ)
  pub readers : List (List ℕ)
  pub events : List ℕ

-- the texts of the streams: those of their files, and in front of the first one that of the saved
-- window
abbrev pub behind_text : List ℕ → List (List ℕ) → List (List ℕ)
behind_text first [] = []
behind_text first (text ∷ texts) = (first ++ text) ∷ texts

abbrev pub stream_texts : Told → List (List ℕ)
stream_texts told = behind_text (unwrap_or told.from []) told.streams

-- the settings say so, their files hold these bytes, and the sink of the events had these
pub record IsTold {S K : Type 0} (means : Meanings S K) (given : Settings)
    (holds : List ℕ → Option (List ℕ)) (sinks : Sinks K) (told : Told) : Type 0 where
  pub two_way : (two_way_of given) ≡ told.two_way
  pub paths : (paths_of given) ≡ told.paths
  pub replies : is_some (replies_of given) ≡ told.replies
  pub save : is_some (save_of given) ≡ told.save
  pub policy : policy_of given ≡ told.policy
  pub endless : is_endless given ≡ told.endless
  pub limit : cap_of given ≡ told.limit
  pub queries : holds given.queries ≡ Some told.queries
  pub joins : option_map holds (joins_of given) ≡ option_map (λ bytes. Some bytes) told.joins
  pub asks : option_map holds (asks_of given) ≡ option_map (λ bytes. Some bytes) told.asks
  pub from : option_map holds (from_of given) ≡ option_map (λ bytes. Some bytes) told.from
  pub streams : map holds (streams_of given) ≡ map (λ bytes. Some bytes) told.streams
  pub readers : asks_held given holds ≡ map (λ bytes. Some bytes) told.readers
  pub events : means.written sinks.events_old ≡ Some told.events

-- the joins over these queries: those of the joins file, or none
abbrev pub AreJoined : List Query → Option (List ℕ) → List JoinValue → Type 0
AreJoined queries file joins =
    MatchOption file (joins ≡ []) (λ bytes. HasJoins queries bytes joins)

-- the queries are evaluated, and told of, as is told, with these joins
abbrev pub options_told : Told → List JoinValue → OptionsValue
options_told told joins =
    record { two_way = told.two_way; paths = told.paths; joins = joins }

-- the changes of bindings that each entry of a history brings, whose lines the steps have. After
-- each entry the bindings of a join emitted and not retracted are exactly its bindings over the
-- answers over the entries so far
pub record AreBound (queries : List Query) (joins : List JoinValue) (history : List Entry)
    (steps : List StepValue) : Type 0 where
  pub changes : List (List JoinEvent)
  pub are_changes : AreJoinEventsOn queries joins [] history changes
  pub lines : lines_of steps ≡ map (join_lines joins) changes
  pub held : (number : ℕ) (join : JoinValue) → slice_get joins number ≡ Some join
      → (count : ℕ) (names : List (List ℕ))
      → IsJoinHeld number (flat_map (λ list. list) (take count changes)) names
      ↔ IsBindingOver queries (take count history) join names

-- what readers ask about these queries: the sessions of the asks file, or none
abbrev pub AreAsked : List Query → Option (List ℕ) → List (List Ask) → Type 0
AreAsked queries file sessions =
    MatchOption file (sessions ≡ []) (λ bytes. HasSessions queries bytes sessions)

-- There are queries, joins and sessions, those of their files. There is one history, in which each
-- stream's tuples stand once, in order, and nothing else, and which isn't longer than it may be,
-- and of which all is in memory unless the run goes on as long as its streams do; where the run
-- begins with a saved window, that was read. Where faulty lines are told apart, each stream has a
-- sink for them, on which all of its own are told, in order; and else none has. The events that the
-- history brings were written behind what stood on the sink, with each entry its own; and where
-- paths are told, behind each event that gains a pair a path that shows it. After each entry the
-- pairs of a query emitted and not retracted are exactly its answers over the entries so far, and
-- over their inverses where edges may be taken backwards. Where edges are taken forwards alone, the
-- bindings of a join emitted and not retracted are exactly those over the answers. Each session has
-- exactly its asks answered, each by the answers at a position of the history that never falls
-- within the session; and these replies were written, where they are to be. Each reader beside the
-- run was served. Each object that stayed heard all events that it wants, and one that left a front
-- of them. Where a window is to be saved, it was, and it is that of the history. On the errors
-- nothing was written
pub record Headline {S K : Type 0} (means : Meanings S K) (told : Told) (sinks : Sinks K)
    (objects : Objects) (outcome : Outcome S K) : Type 0 where
  pub queries : List Query
  pub accepted : HasQueries told.two_way told.queries queries
  pub joins : List JoinValue
  pub joined : AreJoined queries told.joins joins
  pub sessions : List (List Ask)
  pub asked : AreAsked queries told.asks sessions
  pub in_order : (place : ℕ) (text : List ℕ) → slice_get (stream_texts told) place ≡ Some text
      → own_tuples (place + 1) outcome.history
      ≡ (tuples_within told.policy told.limit text).tuples
  pub no_other : All (λ entry. IsNumberOf (length told.streams) entry.stream) outcome.history
  pub few : length outcome.history ≤ told.limit
  pub whole : told.endless ≡ false → outcome.base ≡ 0
  pub from_there : is_some outcome.from ≡ is_some told.from
  pub as_many : length outcome.faults ≡ length told.streams
  pub faults_there : All (λ sink. policy_of_sink sink ≡ told.policy) outcome.faults
  pub reported : (place : ℕ) (text : List ℕ) (sink : K)
      → slice_get (stream_texts told) place ≡ Some text
      → slice_get outcome.faults place ≡ Some (Some sink)
      → IfSome (means.written sink) (λ bytes. bytes ≡ reports_within told.limit text)
  pub steps : List StepValue
  pub are_steps : AreSteps (options_told told joins) queries outcome.history steps
  pub written : means.written sinks.events_new
      ≡ Some (told.events ++ blocks_from queries 1 outcome.history steps)
  pub held : (place : ℕ) (query : Query) → slice_get queries place ≡ Some query
      → (count : ℕ) (pair : Pair)
      → IsHeld place (flat_map (λ list. list) (take count (events_of steps))) pair
      ↔ IsAnswer (path_query query) (walked told.two_way (take count outcome.history)) pair
  pub bound : told.two_way ≡ false → AreBound queries joins outcome.history steps
  pub heard : HaveStood objects.before (flat_map (λ list. list) (events_of steps)) ⊤
      objects.after.members objects.after.left
  pub readers : AreSessionsOf queries outcome.history (length outcome.history)
      sessions outcome.sessions
  pub all_answered : asks_answered outcome.sessions ≡ sessions
  pub served : AllZip (IsServed means queries outcome.history) told.readers outcome.readers
  pub replies_there : is_some outcome.replies ≡ told.replies
  pub replied : IfSome outcome.replies (λ sink. IfSome (means.written sink) (λ bytes.
      bytes ≡ replies (map (λ own. map (λ one. one.text) own) outcome.sessions)))
  pub window_there : is_some outcome.save ≡ told.save
  pub saved_is : IfSome outcome.save (λ sink. IfSome (means.written sink) (λ bytes.
      bytes ≡ saved_text (saved queries outcome.history)))
  pub quiet : means.written sinks.errors_new ≡ means.written sinks.errors_old
