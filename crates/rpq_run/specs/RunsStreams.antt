-- What the run over streams does.
use Rattle.std.specs.Prelude.{◌≡◌, ℕ, ◌≤◌, ◌⊎◌, ◌↔◌, Bool, true, false, List, [], length, map, take}
use Rattle.std.specs.Prelude.{All, Contains, slice_get, Option, Some, None, is_some, option_map}
use Rattle.std.specs.Prelude.{IfSome}
use Rattle.std.specs.List.{flat_map}
use Rattle.join_bindings.specs.declared.event.JoinEvent.{JoinEvent}
use Rattle.join_bindings.specs.Histories.{AreJoinEventsOn, IsBindingOver, IsJoinHeld}
use Rattle.join_file.specs.Joins.{JoinValue}
use Rattle.rpq_base.specs.declared.data.Entry.{Entry}
use Rattle.rpq_base.specs.declared.data.Event.{Event}
use Rattle.rpq_base.specs.declared.data.Pair.{Pair}
use Rattle.rpq_model.specs.Answers.{IsAnswer}
use Rattle.rpq_model.specs.Events.{IsHeld}
use Rattle.rpq_model.specs.Query.{Query, path_query}
use Rattle.two_way.specs.TwoWay.{walked, AreAllWalkedEvents}
use Rattle.rpq_words.specs.declared.settings.Settings.{Settings}
use Rattle.rpq_words.specs.Views.{cap_of, from_of, is_endless, replies_of, save_of, streams_of}
use Rattle.rpq_words.specs.Views.{two_way_of}
use Rattle.history_model.specs.declared.line.Why.{Why}
use Rattle.history_model.specs.declared.line.Why.TheVariants.{Write, Memory}
use Rattle.ask_text.specs.Replies.{replies}
use Rattle.saved_window.specs.Saved.{saved}
use Rattle.saved_window.specs.SavedText.{saved_text}
use Rattle.saved_window.specs.Then.{left_of_both, faults_of_both}
use Rattle.stream_tuples.specs.declared.ends.StreamEnd.{StreamEnd}
use Rattle.stream_tuples.specs.History.{IsNumberOf, IsPrefix, IsProperPrefix, AreStreamsOf}
use Rattle.stream_tuples.specs.History.{AreReportedOf}
use Rattle.rpq_text.specs.declared.ends.SinkName.{SinkName}
use Rattle.rpq_text.specs.declared.ends.SinkName.TheVariants.{Events, Replies, Save}
use Rattle.rpq_text.specs.Text.{IsText}
use Rattle.run_start.specs.Files.{ForQueries, ForJoined, ForAsked, AreUnderstoodFiles}
use Rattle.run_start.specs.Files.{stream_contents}
use Rattle.run_start.specs.Given.{policy_of}
use Rattle.rpq_threads.specs.Runs.{AreSessionsOf}
use Rattle.rpq_threads.specs.Told.{TellsObjects}
use Rattle.rpq_run.specs.Beside.{AnswersReaders}
use Rattle.rpq_run.specs.Causes.{HasCauses}
use Rattle.rpq_run.specs.Options.{options_of}
use Rattle.rpq_run.specs.Outcome.{Meanings, Sinks, Objects, Outcome}
use Rattle.rpq_run.specs.Shortage.{Shortage, is_short_before}
use Rattle.rpq_run.specs.Sources.{stream_sources}
use Rattle.rpq_run.specs.Written.{WritesWhere}

-- one history: each stream's tuples stand in it, in order, up to the stream's end, and nothing else
-- does. A faulty line ends its stream, or is passed over where the settings name files for them.
-- The history isn't longer than the settings let it be, and unless they let it go on as long as the
-- streams do, no entry has left the memory. The tuples of a saved window, where one is named, come
-- first in the first stream
pub record HoldsStreams {S K : Type 0} (means : Meanings S K) (given : Settings)
    (holds : List ℕ → Option (List ℕ)) (outcome : Outcome S K) : Type 0 where
  pub from : is_some outcome.from ≡ is_some (from_of given)
  pub each_stream : AreStreamsOf (policy_of given) (left_of_both means.left)
      (faults_of_both means.faults) (cap_of given) (stream_contents given holds)
      (stream_sources outcome.from outcome.sources) outcome.history outcome.ends
  pub no_other : All (λ entry. IsNumberOf (length (streams_of given)) entry.stream) outcome.history
  pub few : length outcome.history ≤ cap_of given
  pub whole : is_endless given ≡ false → outcome.base ≡ 0

-- the faulty lines: where the settings name files for them, each stream has a sink, on which those
-- of its own text were told in order, as far as the stream was taken; else there is no such sink
pub record WritesFaults {S K : Type 0} (means : Meanings S K) (given : Settings)
    (holds : List ℕ → Option (List ℕ)) (outcome : Outcome S K) : Type 0 where
  pub each_stream : AreReportedOf (policy_of given) (left_of_both means.left) means.written
      means.failures (cap_of given) (stream_contents given holds)
      (stream_sources outcome.from outcome.sources) outcome.faults outcome.history outcome.ends

-- going through the events of the first blocks of the history's text leaves exactly each query's
-- answers over as many entries, and over their inverses where edges may be taken backwards
abbrev pub FrontsHold : Bool → List Query → List Entry → Type 0
FrontsHold two_way queries history = (place : ℕ) (query : Query) (events : List (List Event))
    → slice_get queries place ≡ Some query → AreAllWalkedEvents two_way queries history events
    → (count : ℕ) (pair : Pair) → IsHeld place (flat_map (λ list. list) (take count events)) pair
    ↔ IsAnswer (path_query query) (walked two_way (take count history)) pair

-- going through the changes of bindings of the first entries leaves exactly each join's bindings
-- over the answers over as many entries
abbrev pub FrontsBind : List Query → List JoinValue → List Entry → Type 0
FrontsBind queries joins history = (number : ℕ) (join : JoinValue)
    (changes : List (List JoinEvent)) → slice_get joins number ≡ Some join
    → AreJoinEventsOn queries joins [] history changes → (count : ℕ) (names : List (List ℕ))
    → IsJoinHeld number (flat_map (λ list. list) (take count changes)) names
    ↔ IsBindingOver queries (take count history) join names

-- the events: the text of the history was written, or a prefix of it where a write failed or
-- memory ran out for the engine. After each block the pairs emitted and not retracted are the
-- answers, and the bindings emitted and not retracted are those over the answers
pub record WritesEvents {S K : Type 0} (means : Meanings S K) (given : Settings)
    (holds : List ℕ → Option (List ℕ)) (failed : List SinkName) (short : Shortage)
    (sinks : Sinks K) (outcome : Outcome S K) : Type 0 where
  pub text : ForJoined given holds (λ queries joins.
      WritesWhere (Contains failed Events) (short.engine ≡ true)
      (IsText (options_of given joins) queries outcome.history)
      (means.written sinks.events_old) (means.written sinks.events_new))
  pub sets : ForQueries (two_way_of given) (holds given.queries) (λ queries.
      FrontsHold (two_way_of given) queries outcome.history)
  pub bindings : ForJoined given holds (λ queries joins.
      FrontsBind queries joins outcome.history)

-- nothing, where what is written on the sink is told
abbrev pub nothing_told : Option (List ℕ) → Option (List ℕ)
nothing_told written = option_map (λ bytes. []) written

-- the replies: each session's asks were answered in order, each at a position that never falls
-- within the session, by what the history has there; no position is above the last one that was
-- published, and a wait that was answered as ended has that one, which is the end of the history,
-- unless a write of the events failed or memory ran out for the engine; all were answered, unless
-- memory ran out for a session; and their text was written, or a prefix of it where a write failed
-- or memory ran out for it
pub record AnswersSessions {S K : Type 0} (means : Meanings S K) (given : Settings)
    (holds : List ℕ → Option (List ℕ)) (failed : List SinkName) (short : Shortage)
    (outcome : Outcome S K) : Type 0 where
  pub last : ℕ
  pub within : last ≤ length outcome.history
  pub at_end : (last ≡ length outcome.history)
      ⊎ (Contains failed Events ⊎ (short.engine ≡ true))
  pub sessions : ForAsked given holds (λ queries asked.
      AreSessionsOf queries outcome.history last asked outcome.sessions)
  pub all : short.session ≡ false → ForAsked given holds (λ queries asked.
      map (λ own. map (λ one. one.ask) own) outcome.sessions ≡ asked)
  pub sink : is_some outcome.replies ≡ is_some (replies_of given)
  pub text : IfSome outcome.replies (λ sink. WritesWhere (Contains failed Replies)
      (short.replies ≡ true)
      (λ text. text ≡ replies (map (λ own. map (λ one. one.text) own) outcome.sessions))
      (nothing_told (means.written sink)) (means.written sink))
  pub no_sink : outcome.replies ≡ None → short.replies ≡ false

-- no window is saved: a write of the events failed, or memory ran out before, for a stream, for
-- the engine, for a session, or for the replies
abbrev pub IsUnsaved : List SinkName → List StreamEnd → Shortage → Type 0
IsUnsaved failed ends short =
    Contains failed Events ⊎ (is_short_before ends short ≡ true)

-- a new sink got this text: nothing of it where nothing is saved; else all of it, unless a write of
-- it failed or memory ran out for it; a proper prefix where a write of it failed; and always a
-- prefix
pub record GotText (unsaved failed short : Type 0) (text : List ℕ) (written : Option (List ℕ))
    : Type 0 where
  pub none : unsaved → IfSome written (λ bytes. bytes ≡ [])
  pub whole : (unsaved → ⊥) → (failed → ⊥) → (short → ⊥)
      → IfSome written (λ bytes. bytes ≡ text)
  pub part : failed → IfSome written (λ bytes. IsProperPrefix bytes text)
  pub prefix : IfSome written (λ bytes. IsPrefix bytes text)

-- the saved window: where one is wanted, its sink got the text of what a later run needs of the
-- history, or nothing where none is saved. Then no write of it failed, and memory didn't run out
-- for it; nor do both ever come
pub record SavesWindow {S K : Type 0} (means : Meanings S K) (given : Settings)
    (holds : List ℕ → Option (List ℕ)) (failed : List SinkName) (short : Shortage)
    (outcome : Outcome S K) : Type 0 where
  pub sink : is_some outcome.save ≡ is_some (save_of given)
  pub text : IfSome outcome.save (λ sink.
      ForQueries (two_way_of given) (holds given.queries) (λ queries.
      GotText (IsUnsaved failed outcome.ends short) (Contains failed Save) (short.save ≡ true)
      (saved_text (saved queries outcome.history)) (means.written sink)))
  pub tried : Contains failed Save ⊎ (short.save ≡ true) → IsUnsaved failed outcome.ends short → ⊥
  pub apart : Contains failed Save → short.save ≡ true → ⊥
  pub no_sink : outcome.save ≡ None → short.save ≡ false

-- the objects: of the events of the blocks that were written whole, and of no other, they heard
-- those that they want. These are all blocks, unless a write of the events failed or memory ran out
-- for the engine
pub record TellsHistory {S K : Type 0} (means : Meanings S K) (given : Settings)
    (holds : List ℕ → Option (List ℕ)) (failed : List SinkName) (short : Shortage)
    (sinks : Sinks K) (objects : Objects) (outcome : Outcome S K) : Type 0 where
  pub why : Option Why
  pub write : why ≡ Some Write → Contains failed Events
  pub memory : why ≡ Some Memory → short.engine ≡ true
  pub told : ForJoined given holds (λ queries joins.
      TellsObjects (options_of given joins) queries outcome.history
      (means.written sinks.events_old) (means.written sinks.events_new) objects.before why
      objects.after)

-- the run over streams
pub record RunsStreams {S K : Type 0} (means : Meanings S K) (given : Settings)
    (holds : List ℕ → Option (List ℕ)) (sinks : Sinks K) (objects : Objects)
    (outcome : Outcome S K) : Type 0 where
  pub understood : AreUnderstoodFiles given holds
  pub failed : List SinkName
  pub short : Shortage
  pub history : HoldsStreams means given holds outcome
  pub faults : WritesFaults means given holds outcome
  pub events : WritesEvents means given holds failed short sinks outcome
  pub replies : AnswersSessions means given holds failed short outcome
  pub readers : AnswersReaders means given holds failed replies.last outcome
  pub saves : SavesWindow means given holds failed short outcome
  pub told : TellsHistory means given holds failed short sinks objects outcome
  pub causes : HasCauses means failed short sinks outcome
