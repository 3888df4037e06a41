-- A run that saves its window, and a second one that goes on from what was saved.
use Rattle.std.specs.Prelude.{◌≡◌, ◌≢◌, ℕ, ◌+◌, ◌≤◌, ◌↔◌, false, List, [], ◌∷◌, ◌++◌, length, map}
use Rattle.std.specs.Prelude.{All, Contains, Option, Some, option_map}
use Rattle.text_parts.specs.Lines.{IsLine, without_return, text_of}
use Rattle.join_bindings.specs.Histories.{IsBindingOver}
use Rattle.join_file.specs.Joins.{JoinValue}
use Rattle.rpq_base.specs.declared.data.Entry.{Entry}
use Rattle.rpq_base.specs.declared.data.Pair.{Pair}
use Rattle.rpq_model.specs.Answers.{IsAnswer}
use Rattle.rpq_model.specs.Ends.{IsUntil}
use Rattle.rpq_model.specs.Query.{Query, path_query}
use Rattle.rpq_words.specs.declared.settings.Settings.{Settings}
use Rattle.tuple_text.specs.Parts.{GivesNothing}
use Rattle.stream_tuples.specs.declared.ends.StreamEnd.TheVariants.{Whole}
use Rattle.stream_tuples.specs.Limits.{line_limit}
use Rattle.saved_window.specs.Saved.{saved, first_stream}
use Rattle.entry_steps.specs.Steps.{OptionsValue, StepValue, AreStepsFrom}
use Rattle.rpq_text.specs.Statuses.{done_status, memory_status, write_status}
use Rattle.rpq_text.specs.Text.{IsText, blocks_from}
use Rattle.run_start.specs.Files.{HasQueries}
use Rattle.run_start.specs.Texts.{tuples_within}
use Rattle.rpq_run.specs.Headline.{Told, IsTold, AreJoined, options_told}
use Rattle.rpq_run.specs.Outcome.{Meanings, Sinks, Objects, Outcome}
use Rattle.rpq_run.specs.RunsStreams.{RunsStreams}

-- ---- the two runs

-- a run over streams: its settings and what its files hold, the sinks and the objects that it was
-- handed, what it left, and the bytes that are told of all this
pub record StreamRun (S K : Type 0) : Type 0 where
  pub given : Settings
  pub holds : List ℕ → Option (List ℕ)
  pub sinks : Sinks K
  pub objects : Objects
  pub outcome : Outcome S K
  pub told : Told

-- the run did what is said of one over streams; its files and the sink of its events tell their
-- bytes
pub record IsToldRun {S K : Type 0} (means : Meanings S K) (run : StreamRun S K) : Type 0 where
  pub runs : RunsStreams means run.given run.holds run.sinks run.objects run.outcome
  pub told : IsTold means run.given run.holds run.sinks run.told

-- a line that gives no tuple: a blank one or a comment, which isn't too long
pub record IsNote (line : List ℕ) : Type 0 where
  pub whole : IsLine line
  pub short : length line ≤ line_limit
  pub nothing : GivesNothing (without_return line)

-- the second run goes on from the first. In the first one no write failed and memory didn't run
-- out: it is done, or its history is full, say. It saved its window, and the file with which the
-- second one begins holds these bytes, perhaps behind lines that give no tuple. Both queries files
-- hold the same bytes. And the second one is done
pub record GoesOn {S K : Type 0} (means : Meanings S K) (first second : StreamRun S K)
    : Type 0 where
  pub no_write : first.outcome.status ≢ write_status
  pub no_memory : first.outcome.status ≢ memory_status
  pub window : List ℕ
  pub saved_is : option_map means.written first.outcome.save ≡ Some (Some window)
  pub notes : List (List ℕ)
  pub are_notes : All IsNote notes
  pub begins : second.told.from ≡ Some (text_of notes ++ window)
  pub same_queries : second.told.queries ≡ first.told.queries
  pub done : second.outcome.status ≡ done_status

-- ---- what comes of it

-- over two histories the queries have the same answers, with the same ends, and each join has the
-- same bindings
pub record AnswerAlike (queries : List Query) (history other : List Entry) : Type 0 where
  pub answers : (query : Query) → Contains queries query → (pair : Pair)
      → IsAnswer (path_query query) history pair ↔ IsAnswer (path_query query) other pair
  pub ends : (query : Query) → Contains queries query → (pair : Pair) (until : ℕ)
      → IsUntil (path_query query) history pair until ↔ IsUntil (path_query query) other pair until
  pub bindings : (join : JoinValue) (names : List (List ℕ))
      → IsBindingOver queries history join names ↔ IsBindingOver queries other join names

-- a history stands for these entries: whatever entries follow, they answer alike
abbrev pub StandsFor : List Query → List Entry → List Entry → Type 0
StandsFor queries history entries =
    (later : List Entry) → AnswerAlike queries (history ++ later) (entries ++ later)

-- edges are taken forwards, and no paths are told
abbrev pub no_paths : List JoinValue → OptionsValue
no_paths joins = record { two_way = false; paths = false; joins = joins }

-- what an entry brings, without the paths that show it
abbrev pub without_paths : StepValue → StepValue
without_paths step = record { events = step.events; shown = []; joined = step.joined }

-- what the second run wrote: the blocks of the saved entries, and behind them those of its new
-- ones. A new entry brings there what it brings behind all entries for which the first run's
-- history stands, and the new ones before it: the same events and the same lines of joins. Its
-- position counts the saved entries; and where paths are told, their positions do. Without paths
-- the text of all those entries, followed by the new blocks with positions that count them, is the
-- text of all those entries and the new ones; and what the first run wrote is such a text, where
-- it tells no paths either, and has the same joins
pub record WritesOn {S K : Type 0} (means : Meanings S K) (first second : StreamRun S K)
    (queries : List Query) (before new : List Entry) : Type 0 where
  pub joins : List JoinValue
  pub joined : AreJoined queries second.told.joins joins
  pub text_before : List ℕ
  pub is_before : IsText (options_told second.told joins) queries before text_before
  pub steps : List StepValue
  pub written : means.written second.sinks.events_new ≡ Some (second.told.events
      ++ (text_before ++ blocks_from queries (length before + 1) new steps))
  pub brought : (entries : List Entry) → StandsFor queries first.outcome.history entries
      → AreStepsFrom (no_paths joins) queries entries new (map without_paths steps)
  pub one_text : second.told.paths ≡ false → (entries : List Entry) (text : List ℕ)
      → StandsFor queries first.outcome.history entries
      → IsText (no_paths joins) queries entries text
      → IsText (no_paths joins) queries (entries ++ new)
      (text ++ blocks_from queries (length entries + 1) new steps)
  pub first_text : List ℕ
  pub first_written : means.written first.sinks.events_new
      ≡ Some (first.told.events ++ first_text)
  pub first_is_text : first.told.paths ≡ false → second.told.joins ≡ first.told.joins
      → IsText (no_paths joins) queries first.outcome.history first_text

-- Neither run takes edges backwards, and both have the same queries. The history of the second one
-- is what is saved of that of the first, and then the tuples of its stream, which are new. What is
-- saved stands for all entries for which the first run's history stands: for these themselves,
-- and where the first run went on from an earlier one, for that run's entries and the first one's
-- own. So after each new tuple the answers, their ends and the bindings of joins are those over all
-- entries; and what the new tuples bring is written
pub record Continues {S K : Type 0} (means : Meanings S K) (first second : StreamRun S K)
    : Type 0 where
  pub forwards : (first.told.two_way ≡ false) × (second.told.two_way ≡ false)
  pub queries : List Query
  pub accepted : HasQueries false first.told.queries queries
  pub stream : List ℕ
  pub one_stream : second.told.streams ≡ stream ∷ []
  pub whole : (tuples_within second.told.policy second.told.limit stream).end ≡ Whole
  pub before : List Entry
  pub before_is : before ≡ first_stream (saved queries first.outcome.history)
  pub new : List Entry
  pub new_is : new ≡ first_stream
      (tuples_within second.told.policy second.told.limit stream).tuples
  pub history : second.outcome.history ≡ before ++ new
  pub itself : StandsFor queries first.outcome.history first.outcome.history
  pub stands : (entries : List Entry) → StandsFor queries first.outcome.history entries
      → StandsFor queries before entries × StandsFor queries second.outcome.history (entries ++ new)
  pub writes : WritesOn means first second queries before new
