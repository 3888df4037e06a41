-- What a run over streams comes to with any status, in one piece.
use Rattle.std.specs.Prelude.{◌≡◌, ◌≢◌, ℕ, ◌+◌, ◌≤◌, ◌↔◌, Bool, true, false, List, [], ◌++◌, length}
use Rattle.std.specs.Prelude.{map, All, Some, slice_get, IfSome}
use Rattle.std.specs.List.{AllZip}
use Rattle.ask_text.specs.declared.ask.Ask.{Ask}
use Rattle.ask_text.specs.Replies.{replies}
use Rattle.join_file.specs.Joins.{JoinValue}
use Rattle.rpq_model.specs.Query.{Query}
use Rattle.rpq_text.specs.Statuses.{memory_status, write_status}
use Rattle.rpq_text.specs.Text.{IsText}
use Rattle.run_start.specs.Files.{HasQueries}
use Rattle.run_start.specs.Texts.{reports_within, tuples_within}
use Rattle.rpq_threads.specs.Runs.{AreSessionsOf, IsLiveOf, asks_answered}
use Rattle.saved_window.specs.Saved.{saved}
use Rattle.saved_window.specs.SavedText.{saved_text}
use Rattle.stream_tuples.specs.declared.ends.StreamEnd.TheVariants.{Read}
use Rattle.stream_tuples.specs.History.{IsNumberOf, IsPrefix, own_tuples, policy_of_sink}
use Rattle.rpq_run.specs.Headline.{Told, AreAsked, AreJoined, options_told, stream_texts}
use Rattle.rpq_run.specs.Outcome.{Meanings, Sinks, Outcome, ends_of}
use Rattle.rpq_run.specs.Shortage.{Shortage, has_memory_end, has_short_reader, is_short}

-- no write failed, and memory didn't run out
abbrev pub IsUncut : ℕ → Type 0
IsUncut status = (status ≢ write_status) × (status ≢ memory_status)

-- what was written of a text on a sink is a front of it: all of it where nothing was cut; not all
-- of it where a write on the sink failed, and then memory didn't run out for it
pub record IsFrontOf (failed uncut : Type 0) (short : Bool) (text front : List ℕ) : Type 0 where
  pub prefix : IsPrefix front text
  pub whole : uncut → front ≡ text
  pub cut : failed → front ≢ text
  pub apart : failed → short ≡ false

-- There are queries, joins and sessions, those of their files. The history has of each stream of
-- which no read failed the first tuples, in order, and nothing else, and isn't longer than it may
-- be; all of it is in memory, unless the run goes on as long as its streams do. Where faulty lines
-- are told apart, each stream has a sink for them, and else none has; and of each stream of which
-- no read failed a front of what is to be told stands there. Behind what stood on the sink of the
-- events a front of the history's text was written. Each session has its first asks answered, each
-- by the answers at a position of the history that never falls within the session; and a front of
-- these replies was written, where they are to be. Each reader beside the run has what it asked
-- answered up to its end, at such positions, and its own sink has the text. Where a window is to be
-- saved, a front of that of the history was: nothing of it where a stream ended for want of memory.
-- All of this, but what the streams' and the readers' own ends say, is whole unless the status is
-- that of a failed write or of out of memory. The status is that of out of memory exactly where
-- memory ran out for a stream, for the engine, for a session, for one of the texts, or for a
-- reader; a failed write of the window isn't told so, unless memory ran out for a reader
pub record AnyStatus {S K : Type 0} (means : Meanings S K) (told : Told) (sinks : Sinks K)
    (outcome : Outcome S K) : Type 0 where
  pub queries : List Query
  pub accepted : HasQueries told.two_way told.queries queries
  pub joins : List JoinValue
  pub joined : AreJoined queries told.joins joins
  pub sessions : List (List Ask)
  pub asked : AreAsked queries told.asks sessions
  pub in_order : (place : ℕ) (text : List ℕ) → slice_get (stream_texts told) place ≡ Some text
      → slice_get outcome.ends place ≢ Some Read
      → IsPrefix (own_tuples (place + 1) outcome.history)
      (tuples_within told.policy told.limit text).tuples
  pub no_other : All (λ entry. IsNumberOf (length told.streams) entry.stream) outcome.history
  pub few : length outcome.history ≤ told.limit
  pub whole : told.endless ≡ false → outcome.base ≡ 0
  pub as_many : length outcome.faults ≡ length told.streams
  pub faults_there : All (λ sink. policy_of_sink sink ≡ told.policy) outcome.faults
  pub reported : (place : ℕ) (text : List ℕ) (sink : K)
      → slice_get (stream_texts told) place ≡ Some text
      → slice_get outcome.ends place ≢ Some Read
      → slice_get outcome.faults place ≡ Some (Some sink)
      → IfSome (means.written sink) (λ bytes. IsPrefix bytes (reports_within told.limit text))
  pub short : Shortage
  pub memory : (outcome.status ≡ memory_status)
      ↔ (is_short outcome.ends (ends_of outcome.readers) short ≡ true)
  pub text : List ℕ
  pub of_history : IsText (options_told told joins) queries outcome.history text
  pub front : List ℕ
  pub written : means.written sinks.events_new ≡ Some (told.events ++ front)
  pub events : IsFrontOf (means.failures sinks.events_new ≢ means.failures sinks.events_old)
      (IsUncut outcome.status) short.engine text front
  pub last : ℕ
  pub within : last ≤ length outcome.history
  pub at_end : IsUncut outcome.status → last ≡ length outcome.history
  pub readers : AreSessionsOf queries outcome.history last sessions outcome.sessions
  pub all_answered : IsUncut outcome.status → asks_answered outcome.sessions ≡ sessions
  pub replied : IfSome outcome.replies (λ sink. IfSome (means.written sink)
      (IsFrontOf (means.failures sink ≢ 0) (IsUncut outcome.status) short.replies
      (replies (map (λ own. map (λ one. one.text) own) outcome.sessions))))
  pub beside : AllZip (IsLiveOf means.left means.faults means.written means.failures queries
      outcome.history last) (map (λ bytes. Some bytes) told.readers) outcome.readers
  pub saved_is : IfSome outcome.save (λ sink. IfSome (means.written sink)
      (IsFrontOf (means.failures sink ≢ 0) (IsUncut outcome.status) short.save
      (saved_text (saved queries outcome.history))))
  pub none_saved : has_memory_end outcome.ends ≡ true
      → IfSome outcome.save (λ sink. IfSome (means.written sink) (λ bytes. bytes ≡ []))
  pub window_failed : has_short_reader (ends_of outcome.readers) ≡ false
      → IfSome outcome.save (λ sink.
      means.failures sink ≢ 0 → outcome.status ≡ write_status)
  pub no_replies : told.replies ≡ false → short.replies ≡ false
  pub no_window : told.save ≡ false → short.save ≡ false
