-- When all is done.
use Rattle.std.specs.Prelude.{◌≡◌, ℕ, ◌≤◌, List, length, map, sum, All, Option, option_map}
use Rattle.std.specs.Prelude.{unwrap_or, Bool, IfSome, IsSomeAnd}
use Rattle.rpq_io.specs.Counts.{Rose}
use Rattle.rpq_words.specs.Modes.{count_of}
use Rattle.rpq_words.specs.declared.reader_names.ReaderFiles.{ReaderFiles}
use Rattle.rpq_words.specs.declared.settings.Settings.{Settings}
use Rattle.rpq_words.specs.Views.{asks_of, cap_of, joins_of, mode_of, readers_of}
use Rattle.rpq_words.specs.Views.{two_way_of}
use Rattle.live_asks.specs.Items.{asked_items}
use Rattle.text_items.specs.declared.ends.TextEnd.TheVariants.{LongText}
use Rattle.stream_tuples.specs.declared.ends.StreamEnd.TheVariants.{Whole}
use Rattle.stream_tuples.specs.declared.faults.FaultPolicy.{FaultPolicy}
use Rattle.run_start.specs.Files.{IsFaultless, AreFaultlessAsks, AreFaultlessJoins}
use Rattle.run_start.specs.Files.{ForQueries, stream_contents}
use Rattle.run_start.specs.Given.{file_names, policy_of, sink_names}
use Rattle.run_start.specs.Ready.{AreReadWhole}
use Rattle.run_start.specs.Texts.{tuples_within}
use Rattle.rpq_run.specs.Outcome.{Meanings, Sinks, Openings, Outcome}

-- the bytes of a stream are told, and it has no fault that ends it, in a history of at most so many
-- entries
abbrev pub IsWholeStream : FaultPolicy → ℕ → Option (List ℕ) → Type 0
IsWholeStream policy cap file =
    IsSomeAnd file (λ text. (tuples_within policy cap text).end ≡ Whole)

-- how many tuples a stream has there, where its bytes are told
abbrev pub tuple_count : FaultPolicy → ℕ → Option (List ℕ) → ℕ
tuple_count policy cap file =
    unwrap_or (option_map (λ text. length (tuples_within policy cap text).tuples) file) 0

-- the asks of a reader don't have too many bytes, or have a line that ends it before, by the
-- queries of this queries file
abbrev pub AreFewAsks : Bool → Option (List ℕ) → List ℕ → Type 0
AreFewAsks two_way queries_file bytes =
    ForQueries two_way queries_file (λ queries. (asked_items queries bytes).end ≡ LongText) → ⊥

-- the bytes of all files are told and have no fault but lines that are told apart, and the history
-- can hold the streams' tuples, or those that are generated
pub record CanBeDone (given : Settings) (holds : List ℕ → Option (List ℕ)) : Type 0 where
  pub understood : IsSomeAnd (holds given.queries) (IsFaultless (two_way_of given))
  pub joins : IfSome (joins_of given) (λ name.
      IsSomeAnd (holds name) (AreFaultlessJoins (two_way_of given) (holds given.queries)))
  pub asks : IfSome (asks_of given) (λ name.
      IsSomeAnd (holds name) (AreFaultlessAsks (two_way_of given) (holds given.queries)))
  pub whole : All (IsWholeStream (policy_of given) (cap_of given)) (stream_contents given holds)
  pub few : sum (map (tuple_count (policy_of given) (cap_of given)) (stream_contents given holds))
      ≤ cap_of given
  pub readers : All (λ (files : ReaderFiles). IsSomeAnd (holds files.asks)
      (AreFewAsks (two_way_of given) (holds given.queries))) (readers_of given)
  pub made : IfSome (count_of (mode_of given)) (λ count. count ≤ cap_of given)

-- no count rose that shows a failure: of an opening of one of the files, of a read of a source, or
-- of a write of the events, the faulty lines of a stream, the replies, the saved window or what a
-- reader is answered
pub record NothingRose {S K : Type 0} (means : Meanings S K) (given : Settings)
    (openings : Openings) (sinks : Sinks K) (outcome : Outcome S K) : Type 0 where
  pub unread : All (λ name. ¬ Rose (openings.unread_old name) (openings.unread_new name))
      (file_names given)
  pub unmade : All (λ name. ¬ Rose (openings.unmade_old name) (openings.unmade_new name))
      (sink_names given)
  pub reads : All (λ source. ¬ Rose 0 (means.faults source)) outcome.sources
  pub from : IfSome outcome.from (λ source. ¬ Rose 0 (means.faults source))
  pub reported : All (λ sink. IfSome sink (λ own. ¬ Rose 0 (means.failures own))) outcome.faults
  pub writes : ¬ Rose (means.failures sinks.events_old) (means.failures sinks.events_new)
  pub replies : IfSome outcome.replies (λ sink. ¬ Rose 0 (means.failures sink))
  pub save : IfSome outcome.save (λ sink. ¬ Rose 0 (means.failures sink))
  pub asked : All (λ one. ¬ Rose 0 (means.faults one.source)) outcome.readers
  pub answered : All (λ one. ¬ Rose 0 (means.failures one.replies)) outcome.readers

-- nothing failed: no opening of a file, no read of a file, and no write of the events, the faulty
-- lines of a stream, the replies, the saved window or what a reader is answered
pub record NothingFails {S K : Type 0} (means : Meanings S K) (words : Option Settings)
    (holds : List ℕ → Option (List ℕ)) (openings : Openings) (sinks : Sinks K)
    (outcome : Outcome S K) : Type 0 where
  pub unread : (name : List ℕ) → openings.unread_new name ≡ openings.unread_old name
  pub unmade : (name : List ℕ) → openings.unmade_new name ≡ openings.unmade_old name
  pub whole : IfSome words (λ given. AreReadWhole means.left means.faults given holds)
  pub reads : All (λ source. means.faults source ≡ 0) outcome.sources
  pub from : IfSome outcome.from (λ source. means.faults source ≡ 0)
  pub reported : All (λ sink. IfSome sink (λ own. means.failures own ≡ 0)) outcome.faults
  pub writes : means.failures sinks.events_new ≡ means.failures sinks.events_old
  pub replies : IfSome outcome.replies (λ sink. means.failures sink ≡ 0)
  pub save : IfSome outcome.save (λ sink. means.failures sink ≡ 0)
  pub asked : All (λ one. means.faults one.source ≡ 0) outcome.readers
  pub answered : All (λ one. means.failures one.replies ≡ 0) outcome.readers
