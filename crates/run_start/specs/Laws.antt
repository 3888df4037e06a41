-- What the definitions are meant to say, as laws.
use Rattle.std.specs.Prelude.{◌≡◌, ℕ, ◌+◌, ◌-◌, ◌≤◌, List, [], ◌∷◌, length, codes, All, Option}
use Rattle.std.specs.Prelude.{Some, None}
use Rattle.rpq_base.specs.TupleValue.{TupleValue}
use Rattle.tuple_text.specs.Written.{IsStreamTuple}
use Rattle.stream_tuples.specs.Limits.{byte_limit_of}
use Rattle.stream_tuples.specs.StreamText.{reports_from, tuples_before, tuples_from}
use Rattle.query_file.specs.declared.fault.QueryFault.{QueryFault}
use Rattle.join_file.specs.declared.fault.JoinFileFault.{JoinFileFault}
use Rattle.ask_text.specs.declared.fault.AskFault.{AskFault}
use Rattle.rpq_words.specs.declared.settings.Settings.{Settings}
use Rattle.rpq_words.specs.declared.settings.OutputKind.TheVariants.{Bindings}
use Rattle.rpq_words.specs.Examples.{forwards, over, reader_of, resumed}
use Rattle.rpq_words.specs.Views.{cap_of, from_of, streams_of}
use Rattle.rpq_text.specs.declared.ends.StartFault.TheVariants as start
use Rattle.rpq_text.specs.declared.ends.Which.TheVariants as file
use Rattle.saved_window.specs.SavedText.{saved_text}
use Rattle.run_start.specs.Files.{stream_contents}
use Rattle.run_start.specs.Start.{AreOpened, AreMade}
use Rattle.run_start.specs.Given.{policy_of}
use Rattle.run_start.specs.Texts.{reports_within, tuples_within}

-- the settings of `rpq --joins=j --asks=a --replies=r --reader b w --reader c v --save=s --from=f
-- --faults=e q t`
abbrev pub all_files : Settings
all_files = forwards (record resumed {
  shown = Bindings (codes "j");
  readers = reader_of (codes "b") (codes "w") ∷ reader_of (codes "c") (codes "v") ∷ [];
  faults = codes "e" ∷ [];
})

-- the settings of `rpq q t u`
abbrev pub two_streams : Settings
two_streams = forwards (over (codes "t" ∷ codes "u" ∷ []))

-- the settings of `rpq --faults=e --faults=g q t u`
abbrev pub two_faults : Settings
two_faults = forwards (record (over (codes "t" ∷ codes "u" ∷ [])) {
  faults = codes "e" ∷ codes "g" ∷ [];
})

-- the files of such runs that are opened to read: all of them, in their order, where a run begins;
-- and those that come before the one for which it doesn't, and that one itself where it was opened
pub record ReadInOrder : Type 0 where
  pub all : AreOpened all_files None
      (codes "q" ∷ codes "j" ∷ codes "a" ∷ codes "f" ∷ codes "t" ∷ codes "b" ∷ codes "c" ∷ [])
  pub words : AreOpened all_files (Some start.Words) []
  pub queries : AreOpened all_files (Some (start.Open file.Queries)) []
  pub faulty_queries : (fault : QueryFault) →
      AreOpened all_files (Some (start.Queries fault)) (codes "q" ∷ [])
  pub joins : AreOpened all_files (Some (start.Open file.Joins)) (codes "q" ∷ [])
  pub faulty_joins : (fault : JoinFileFault) →
      AreOpened all_files (Some (start.Joins fault)) (codes "q" ∷ codes "j" ∷ [])
  pub asks : AreOpened all_files (Some (start.Open file.Asks)) (codes "q" ∷ codes "j" ∷ [])
  pub faulty_asks : (fault : AskFault) →
      AreOpened all_files (Some (start.Asks fault)) (codes "q" ∷ codes "j" ∷ codes "a" ∷ [])
  pub from : AreOpened all_files (Some (start.Open file.From))
      (codes "q" ∷ codes "j" ∷ codes "a" ∷ [])
  pub stream : AreOpened all_files (Some (start.Open (file.Stream 1)))
      (codes "q" ∷ codes "j" ∷ codes "a" ∷ codes "f" ∷ [])
  pub asks_of : AreOpened all_files (Some (start.Open (file.AsksOf 1)))
      (codes "q" ∷ codes "j" ∷ codes "a" ∷ codes "f" ∷ codes "t" ∷ [])
  pub second_asks : AreOpened all_files (Some (start.Open (file.AsksOf 2)))
      (codes "q" ∷ codes "j" ∷ codes "a" ∷ codes "f" ∷ codes "t" ∷ codes "b" ∷ [])
  pub replies : AreOpened all_files (Some (start.Open file.Replies))
      (codes "q" ∷ codes "j" ∷ codes "a" ∷ codes "f" ∷ codes "t" ∷ codes "b" ∷ codes "c" ∷ [])
  pub faults_of : AreOpened all_files (Some (start.Open (file.FaultsOf 1)))
      (codes "q" ∷ codes "j" ∷ codes "a" ∷ codes "f" ∷ codes "t" ∷ codes "b" ∷ codes "c" ∷ [])
  pub replies_of : AreOpened all_files (Some (start.Open (file.RepliesOf 1)))
      (codes "q" ∷ codes "j" ∷ codes "a" ∷ codes "f" ∷ codes "t" ∷ codes "b" ∷ codes "c" ∷ [])
  pub second : AreOpened two_streams (Some (start.Open (file.Stream 2)))
      (codes "q" ∷ codes "t" ∷ [])

-- and of those of which a read failed, or that are too long
pub record ReadWholeInOrder : Type 0 where
  pub queries : AreOpened all_files (Some (start.Read file.Queries)) (codes "q" ∷ [])
  pub joins : AreOpened all_files (Some (start.Read file.Joins)) (codes "q" ∷ codes "j" ∷ [])
  pub asks : AreOpened all_files (Some (start.Read file.Asks))
      (codes "q" ∷ codes "j" ∷ codes "a" ∷ [])
  pub long_queries : AreOpened all_files (Some (start.Long file.Queries)) (codes "q" ∷ [])
  pub long_joins : AreOpened all_files (Some (start.Long file.Joins)) (codes "q" ∷ codes "j" ∷ [])
  pub long_asks : AreOpened all_files (Some (start.Long file.Asks))
      (codes "q" ∷ codes "j" ∷ codes "a" ∷ [])

-- the files of such runs that are opened to write: none where it doesn't begin for one that is
-- read, and those of the replies, of the window to be saved, of the faulty lines of each stream and
-- of the replies to each reader, in this order
pub record WrittenInOrder : Type 0 where
  pub all : AreMade all_files None
      (codes "r" ∷ codes "s" ∷ codes "e" ∷ codes "w" ∷ codes "v" ∷ [])
  pub stream : AreMade all_files (Some (start.Open (file.Stream 1))) []
  pub replies : AreMade all_files (Some (start.Open file.Replies)) []
  pub save : AreMade all_files (Some (start.Open file.Save)) (codes "r" ∷ [])
  pub faults_of : AreMade all_files (Some (start.Open (file.FaultsOf 1)))
      (codes "r" ∷ codes "s" ∷ [])
  pub second_faults : AreMade two_faults (Some (start.Open (file.FaultsOf 2))) (codes "e" ∷ [])
  pub all_faults : AreMade two_faults None (codes "e" ∷ codes "g" ∷ [])
  pub asks_of : AreMade all_files (Some (start.Open (file.AsksOf 2))) []
  pub replies_of : AreMade all_files (Some (start.Open (file.RepliesOf 1)))
      (codes "r" ∷ codes "s" ∷ codes "e" ∷ [])
  pub second_replies : AreMade all_files (Some (start.Open (file.RepliesOf 2)))
      (codes "r" ∷ codes "s" ∷ codes "e" ∷ codes "w" ∷ [])

-- a run with these settings, over files that hold this, begins with the text of these tuples, and
-- its stream has this text
pub record BeginsWithSaved (given : Settings) (holds : List ℕ → Option (List ℕ))
    (tuples : List TupleValue) (text : List ℕ) : Type 0 where
  pub from : List ℕ
  pub stream : List ℕ
  pub named : from_of given ≡ Some from
  pub only : streams_of given ≡ stream ∷ []
  pub saved : holds from ≡ Some (saved_text tuples)
  pub fresh : holds stream ≡ Some text
  pub written : All IsStreamTuple tuples
  pub fits : length (saved_text tuples) ≤ byte_limit_of (cap_of given)

-- what is read as the stream of such a run: the tuples that were saved come first, and then those
-- of the stream's own text, whose lines and bytes count behind theirs; and what is told of faulty
-- lines, if they are told apart, is told of that text alone
abbrev pub SavedComesFirst : Type 0
SavedComesFirst = (given : Settings) (holds : List ℕ → Option (List ℕ))
    (tuples : List TupleValue) (text : List ℕ) → BeginsWithSaved given holds tuples text →
    (all : List ℕ) × (stream_contents given holds ≡ Some all ∷ [])
    × (tuples_within (policy_of given) (cap_of given) all ≡ tuples_before tuples
    (tuples_from (policy_of given) (length tuples + 1)
    (byte_limit_of (cap_of given) - length (saved_text tuples)) text))
    × (reports_within (cap_of given) all ≡ reports_from (length tuples + 1)
    (byte_limit_of (cap_of given) - length (saved_text tuples)) text)
