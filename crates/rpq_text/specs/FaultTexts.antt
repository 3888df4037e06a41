-- Why runs don't begin, as it is told.
use Rattle.std.specs.Prelude.{◌≡◌, ◌≢◌, ℕ, List, ◌++◌, codes}
use Rattle.query_file.specs.FaultTexts.{query_fault_text}
use Rattle.ask_text.specs.FaultTexts.{ask_fault_text}
use Rattle.join_file.specs.FaultTexts.{joins_fault_text}
use Rattle.rpq_words.specs.Usage.{usage}
use Rattle.rpq_text.specs.declared.ends.Which.{Which}
use Rattle.rpq_text.specs.declared.ends.Which.TheVariants.{Queries, Joins, Asks, From, Stream}
use Rattle.rpq_text.specs.declared.ends.Which.TheVariants.{Replies, Save, FaultsOf, AsksOf}
use Rattle.rpq_text.specs.declared.ends.Which.TheVariants.{RepliesOf}
use Rattle.rpq_text.specs.declared.ends.StartFault.{StartFault}
use Rattle.rpq_text.specs.declared.ends.StartFault.TheVariants.{Words, Queries as QueriesFault}
use Rattle.rpq_text.specs.declared.ends.StartFault.TheVariants.{Joins as JoinsFaulty}
use Rattle.rpq_text.specs.declared.ends.StartFault.TheVariants.{Asks as AsksFault, Open, Read, Long}
use Rattle.rpq_text.specs.declared.ends.StartFault.TheVariants.{Memory}
use Rattle.rpq_text.specs.ErrorLines.{file_text, start_line}

-- a failed read of a file
abbrev pub read_text : Which → List ℕ
read_text which = codes "read failed: " ++ file_text which

-- a failed opening of a file to write
abbrev pub write_text : Which → List ℕ
write_text which = codes "write failed: " ++ file_text which

-- a failed opening of a file: the replies, the saved window, the faulty lines of a stream and the
-- replies of a reader were to be written, and the others to be read
abbrev pub opening_text : Which → List ℕ
opening_text Queries = read_text Queries
opening_text Joins = read_text Joins
opening_text Asks = read_text Asks
opening_text From = read_text From
opening_text (Stream number) = read_text (Stream number)
opening_text Replies = write_text Replies
opening_text Save = write_text Save
opening_text (FaultsOf number) = write_text (FaultsOf number)
opening_text (AsksOf number) = read_text (AsksOf number)
opening_text (RepliesOf number) = write_text (RepliesOf number)

-- why a run didn't begin, as it is told
abbrev pub start_fault_text : StartFault → List ℕ
start_fault_text Words = codes "words"
start_fault_text (QueriesFault fault) = codes "queries " ++ query_fault_text fault
start_fault_text (JoinsFaulty fault) = codes "joins " ++ joins_fault_text fault
start_fault_text (AsksFault fault) = codes "asks " ++ ask_fault_text fault
start_fault_text (Open which) = opening_text which
start_fault_text (Read which) = read_text which
start_fault_text (Long which) = file_text which ++ codes ": too long"
start_fault_text Memory = codes "memory"

-- the line of a run that didn't begin tells just that; where the words are refused, a second one
-- says how the command is used
pub record StartLinesTellFaults : Type 0 where
  pub words : start_line Words
      ≡ codes "rpq: " ++ (start_fault_text Words ++ (codes "\n" ++ (usage ++ codes "\n")))
  pub others : (fault : StartFault) → fault ≢ Words →
      start_line fault ≡ codes "rpq: " ++ (start_fault_text fault ++ codes "\n")
