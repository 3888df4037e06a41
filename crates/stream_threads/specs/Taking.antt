-- What the worker of a stream does with one line. Only private contracts cite this file.
use Rattle.std.specs.Prelude.{◌≡◌, ℕ, ◌<◌, ◌≤◌, List, length, None, Some, Option}
use Rattle.std.specs.Prelude.{is_some, IfSome}
use Rattle.rpq_io.specs.Counts.{CountsFault}
use Rattle.turn_lock.specs.Passes.{PassValue}
use Rattle.history_model.specs.declared.line.Why.{Why}
use Rattle.history_model.specs.declared.line.Line.{Line}
use Rattle.history_model.specs.Lines.{entries, IsShutFor}
use Rattle.history_model.specs.World.{Terms}
use Rattle.stream_history.specs.History.{HistoryValue}
use Rattle.stream_tuples.specs.declared.ends.StreamEnd.{StreamEnd}
use Rattle.stream_tuples.specs.declared.ends.StreamEnd.TheVariants.{Whole, Line as FaultyLine}
use Rattle.stream_tuples.specs.declared.ends.StreamEnd.TheVariants.{LongLine, LongStream, Read}
use Rattle.stream_tuples.specs.declared.ends.StreamEnd.TheVariants.{Faults, Full, Closed, Memory}
use Rattle.stream_tuples.specs.declared.faults.FaultPolicy.{FaultPolicy}
use Rattle.stream_tuples.specs.declared.faults.StreamItem.{StreamItem}
use Rattle.stream_tuples.specs.Faults.{tuples_in, reports_in}
use Rattle.stream_tuples.specs.Limits.{byte_limit_of}
use Rattle.stream_tuples.specs.History.{CanEnd, AreTuplesOfEnd, ReportsFaults, policy_of_sink}
use Rattle.stream_tuples.specs.Progress.{IsStreamReader, HasRead, passed}
use Rattle.stream_threads.specs.declared.stream_input.StreamInput.{StreamInput}
use Rattle.stream_threads.specs.Streams.{tuples_of}

-- what is written on a sink, if there is one and it tells it
abbrev pub written_on : {K : Type 0} → (K → Option (List ℕ)) → Option K → Option (List ℕ)
written_on written None = None
written_on written (Some sink) = written sink

-- how many writes on a sink failed: none, where there is no sink
abbrev pub failed_on : {K : Type 0} → (K → ℕ) → Option K → ℕ
failed_on failures None = 0
failed_on failures (Some sink) = failures sink

-- the items that were read of a stream are taken: its tuples are appended, and what is told of its
-- faulty lines stands on the sink
pub record AreTaken {S K : Type 0} (policy : FaultPolicy) (left : S → Option (List ℕ))
    (written : K → Option (List ℕ)) (file : Option (List ℕ)) (input : StreamInput S K)
    (lines : List Line) : Type 0 where
  pub items : List StreamItem
  pub read : HasRead policy left file items input.reader
  pub tuples : tuples_of lines ≡ tuples_in items
  pub reports : IfSome (written_on written input.faults) (λ bytes. bytes ≡ reports_in items)

-- the items of a stream by this end are taken
pub record AreTakenByEnd {S K : Type 0} (policy : FaultPolicy) (left : S → Option (List ℕ))
    (written : K → Option (List ℕ)) (file : Option (List ℕ)) (input : StreamInput S K)
    (lines : List Line) (end : StreamEnd) : Type 0 where
  pub tied : IfSome file (λ text. AreTuplesOfEnd policy input.reader.byte_limit text
      (left input.reader.source) (tuples_of lines) end)
  pub reported : IfSome file (λ text. IfSome (written_on written input.faults) (λ bytes.
      ReportsFaults input.reader.byte_limit text (left input.reader.source) (tuples_of lines)
      bytes end))

-- one item more was read and taken
pub record TakesOne {S K : Type 0} (left : S → Option (List ℕ)) (written : K → Option (List ℕ))
    (old new : StreamInput S K) (before after : PassValue Line Terms) : Type 0 where
  pub sound : IsStreamReader left new.reader
  pub forward : passed old.reader < passed new.reader
  pub taken : (file : Option (List ℕ))
      → AreTaken (policy_of_sink old.faults) left written file old before.mine
      → AreTaken (policy_of_sink old.faults) left written file new after.mine

-- this is the end of the stream, which has its cause
pub record EndsTaking {S K : Type 0} (left : S → Option (List ℕ)) (written : K → Option (List ℕ))
    (history : HistoryValue) (old new : StreamInput S K) (before after : PassValue Line Terms)
    (end : StreamEnd) : Type 0 where
  pub kind : CanEnd (policy_of_sink old.faults) end
  pub taken : (file : Option (List ℕ))
      → AreTaken (policy_of_sink old.faults) left written file old before.mine
      → AreTakenByEnd (policy_of_sink old.faults) left written file new after.mine end
  pub full : end ≡ Full → history.terms.cap ≤ length (entries after.seen)
  pub closed : (why : Why) → end ≡ Closed why → IsShutFor after.seen why

-- no tuple is taken any more at this end, which has its cause
abbrev pub IsRefusal : HistoryValue → List Line → StreamEnd → Type 0
IsRefusal history lines Whole = ⊥
IsRefusal history lines (FaultyLine number fault) = ⊥
IsRefusal history lines (LongLine number) = ⊥
IsRefusal history lines LongStream = ⊥
IsRefusal history lines Read = ⊥
IsRefusal history lines Faults = ⊥
IsRefusal history lines Full = history.terms.cap ≤ length (entries lines)
IsRefusal history lines (Closed why) = IsShutFor lines why
IsRefusal history lines Memory = Unit {0}

-- the items of a stream by this end are taken, which has its cause
pub record HasTaken {S K : Type 0} (left : S → Option (List ℕ)) (faults : S → ℕ)
    (written : K → Option (List ℕ)) (failures : K → ℕ) (history : HistoryValue)
    (old new : StreamInput S K) (pass : PassValue Line Terms) (end : StreamEnd) : Type 0 where
  pub there : is_some new.faults ≡ is_some old.faults
  pub kind : CanEnd (policy_of_sink old.faults) end
  pub limits : new.reader.byte_limit ≡ byte_limit_of history.terms.cap
  pub taken : AreTakenByEnd (policy_of_sink old.faults) left written (left old.reader.source) new
      pass.mine end
  pub full : end ≡ Full → history.terms.cap ≤ length (entries pass.seen)
  pub closed : (why : Why) → end ≡ Closed why → IsShutFor pass.seen why
  pub read : CountsFault (end ≡ Read) 0 (faults new.reader.source)
  pub write : CountsFault (end ≡ Faults) 0 (failed_on failures new.faults)
