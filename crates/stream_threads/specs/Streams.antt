-- What the worker of a stream does.
use Rattle.std.specs.Prelude.{◌≡◌, ℕ, ◌≤◌, List, [], length, map, Option, is_some, IfSome}
use Rattle.rpq_base.specs.declared.data.Tuple.{Tuple}
use Rattle.rpq_io.specs.Counts.{CountsFault}
use Rattle.turn_lock.specs.Passes.{PassValue}
use Rattle.history_model.specs.declared.line.Why.{Why}
use Rattle.history_model.specs.declared.line.Line.{Line}
use Rattle.history_model.specs.Lines.{entries, HasEnded, IsShutFor}
use Rattle.history_model.specs.World.{Terms}
use Rattle.stream_history.specs.History.{HistoryValue, IsPassOf, IsOpenPass}
use Rattle.stream_tuples.specs.declared.ends.StreamEnd.{StreamEnd}
use Rattle.stream_tuples.specs.declared.ends.StreamEnd.TheVariants.{Read, Faults, Full, Closed}
use Rattle.stream_tuples.specs.Limits.{byte_limit_of}
use Rattle.stream_tuples.specs.History.{CanEnd, AreTuplesOfEnd, ReportsFaults, policy_of_sink}

-- the tuples of the entries that these lines add
abbrev pub tuples_of : List Line → List Tuple
tuples_of lines = map (λ entry. entry.tuple) (entries lines)

-- a stream's pass by which nothing was done yet
pub record IsNewPass (history : HistoryValue) (pass : PassValue Line Terms) : Type 0 where
  pub is_open : IsOpenPass history pass
  pub none : pass.mine ≡ []

-- the worker was given a source, a sink for faulty lines or none, and a pass, and gives them back
-- so, with this end of the stream: what it appended are the tuples of the source's bytes by the
-- end; what it wrote on the sink is what is told of the faulty lines by the end; the end has its
-- cause; and it told the history that its stream has ended
pub record HasStreamed {S K : Type 0} (left : S → Option (List ℕ)) (faults : S → ℕ)
    (written : K → Option (List ℕ)) (failures : K → ℕ) (history : HistoryValue) (before : S)
    (sink : Option K) (given : PassValue Line Terms) (after : S) (sink_after : Option K)
    (pass : PassValue Line Terms) (end : StreamEnd) : Type 0 where
  pub is : IsPassOf history pass
  pub number : pass.number ≡ given.number
  pub there : is_some sink_after ≡ is_some sink
  pub kind : CanEnd (policy_of_sink sink) end
  pub tied : IfSome (left before) (λ text. AreTuplesOfEnd (policy_of_sink sink)
      (byte_limit_of history.terms.cap) text (left after) (tuples_of pass.mine) end)
  pub reported : IfSome sink_after (λ told. IfSome (left before) (λ text.
      IfSome (written told) (λ bytes. ReportsFaults (byte_limit_of history.terms.cap) text
      (left after) (tuples_of pass.mine) bytes end)))
  pub ended : HasEnded pass.mine pass.number
  pub full : end ≡ Full → history.terms.cap ≤ length (entries pass.seen)
  pub closed : (why : Why) → end ≡ Closed why → IsShutFor pass.seen why
  pub read : CountsFault (end ≡ Read) 0 (faults after)
  pub write : IfSome sink_after (λ told. CountsFault (end ≡ Faults) 0 (failures told))
