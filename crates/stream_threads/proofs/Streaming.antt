-- What the worker of a stream gives, of what it took.
use Rattle.std.proofs.Common.{◌≡◌, ℕ, List, sym, ap, subst, ◌∙◌, arith, Option, Some, None}
use Rattle.std.specs.Prelude.{IfSome}
use Rattle.rpq_base.specs.declared.data.Tuple.{Tuple}
use Rattle.rpq_io.specs.Counts.{CountsFault}
use Rattle.turn_lock.specs.Passes.{PassValue}
use Rattle.history_model.specs.declared.line.CallAct.TheVariants.{Shut}
use Rattle.history_model.specs.declared.line.Line.{Line}
use Rattle.history_model.specs.Lines.{end_line}
use Rattle.history_model.specs.World.{Terms}
use Rattle.stream_history.specs.History.{HistoryValue, HasAdded}
use Rattle.stream_tuples.specs.declared.ends.StreamEnd.{StreamEnd}
use Rattle.stream_tuples.specs.declared.ends.StreamEnd.TheVariants.{Read, Faults}
use Rattle.stream_tuples.specs.Limits.{byte_limit_of}
use Rattle.stream_tuples.specs.History.{AreTuplesOfEnd, ReportsFaults, policy_of_sink}
use Rattle.stream_threads.specs.declared.stream_input.StreamInput.{StreamInput}
use Rattle.stream_threads.specs.Streams.{tuples_of, HasStreamed}
use Rattle.stream_threads.specs.Taking.{written_on, failed_on, HasTaken}
use Rattle.stream_threads.proofs.Appending.{tuples_ended, has_ended}
use Rattle.stream_threads.proofs.Seen.{entries_grow, still_there, added_starts}

-- what is said of a sink that may not be there
on_sink : {K : Type 0} (written : K → Option (List ℕ)) (sink : Option K) (file : Option (List ℕ))
    (P : List ℕ → List ℕ → Type 0) →
    IfSome file (λ text. IfSome (written_on written sink) (λ bytes. P text bytes)) →
    IfSome sink (λ told. IfSome file (λ text. IfSome (written told) (λ bytes. P text bytes)))
on_sink written None file P is = tt
on_sink written (Some told) file P is = is

counted_on : {K : Type 0} (failures : K → ℕ) (sink : Option K) (fault : Type 0) →
    CountsFault fault 0 (failed_on failures sink) →
    IfSome sink (λ told. CountsFault fault 0 (failures told))
counted_on failures None fault is = tt
counted_on failures (Some told) fault is = is

module _ {S K : Type 0} (left : S → Option (List ℕ)) (faults : S → ℕ)
    (written : K → Option (List ℕ)) (failures : K → ℕ) (history : HistoryValue)
    (old new : StreamInput S K) (given before after : PassValue Line Terms) (source : S)
    (end : StreamEnd) (number : before.number ≡ given.number)
    (did : HasTaken left faults written failures history old new before end)
    (ended : HasAdded history before (end_line before.number) after)
    (same : source ≡ new.reader.source) where
  -- what holds before the end is told holds after it
  carried : (A : ℕ → S → List Tuple → Type 0) →
      A new.reader.byte_limit new.reader.source (tuples_of before.mine) →
      A (byte_limit_of history.terms.cap) source (tuples_of after.mine)
  carried A is =
      let none : tuples_of after.mine ≡ tuples_of before.mine =
      ap tuples_of ended.mine ∙ tuples_ended before.mine before.number in
      subst (λ (n : ℕ). A n source (tuples_of after.mine)) did.limits
      (subst (λ (s : S). A new.reader.byte_limit s (tuples_of after.mine)) (sym same)
      (subst (λ (ts : List Tuple). A new.reader.byte_limit new.reader.source ts) (sym none) is))

  pub has_streamed : HasStreamed left faults written failures history old.reader.source old.faults
      given source new.faults after end
  has_streamed =
      let file = left old.reader.source in
      let starts = added_starts history before after (end_line before.number) ended in
      record {
        is = ended.is;
        number = ended.number ∙ number;
        there = did.there;
        kind = did.kind;
        tied = carried (λ n s ts. IfSome file (λ text.
            AreTuplesOfEnd (policy_of_sink old.faults) n text (left s) ts end)) did.taken.tied;
        reported = on_sink written new.faults file (λ text bytes.
            ReportsFaults (byte_limit_of history.terms.cap) text (left source)
            (tuples_of after.mine) bytes end)
            (carried (λ n s ts. IfSome file (λ text. IfSome (written_on written new.faults) (λ bytes.
            ReportsFaults n text (left s) ts bytes end))) did.taken.reported);
        ended = has_ended history before after ended;
        full = λ is. omega (arith, did.full is, entries_grow after.seen before.seen starts);
        closed = λ reason is. still_there after.seen before.seen
            (record { by = 0; act = Shut reason }) starts (did.closed reason is);
        read = subst (λ (s : S). CountsFault (end ≡ Read) 0 (faults s)) (sym same) did.read;
        write = counted_on failures new.faults (end ≡ Faults) did.write;
      }
