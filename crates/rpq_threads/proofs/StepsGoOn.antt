-- What is written of some entries goes on with what is written of those behind them.
use Rattle.std.proofs.Common.{◌≡◌, ℕ, ◌+◌, List, ◌++◌, length, Option, Some, None, refl}
use Rattle.std.proofs.Common.{subst, ◌∙◌, length-append, arith}
use Rattle.engine_loop.specs.Sinks.{GoesOn}
use Rattle.entry_steps.specs.Steps.{StepValue}
use Rattle.history_model.specs.declared.line.Why.{Why}
use Rattle.history_model.specs.declared.line.Why.TheVariants.{Write, Memory}
use Rattle.rpq_base.specs.declared.data.Entry.{Entry}
use Rattle.rpq_io.specs.Counts.{CountsFault}
use Rattle.rpq_model.specs.Query.{Query}
use Rattle.standing.specs.Circles.{as_seen}
use Rattle.standing.specs.Objects.{ObjectValue}
use Rattle.rpq_threads.specs.Blocks.{WritesBlocks, WritesSteps}
use Rattle.rpq_threads.specs.declared.blocks.Blocks.{Blocks}
use Rattle.rpq_threads.proofs.Writing.{writes_none, writes_then, writes_longer, writes_stopped}

-- a fault that isn't met leaves the count
pub unmet : (Fault : Type 0) (before after : ℕ) → (Fault → ⊥) → after ≡ before →
    CountsFault Fault before after
unmet Fault before after never same = record {
  never_falls = omega (arith, same);
  rose = λ is. absurd (never is);
  quiet = λ _. same;
}

module _ {K O : Type 0} (written : K → Option (List ℕ)) (faults : K → ℕ)
    (seen : O → ObjectValue) where
  steps_more : (queries : List Query) (first later : List Entry) (steps rest : List StepValue)
      (why : Option Why) (old mid new : Blocks K O) → length steps ≡ length first →
      WritesSteps written faults seen queries first steps None old mid →
      WritesSteps written faults seen queries later rest why mid new →
      WritesSteps written faults seen queries (first ++ later) (steps ++ rest) why old new
  steps_more queries first later steps rest why old mid new many did then =
      let place : mid.count + 1 ≡ (old.count + 1) + length first =
      omega (arith, did.counted refl) in
      record {
        same = then.same ∙ did.same;
        counted = λ whole. omega (
          arith,
          did.counted refl,
          then.counted whole,
          length-append first later,
        );
        faults_are = subst (λ (n : ℕ). CountsFault (why ≡ Some Write) n (faults new.events.now))
            (did.faults_are.quiet (λ is. cc)) then.faults_are;
        writes = writes_then queries (old.count + 1) first later steps rest many why
            (written old.events.now) (written mid.events.now) (written new.events.now)
            (as_seen seen old.circle) (as_seen seen mid.circle) (as_seen seen new.circle)
            did.writes
            (subst (λ (n : ℕ). WritesBlocks queries n later rest why (written mid.events.now)
            (written new.events.now) (as_seen seen mid.circle) (as_seen seen new.circle)) place
            then.writes);
      }

  -- what is written goes on
  pub steps_go_on : GoesOn (λ (blocks : Blocks K O). blocks.count)
      (λ queries entries steps why old new.
      WritesSteps written faults seen queries entries steps why old new)
  steps_go_on = record {
    none = λ queries blocks. record {
      same = refl;
      counted = λ _. omega arith;
      faults_are = unmet (None ≡ Some Write) (faults blocks.events.now)
          (faults blocks.events.now) (λ is. cc) refl;
      writes = writes_none queries (blocks.count + 1) (written blocks.events.now)
          (as_seen seen blocks.circle);
    };
    more = steps_more;
    longer = λ queries first later steps rest why old new many did. record {
      same = did.same;
      counted = λ is. absurd cc;
      faults_are = did.faults_are;
      writes = writes_longer queries (old.count + 1) first later steps rest many why
          (written old.events.now) (written new.events.now) (as_seen seen old.circle)
          (as_seen seen new.circle) did.writes;
    };
    stopped = λ queries entries steps old new did. record {
      same = did.same;
      counted = λ is. absurd cc;
      faults_are = unmet (Some Memory ≡ Some Write) (faults old.events.now)
          (faults new.events.now) (λ is. cc) (did.faults_are.quiet (λ is. cc));
      writes = writes_stopped queries (old.count + 1) entries steps (written old.events.now)
          (written new.events.now) (as_seen seen old.circle) (as_seen seen new.circle)
          did.writes;
    };
    counted = λ queries entries steps old new did. did.counted refl;
  }
