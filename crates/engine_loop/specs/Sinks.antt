-- What is so of whatever takes the steps of entries, front after front.
use Rattle.std.specs.Prelude.{◌≡◌, ℕ, ◌+◌, List, [], ◌++◌, length, Option, Some, None}
use Rattle.entry_steps.specs.Steps.{StepValue}
use Rattle.history_model.specs.declared.line.Why.{Why}
use Rattle.history_model.specs.declared.line.Why.TheVariants.{Memory}
use Rattle.rpq_base.specs.declared.data.Entry.{Entry}
use Rattle.rpq_model.specs.Query.{Query}

-- what a sink takes goes on. Without entries nothing is taken; all steps of some entries and then
-- those of the entries behind them are those of both; a part of some steps is a part of more; where
-- memory runs out behind the last step, that is a part as well; and all that is taken is counted
pub record GoesOn {K : Type 0} (taken : K → ℕ)
    (takes : List Query → List Entry → List StepValue → Option Why → K → K → Type 0)
    : Type 0 where
  pub none : (queries : List Query) (sink : K) → takes queries [] [] None sink sink
  pub more : (queries : List Query) (first later : List Entry) (steps rest : List StepValue)
      (why : Option Why) (old mid new : K) → length steps ≡ length first →
      takes queries first steps None old mid → takes queries later rest why mid new →
      takes queries (first ++ later) (steps ++ rest) why old new
  pub longer : (queries : List Query) (first later : List Entry) (steps rest : List StepValue)
      (why : Why) (old new : K) → length steps ≡ length first →
      takes queries first steps (Some why) old new →
      takes queries (first ++ later) (steps ++ rest) (Some why) old new
  pub stopped : (queries : List Query) (entries : List Entry) (steps : List StepValue)
      (old new : K) → takes queries entries steps None old new →
      takes queries entries steps (Some Memory) old new
  pub counted : (queries : List Query) (entries : List Entry) (steps : List StepValue)
      (old new : K) → takes queries entries steps None old new →
      taken new ≡ taken old + length entries
