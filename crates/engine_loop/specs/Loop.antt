-- How far a source, an evaluator and a sink are.
use Rattle.std.specs.Prelude.{◌≡◌, ℕ, true, false, List, ◌++◌, length, take, Option}
use Rattle.entry_steps.specs.Evaluator.{EvaluatorValue, StandsAfter, StandsInFor, queries_of}
use Rattle.entry_steps.specs.Steps.{StepValue, CanRun, AreStepsFrom}
use Rattle.engine_loop.specs.Sources.{ComesNext}
use Rattle.history_model.specs.declared.line.Why.{Why}
use Rattle.rpq_base.specs.declared.data.Entry.{Entry}
use Rattle.rpq_model.specs.Query.{Query}

-- the evaluator is one with which a run can be; where paths are told, edges aren't taken backwards
pub record IsRunnable (evaluator : EvaluatorValue) : Type 0 where
  pub can_run : CanRun evaluator.options (queries_of evaluator)
  pub forwards : evaluator.options.paths ≡ true → evaluator.options.two_way ≡ false

-- the source feeds the evaluator, which stands after all that was given; what is kept stands in for
-- it, with the last front behind; and the sink took as many steps
pub record IsAlong {S K : Type 0} (given kept front : S → List Entry)
    (feeds : S → EvaluatorValue → Type 0) (taken : K → ℕ) (source : S)
    (evaluator : EvaluatorValue) (sink : K) : Type 0 where
  pub is_fed : feeds source evaluator
  pub runs : IsRunnable evaluator
  pub stands : StandsAfter evaluator (given source)
  pub stands_in : StandsInFor evaluator (kept source ++ front source) (given source)
  pub as_many : taken sink ≡ length (given source)

-- the source feeds the evaluator, which stands after all that was given; and what is kept stands in
-- for it, with the last front behind
pub record HasAnswered {S : Type 0} (given kept front : S → List Entry)
    (feeds : S → EvaluatorValue → Type 0) (source : S) (evaluator : EvaluatorValue) : Type 0 where
  pub is_fed : feeds source evaluator
  pub stands : StandsAfter evaluator (given source)
  pub stands_in : StandsInFor evaluator (kept source ++ front source) (given source)

-- the entries that the evaluator answered, of those that were given
abbrev pub answered : EvaluatorValue → List Entry → List Entry
answered evaluator given = take evaluator.position given

-- the source feeds the evaluator, which stands after all that was given but the last front; what is
-- kept stands in for that; and the sink took as many steps
pub record IsBehind {S K : Type 0} (given kept front : S → List Entry)
    (feeds : S → EvaluatorValue → Type 0) (taken : K → ℕ) (source : S)
    (evaluator : EvaluatorValue) (sink : K) : Type 0 where
  pub is_fed : feeds source evaluator
  pub runs : IsRunnable evaluator
  pub stands : StandsAfter evaluator (answered evaluator (given source))
  pub stands_in : StandsInFor evaluator (kept source) (answered evaluator (given source))
  pub comes : ComesNext evaluator (answered evaluator (given source)) (given source) (front source)
  pub as_many : taken sink ≡ evaluator.position

-- from one history to a longer one the sink took the step of each entry, in order, as the evaluator
-- finds them: all steps, or for this reason a part
pub record TakesMore {K : Type 0}
    (takes : List Query → List Entry → List StepValue → Option Why → K → K → Type 0)
    (evaluator : EvaluatorValue) (before after : List Entry) (why : Option Why) (old new : K)
    : Type 0 where
  pub later : List Entry
  pub steps : List StepValue
  pub all : after ≡ before ++ later
  pub are_steps : AreStepsFrom evaluator.options (queries_of evaluator) before later steps
  pub did : takes (queries_of evaluator) later steps why old new
