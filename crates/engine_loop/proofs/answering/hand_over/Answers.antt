use Rattle.std.proofs.Common.{List, sym, subst, ◌∙◌}
use Rattle.std.specs.Result.{result_err}
use Rattle.entry_steps.specs.Evaluator.{Brings}
use Rattle.entry_steps.specs.Steps.{StepValue}
use Rattle.engine_loop.proofs.Taking.{numbers_told, many_told, takes_none_told, takes_told}
use Rattle.engine_loop.proofs.answering.hand_over.Goals as goal

pub take-requires-clause-numbers : goal.take-requires-clause-numbers
take-requires-clause-numbers g c =
    let before = c.requires.tells.0 in
    let evaluator = c.args.evaluator.now in
    let entries = c.args.entries.now in
    let brings = subst (λ (steps : List StepValue). Brings before evaluator entries steps)
    (sym (c.deref.ensures.value ∙ c.in-Ok.ensures)) c.requires.tells.1.brings in
    numbers_told before entries evaluator c.deref.result.now brings c.queries.result.now
    c.queries.ensures

pub take-requires-clause-as_many : goal.take-requires-clause-as_many
take-requires-clause-as_many g c =
    let before = c.requires.tells.0 in
    let evaluator = c.args.evaluator.now in
    let entries = c.args.entries.now in
    let brings = subst (λ (steps : List StepValue). Brings before evaluator entries steps)
    (sym (c.deref.ensures.value ∙ c.in-Ok.ensures)) c.requires.tells.1.brings in
    many_told before entries evaluator c.deref.result.now brings c.queries.result.now
    c.queries.ensures

pub returns-in_default : goal.returns-in_default
returns-in_default g c = λ before tells.
    takes_none_told g.K.StepSink.taken g.K.StepSink.takes c.goes_on.ensures before
    c.args.entries.now c.args.evaluator.now c.args.told tells c.args.sink.now

pub returns : goal.returns
returns g c = λ before tells.
    let evaluator = c.args.evaluator.now in
    let entries = c.args.entries.now in
    let brings = subst (λ (steps : List StepValue). Brings before evaluator entries steps)
    (sym (c.deref.ensures.value ∙ c.in-Ok.ensures)) tells.brings in
    takes_told g.K.StepSink.taken g.K.StepSink.takes c.goes_on.ensures before entries evaluator
    c.deref.result.now brings c.queries.result.now c.queries.ensures (result_err c.take.result)
    c.args.sink.now c.take.new.self c.take.ensures
