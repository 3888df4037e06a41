use Rattle.std.proofs.Common.{◌<◌, ◌≤◌, ◌^◌, length, arith}
use Rattle.std.proofs.lemmas.Result.{IfOk-weaker}
use Rattle.path_syntax.specs.Expression.{expression}
use Rattle.path_syntax.specs.Grammar.{two_way, IsTwoWayText}
use Rattle.path_syntax.specs.Faults.{IsWithinLimits}
use Rattle.path_syntax.specs.Size.{nodes}
use Rattle.path_syntax.proofs.Answering.{IsFound, small_text, found, answered, whole, tells}
use Rattle.path_syntax.proofs.read.read_two_way.Goals as goal

pub returns-clause-found : goal.returns-clause-found
returns-clause-found c =
    IfOk-weaker c.read.result (λ x. IsFound two_way c.args.bytes.now (expression x)) (λ x. IsTwoWayText c.args.bytes.now (expression x)) (λ x f. f.text)
    (found two_way expression c.args.bytes.now c.read.result c.read.ensures)

pub returns-clause-within : goal.returns-clause-within
returns-clause-within c =
    IfOk-weaker c.read.result (λ x. IsFound two_way c.args.bytes.now (expression x)) (λ x. IsWithinLimits two_way c.args.bytes.now) (λ x f. f.limits)
    (found two_way expression c.args.bytes.now c.read.result c.read.ensures)

pub returns-clause-small : goal.returns-clause-small
returns-clause-small c =
    IfOk-weaker c.read.result (λ x. IsFound two_way c.args.bytes.now (expression x)) (λ x. nodes (expression x) < 2 ^ 32)
    (λ x f. let size : nodes (expression x) ≤ length c.args.bytes.now = small_text two_way c.args.bytes.now (expression x) f.text in omega arith)
    (found two_way expression c.args.bytes.now c.read.result c.read.ensures)

pub returns-clause-whole : goal.returns-clause-whole
returns-clause-whole c = whole two_way expression c.args.bytes.now c.read.result c.read.ensures

pub returns-clause-fault : goal.returns-clause-fault
returns-clause-fault c = tells two_way expression c.args.bytes.now c.read.result c.read.ensures

pub returns-clause-outcome : goal.returns-clause-outcome
returns-clause-outcome c = answered two_way expression c.args.bytes.now c.read.result c.read.ensures
