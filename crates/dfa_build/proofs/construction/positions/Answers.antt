use Rattle.std.proofs.Common.{◌≤◌, arith}
use Rattle.path_syntax.specs.Expression.{expression}
use Rattle.path_syntax.specs.Size.{atoms}
use Rattle.dfa_build.proofs.Accepting.{first_is, last_is, next_is, have_form, rise, accepts}
use Rattle.dfa_build.proofs.construction.positions.Goals as goal

pub returns-clause-automaton : goal.returns-clause-automaton
returns-clause-automaton c =
    let e = expression c.args.expr.now in
    let few : atoms e ≤ 64 = omega arith in
    record {
      labels = c.in_ok-construct.ensures.labels;
      first = first_is e c.in_ok-construct.field-0 c.in_ok-construct.ensures few;
      last = last_is e c.in_ok-construct.field-0 c.in_ok-construct.ensures few;
      follow = next_is e c.in_ok-construct.field-0 c.in_ok-construct.ensures few;
    }

pub returns-clause-form : goal.returns-clause-form
returns-clause-form c = have_form (expression c.args.expr.now) c.in_ok-construct.field-0 c.in_ok-construct.ensures (omega arith)

pub returns-clause-rising : goal.returns-clause-rising
returns-clause-rising c = rise (expression c.args.expr.now) c.in_ok-construct.field-0 c.in_ok-construct.ensures

pub returns-clause-accepts : goal.returns-clause-accepts
returns-clause-accepts c = accepts (expression c.args.expr.now) c.in_ok-construct.field-0 c.in_ok-construct.ensures (omega arith)
