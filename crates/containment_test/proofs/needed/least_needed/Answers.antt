use Rattle.std.proofs.Common.{length, arith, sym, ap, subst}
use Rattle.dfa_table.specs.DfaValue.{DfaValue}
use Rattle.dfa_table.proofs.Runs.{label_within}
use Rattle.containment_test.specs.Needed.{IsNeeded}
use Rattle.containment_test.proofs.needed.least_needed.Goals as goal

pub returns : goal.returns
returns c = λ label next is.
    let state = c.args.state in
    let here = subst (λ (dfa : DfaValue). IsNeeded dfa state label next) (sym c.dfa-dfa.ensures) is in
    let below = label_within c.dfa-dfa.result.now state label next c.labels.ensures.valid here.leads in
    c.loop-label.invariant label next (omega (arith, below, ap length c.labels.ensures.labels, c.loop-label-test.false)) here
