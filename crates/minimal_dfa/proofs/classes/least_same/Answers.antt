use Rattle.std.proofs.Common.{ℕ, Some, sym, subst, ⊎_elim, arith}
use Rattle.std.proofs.lemmas.Bool.{cases_eq}
use Rattle.minimal_dfa.specs.Classes.{AreTold}
use Rattle.minimal_dfa.proofs.classes.least_same.Goals as goal

pub loop-other-preserved : goal.loop-other-preserved
loop-other-preserved c = λ other above below.
    let here : AreTold c.args.pairs.now c.loop-other.other (Some c.args.state) = c.is_same.ensures.told c.if-is_same.false in
    ⊎_elim
    (λ same. subst (λ (n : ℕ). AreTold c.args.pairs.now n (Some c.args.state)) (sym same) here)
    (λ different. c.loop-other.invariant other above (omega arith))
    (cases_eq other c.loop-other.other)
