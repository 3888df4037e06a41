use Rattle.dfa_build.proofs.Filling.{have_label_more}
use Rattle.rpq_base.proofs.Equality.{label_test}
use Rattle.dfa_build.proofs.transitions.positions_of.Goals as goal

pub loop-place-preserved : goal.loop-place-preserved
loop-place-preserved c =
    have_label_more c.args.atoms.now c.args.label.now c.index-atoms-place.result c.loop-place.set c.of.result c.union_if-set.result c.loop-place.place c.eq.result
    c.loop-place-test.true c.index-atoms-place.is (label_test c.index-atoms-place.result c.args.label.now c.eq.result c.eq.ensures)
    c.of.ensures c.union_if-set.ensures c.loop-place.invariant
