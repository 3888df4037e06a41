use Rattle.std.proofs.Common.{ℕ, List, subst, sym}
use Rattle.dfa_build.specs.declared.position_set.PositionSet.{PositionSet}
use Rattle.dfa_build.specs.StateSets.{IsAfter, set_of}
use Rattle.dfa_build.proofs.state_sets.PositionSetsWalk.open.Goals as goal

pub returns : goal.returns
returns c =
    let follow = c.args.self.now.follow.items in
    subst (λ (front : ℕ). IsAfter follow (set_of c.args.node) (set_of front)) (sym c.bits.ensures)
    (subst (λ (node : ℕ). IsAfter follow (set_of node) c.after.result) c.from_bits.ensures
    (subst (λ (all : List PositionSet). IsAfter all c.from_bits.result c.after.result) c.deref.ensures.value c.after.ensures))
