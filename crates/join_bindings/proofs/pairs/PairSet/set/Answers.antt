use Rattle.std.proofs.Common.{List, subst}
use Rattle.std.specs.Prelude.{◌↔◌, Contains}
use Rattle.rpq_base.specs.declared.data.Pair.{Pair}
use Rattle.join_bindings.specs.Pairs.{pairs_of}
use Rattle.join_bindings.proofs.Rowing.{sides_set, own_pair, other_pairs}
use Rattle.join_bindings.proofs.pairs.PairSet.set.Goals as goal

pub invariant_of-self-in_default : goal.invariant_of-self-in_default
invariant_of-self-in_default c =
    sides_set c.self.inside.sources c.self.inside.targets c.set_both-set.new.sources c.set_both-set.new.targets c.args.pair.now.from c.args.pair.now.to
    c.args.added c.self.invariant c.in_default.ensures.sources c.in_default.ensures.targets

pub returns-clause-own : goal.returns-clause-own
returns-clause-own c =
    own_pair c.set_both-set.new.sources c.set_both-set.new.targets c.args.pair.now c.args.added (invariant_of-self-in_default c) c.in_default.ensures.sources.own

pub returns-clause-others : goal.returns-clause-others
returns-clause-others c = λ other differs.
    subst (λ (set : List Pair). Contains (pairs_of c.set_both-set.new.sources) other ↔ Contains set other) c.self.view_is
    (other_pairs c.self.inside.sources c.self.inside.targets c.set_both-set.new.sources c.set_both-set.new.targets c.args.pair.now other c.args.added
    c.self.invariant (invariant_of-self-in_default c) c.in_default.ensures.sources differs)
