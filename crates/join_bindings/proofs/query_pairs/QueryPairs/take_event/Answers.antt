use Rattle.std.proofs.Common.{◌<◌, List, length, sym, ap, subst, ◌∙◌}
use Rattle.rpq_base.specs.declared.data.Pair.{Pair}
use Rattle.join_bindings.specs.Changed.{IsPut}
use Rattle.join_bindings.proofs.query_pairs.QueryPairs.take_event.Goals as goal

pub put_both-done-requires : goal.put_both-done-requires
put_both-done-requires c = subst (λ (list : List (List Pair)). c.args.event.now.query < length list) (sym c.self.view_is) c.requires

pub invariant_of-self-in_default : goal.invariant_of-self-in_default
invariant_of-self-in_default c = c.in_default.ensures.overlaps c.self.invariant

pub returns-clause-put : goal.returns-clause-put
returns-clause-put c =
    subst (λ (old : List (List Pair)). IsPut old c.put_both-done.new.sets.items c.args.event.now) c.self.view_is c.in_default.ensures.put

pub returns-clause-many : goal.returns-clause-many
returns-clause-many c = c.put_both-done.ensures.many ∙ ap length c.self.view_is
