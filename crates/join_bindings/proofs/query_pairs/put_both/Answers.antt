use Rattle.std.proofs.Common.{List, sym, subst}
use Rattle.std.specs.Prelude.{All}
use Rattle.rpq_base.specs.declared.data.Pair.{Pair}
use Rattle.join_bindings.specs.Changed.{IsPut}
use Rattle.join_bindings.specs.Overlaps.{IsOverlap}
use Rattle.join_bindings.proofs.query_pairs.put_both.Goals as goal

pub returns-clause-overlaps : goal.returns-clause-overlaps
returns-clause-overlaps c = λ were.
    let old : List (List Pair) = c.args.sets.now.items in
    subst (λ (sets : List (List Pair)). All (IsOverlap sets) c.renew_all.new.overlaps.items) c.deref.ensures.value
    (c.in_ok-renew_all.ensures old
    (subst (λ (sets : List (List Pair)). IsPut old sets c.args.event.now) (sym c.deref.ensures.value) c.in_ok-put.ensures.put) were)
