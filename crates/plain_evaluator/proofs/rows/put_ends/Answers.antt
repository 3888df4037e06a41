use Rattle.std.specs.BTreeMap.{get}
use Rattle.rpq_base.specs.Order.{pair_cmp}
use Rattle.plain_evaluator.proofs.Horizons.{end_put}
use Rattle.plain_evaluator.proofs.rows.put_ends.Goals as goal

pub loop-pair-preserved : goal.loop-pair-preserved
loop-pair-preserved c = λ pair.
    end_put c.loop-pair.yielded c.in-Some.pair pair c.args.until (get pair_cmp c.args.ends.now pair)
    (get pair_cmp c.loop-pair.ends pair)
    (get pair_cmp c.insert.new.self pair) (c.loop-pair.invariant pair)
    (c.in_ok-insert.ensures.updates.0 pair)
