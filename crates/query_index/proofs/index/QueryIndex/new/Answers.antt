use Rattle.std.proofs.Common.{rules, refl}
use Rattle.query_index.specs.declared.stale.StaleRoots.TheVariants.{Every}
use Rattle.query_index.proofs.Starting.{index_starts}
use Rattle.query_index.proofs.index.QueryIndex.new.Goals as goal

pub returns : goal.returns
returns c =
    index_starts c.stores_follow.ensures c.args.query.now
    (record {
      clock = c.new-clock.result;
      forest = c.in_ok-forest.forest;
      shown = c.new-2.result;
      stale = Every;
    })
    (search rules) (search rules) c.new-clock.ensures.start (search rules)
    c.in_ok-forest.ensures.empty c.in_ok-forest.ensures.bare (search rules)
    c.in_ok-forest.ensures.unbroken c.in_ok-forest.ensures.calls c.new-2.ensures refl
