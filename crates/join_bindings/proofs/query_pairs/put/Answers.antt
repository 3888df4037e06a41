use Rattle.join_bindings.proofs.Changing.{put_at}
use Rattle.join_bindings.proofs.query_pairs.put.Goals as goal

pub returns-clause-put : goal.returns-clause-put
returns-clause-put c =
    put_at c.args.sets.now.items c.index_mut.result.now c.set.new.self c.args.event.now c.requires
    c.index_mut.ensures.value c.in_ok-set.ensures.own c.in_ok-set.ensures.others
