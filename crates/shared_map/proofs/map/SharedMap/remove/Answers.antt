use Rattle.std.specs.BTreeMap.{is_at}
use Rattle.shared_map.specs.Chunks.{entries_of}
use Rattle.shared_map.proofs.Order.{sorted_after_remove}
use Rattle.shared_map.proofs.map.SharedMap.remove.Goals as goal

pub invariant_of-self : goal.invariant_of-self
invariant_of-self g c =
    sorted_after_remove g.K.Ord.cmp (is_at (g.K.Ord.cmp c.args.key.now)) c.remove.result (entries_of c.self.inside.chunks.items)
    (entries_of c.remove.new.chunks.items) c.self.invariant c.remove.ensures.entries c.remove.ensures.unchanged
