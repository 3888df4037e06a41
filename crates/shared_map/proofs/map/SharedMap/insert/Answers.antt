use Rattle.shared_map.specs.Chunks.{entries_of}
use Rattle.shared_map.proofs.Order.{sorted_after_insert}
use Rattle.shared_map.proofs.map.SharedMap.insert.Goals as goal

pub invariant_of-self : goal.invariant_of-self
invariant_of-self g c =
    sorted_after_insert g.met.K.Ord.total c.insert.result (entries_of c.self.inside.chunks.items) (entries_of c.insert.new.chunks.items)
    c.args.key c.args.value c.self.invariant c.insert.ensures.entries c.insert.ensures.unchanged
