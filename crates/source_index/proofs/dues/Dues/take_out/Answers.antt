use Rattle.source_index.proofs.Noted.{noted_without}
use Rattle.source_index.proofs.dues.Dues.take_out.Goals as goal

pub invariant_of-self-2 : goal.invariant_of-self-2
invariant_of-self-2 c =
    noted_without c.self.inside.numbers.entries c.swap_remove.new.self.entries
    c.next_root.new.queue.items c.in_ok-root.root c.in_ok-root.ensures.others
    c.swap_remove.ensures.updates.0
