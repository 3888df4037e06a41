use Rattle.std.specs.Prelude.{length}
use Rattle.source_index.specs.Queue.{AreNoted}
use Rattle.source_index.proofs.queue.next_root.Given as goal

abbrev pub invariant-loop-next : goal.invariant-loop-next
invariant-loop-next l = AreNoted l.numbers.entries l.queue.items

abbrev pub decreases-loop-next : goal.decreases-loop-next
decreases-loop-next l = length l.queue.items
