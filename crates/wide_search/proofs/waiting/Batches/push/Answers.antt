use Rattle.std.proofs.Common.{◌≡◌, ◌≤◌, sym, subst}
use Rattle.std.specs.BinaryHeap.{heap_items}
use Rattle.wide_search.specs.Batches.{Gains}
use Rattle.wide_search.proofs.Batches.{batches_of, gains_stack, gains_heap, heap_has, heap_below}
use Rattle.wide_search.proofs.waiting.Batches.push.Goals as goal

pub invariant_of-self-in-Continue-branch-2 : goal.invariant_of-self-in-Continue-branch-2
invariant_of-self-in-Continue-branch-2 c = record {
  order = c.in_ok-push-2.ensures.heap_order c.self.invariant.order;
  now = c.self.invariant.now;
  later = heap_below (heap_items c.self.inside.later) (heap_items c.push-else-batch-self.new.self)
      c.self.inside.level c.args.batch
      c.in_ok-push-2.ensures.permutation
      (subst (λ search. c.args.batch.width ≤ search.level) (sym c.self.view_is) c.requires)
      c.self.invariant.later;
}

pub returns-in_ok-push-clause-gains : goal.returns-in_ok-push-clause-gains
returns-in_ok-push-clause-gains c =
    subst (λ old. Gains old
    (batches_of c.push.new.self.items (heap_items c.self.inside.later) c.self.inside.level)
    (λ each. each ≡ c.args.batch))
    c.self.view_is
    (gains_stack c.self.inside.stack.items c.push.new.self.items (heap_items c.self.inside.later)
    c.self.inside.level c.args.batch
    c.in_ok-push.ensures.items)

pub returns-in_ok-push-2-clause-gains : goal.returns-in_ok-push-2-clause-gains
returns-in_ok-push-2-clause-gains c =
    subst (λ old. Gains old
    (batches_of c.self.inside.stack.items (heap_items c.push-else-batch-self.new.self)
    c.self.inside.level) (λ each. each ≡ c.args.batch))
    c.self.view_is
    (gains_heap c.self.inside.stack.items (heap_items c.self.inside.later)
    (heap_items c.push-else-batch-self.new.self) c.self.inside.level
    c.args.batch c.in_ok-push-2.ensures.permutation)

pub returns-in_ok-push-2-clause-added : goal.returns-in_ok-push-2-clause-added
returns-in_ok-push-2-clause-added c =
    heap_has c.self.inside.stack.items (heap_items c.self.inside.later)
    (heap_items c.push-else-batch-self.new.self) c.args.batch
    c.in_ok-push-2.ensures.permutation
