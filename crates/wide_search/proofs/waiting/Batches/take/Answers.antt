use Rattle.std.proofs.Common.{◌≡◌, ◌+◌, ◌++◌, ◌∙◌, length, subst, append-nil}
use Rattle.std.specs.BinaryHeap.{heap_items}
use Rattle.wide_search.specs.Batches.{BatchesValue, Takes}
use Rattle.wide_search.proofs.Batches.{batches_of, takes_stack, takes_heap, fewer_on_stack, fewer_in_heap}
use Rattle.wide_search.proofs.waiting.Batches.take.Goals as goal

pub returns-in-Some-clause-some : goal.returns-in-Some-clause-some
returns-in-Some-clause-some c =
    subst (λ old. Takes old
    (batches_of c.pop.new.self.items (heap_items c.self.inside.later) c.self.inside.level)
    c.in-Some.next) c.self.view_is
    (takes_stack c.self.inside.stack.items c.pop.new.self.items (heap_items c.self.inside.later)
    c.self.inside.level c.in-Some.next
    c.in-Some.ensures.items c.self.invariant.now)

pub returns-clause-some : goal.returns-clause-some
returns-clause-some c =
    subst (λ old. Takes old
    (batches_of c.pop.new.self.items (heap_items c.pop-2.new.self) c.in_ok-next.next.width)
    c.in_ok-next.next) c.self.view_is
    (takes_heap c.self.inside.stack.items c.pop.new.self.items (heap_items c.self.inside.later)
    (heap_items c.pop-2.new.self) c.self.inside.level
    c.in_ok-next.next (c.in_default.ensures.items ∙ append-nil c.pop.new.self.items)
    c.in_ok-next.ensures.permutation c.self.invariant.later)

pub returns-in-Some-clause-fewer : goal.returns-in-Some-clause-fewer
returns-in-Some-clause-fewer c =
    subst (λ (old : BatchesValue).
    length (c.pop.new.self.items ++ heap_items c.self.inside.later) + 1 ≡ length old.waiting)
    c.self.view_is
    (fewer_on_stack c.self.inside.stack.items c.pop.new.self.items (heap_items c.self.inside.later)
    c.in-Some.next c.in-Some.ensures.items)

pub returns-clause-fewer : goal.returns-clause-fewer
returns-clause-fewer c =
    subst (λ (old : BatchesValue).
    length (c.pop.new.self.items ++ heap_items c.pop-2.new.self) + 1 ≡ length old.waiting)
    c.self.view_is
    (fewer_in_heap c.self.inside.stack.items c.pop.new.self.items (heap_items c.self.inside.later)
    (heap_items c.pop-2.new.self) c.in_ok-next.next
    (c.in_default.ensures.items ∙ append-nil c.pop.new.self.items)
    c.in_ok-next.ensures.permutation)
