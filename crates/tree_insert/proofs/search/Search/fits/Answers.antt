use Rattle.std.proofs.Common.{◌^◌, ◌<◌, length, length-append, subst, arith}
use Rattle.std.specs.BinaryHeap.{heap_items}
use Rattle.tree_insert.specs.Waiting.{SearchValue}
use Rattle.tree_insert.proofs.search.Search.fits.Goals as goal

pub returns-clause-waiting : goal.returns-clause-waiting
returns-clause-waiting c =
    let stack = c.self.inside.stack in
    let heap = c.self.inside.later.data in
    subst (λ (search : SearchValue). length search.waiting < 2 ^ 66) c.self.view_is
    (omega (
      arith,
      length-append stack.items (heap_items c.self.inside.later),
      stack.ok.0,
      stack.ok.1,
      stack.small,
      heap.ok.0,
      heap.ok.1,
      heap.small,
    ))

pub returns-clause-shifts : goal.returns-clause-shifts
returns-clause-shifts c =
    let shifts = c.self.inside.shifts in
    subst (λ (search : SearchValue). length search.shifts < 2 ^ 63) c.self.view_is
    (omega (arith, shifts.ok.0, shifts.ok.1, shifts.small))
