use Rattle.std.proofs.Common.{◌^◌, ◌<◌, length, length-append, subst, arith}
use Rattle.std.specs.BinaryHeap.{heap_items}
use Rattle.wide_search.specs.Batches.{BatchesValue}
use Rattle.wide_search.proofs.waiting.Batches.fits.Goals as goal

pub returns : goal.returns
returns c =
    let stack = c.self.inside.stack in
    let heap = c.self.inside.later.data in
    subst (λ (batches : BatchesValue). length batches.waiting < 2 ^ 66) c.self.view_is
    (omega (
      arith,
      length-append stack.items (heap_items c.self.inside.later),
      stack.ok.0,
      stack.ok.1,
      stack.small,
      heap.ok.0,
      heap.ok.1,
      heap.small,
    ))
