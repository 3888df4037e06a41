use Rattle.std.proofs.Common.{◌+◌, ◌-◌, ◌/◌, ◌<◌, length, sym, ap, ◌∙◌, arith}
use Rattle.std.specs.Ordering.{is_lt, is_some_and}
use Rattle.shared_map.proofs.Listed.{first_at, below_chunk, above_chunk}
use Rattle.shared_map.proofs.Order.{less_from, high_from}
use Rattle.shared_map.proofs.list.chunk_of.Goals as goal

pub loop-high-preserved-then-lt : goal.loop-high-preserved-then-lt
loop-high-preserved-then-lt g c =
    let low = c.loop-high.low in
    let middle = low + (c.loop-high.high - low) / 2 in
    let kept = c.loop-high.invariant in
    let wide = c.loop-high-test.true in
    let inside = kept.1 in
    let key = c.args.key.now in
    let first = c.first.result.now in
    let chunk = c.index-chunks-middle.result in
    let within : middle < length c.args.chunks.now = omega (arith, wide, inside) in
    let there = first_at c.args.chunks.now middle chunk c.deref.result.now first c.index-chunks-middle.is c.deref.ensures c.first.ensures in
    let compared = c.lt.ensures ∙ ap (is_some_and is_lt) (g.met.K.Ord.matches_partial_cmp key first) in (
      omega (arith, wide),
      omega (arith, wide, inside),
      (λ _. omega (arith, wide)),
      kept.3,
      below_chunk g.met.K.Ord.total key first c.args.chunks.now middle chunk within there c.requires
          (less_from (g.K.Ord.cmp key first) (sym compared ∙ c.if-lt.true)),
    )

pub loop-high-preserved : goal.loop-high-preserved
loop-high-preserved g c =
    let low = c.loop-high.low in
    let middle = low + (c.loop-high.high - low) / 2 in
    let kept = c.loop-high.invariant in
    let wide = c.loop-high-test.true in
    let inside = kept.1 in
    let key = c.args.key.now in
    let first = c.first.result.now in
    let chunk = c.index-chunks-middle.result in
    let within : middle < length c.args.chunks.now = omega (arith, wide, inside) in
    let there = first_at c.args.chunks.now middle chunk c.deref.result.now first c.index-chunks-middle.is c.deref.ensures c.first.ensures in
    let compared = c.lt.ensures ∙ ap (is_some_and is_lt) (g.met.K.Ord.matches_partial_cmp key first) in (
      omega (arith, wide),
      inside,
      (λ _. omega (arith, wide)),
      above_chunk g.met.K.Ord.total key first c.args.chunks.now middle chunk within there c.requires
          (high_from (g.K.Ord.cmp key first) (sym compared ∙ c.if-lt.false)),
      kept.4,
    )
