use Rattle.std.proofs.Common.{rules, ◌≡◌, List, [], ◌∷◌, ap, arith, length, length-append}
use Rattle.std.specs.Vec.{vec_items}
use Rattle.std.specs.Vec.Iter.{into_iter_items}
use Rattle.rpq_run.proofs.Windows.{sources_more}
use Rattle.rpq_run.proofs.sources.parted.Goals as goal

pub loop-source-preserved : goal.loop-source-preserved
loop-source-preserved g c =
    let item = c.in-Some-source.source in
    let inv = c.loop-source.invariant in
    let rest = into_iter_items c.loop-source.source-iterator in
    let left = into_iter_items c.next-in-loop-source.new.self in
    let here : rest ≡ item ∷ left = c.in-Some-source.ensures.steps.0 in
    let long = ap (λ (xs : List _). length xs) here in
    let pushed = c.push_reserved-in-loop-source.ensures in (
      tt,
      tt,
      sources_more c.parts-from.result.0 c.parts-none.result.0 (vec_items c.loop-source.own)
          (vec_items c.push_reserved-in-loop-source.new.self) c.parts-none.result.1 item rest left (vec_items c.args.sources) _
          c.requires.alone c.parts-none.ensures.there c.parts-none.ensures.first c.parts-none.ensures.second here inv.2
          inv.5 pushed.items,
      search rules,
      omega (arith, long, inv.4, pushed.len, pushed.capacity),
      omega (
        arith,
        ap (λ (xs : List _). length xs) pushed.items,
        length-append (vec_items c.loop-source.own) (c.parts-none.result.1 ∷ []),
      ),
    )
