use Rattle.std.proofs.Common.{◌≡◌, ℕ, ◌+◌, get_or, sym, subst, arith}
use Rattle.query_index.specs.IndexValue.{IndexValue}
use Rattle.query_index.specs.Showing.{StandsStill}
use Rattle.path_engine.proofs.Refreshed.{part_can_refresh}
use Rattle.path_engine.proofs.refreshing.refresh_parts.Goals as goal

pub for_each_chunk_mut-requires-clause-accepts : goal.for_each_chunk_mut-requires-clause-accepts
for_each_chunk_mut-requires-clause-accepts g c κs within start part chunk = record {
  some = c.requires.some;
  few = omega (
    arith,
    chunk.in_bounds,
    chunk.nonempty,
    c.requires.few,
    c.requires.as_many,
  );
  named = c.requires.named;
  inside = omega (arith, chunk.in_bounds, c.requires.as_many);
  ready = part_can_refresh c.args.queries.now c.args.names.now c.args.indexes.now part.now
      c.args.size start c.requires.indexes c.requires.as_many chunk;
}

pub returns : goal.returns
returns g c offset d query below is =
    let names = c.args.names.now in
    let new = c.for_each_chunk_mut.new.s in
    let k = (c.for_each_chunk_mut.ensures.by_index offset d below).1 in
    let at : k.start + k.offset ≡ 0 + offset = omega (arith, k.start_plus_offset) in
    let there = subst (λ (place : ℕ). query ≡ get_or c.args.queries.now place query)
    {x = 0 + offset} {y = k.start + k.offset} (sym at) is in
    let before = get_or k.argument.now k.offset d in
    let after = get_or k.after_call.now k.offset d in
    let now = get_or new offset d in
    subst (λ (old : IndexValue). StandsStill query names old now)
    {x = before} {y = get_or c.args.indexes.now offset d} k.old_element
    (subst (StandsStill query names before) {x = after} {y = now} k.new_element
    (k.call k.offset d query k.offset_in_chunk there))
