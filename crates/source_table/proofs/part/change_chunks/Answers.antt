use Rattle.std.proofs.Common.{◌≡◌, ◌+◌, ◌*◌, ◌<◌, List, Contains, get_or, length, sym, ap, subst, ◌∙◌, arith}
use Rattle.source_tree.specs.Ends.{SourceValue}
use Rattle.source_tree.specs.Taking.{IsReady}
use Rattle.source_table.specs.Parts.{CanTry, TriesIf}
use Rattle.source_table.proofs.Lists.{whole}
use Rattle.source_table.proofs.part.change_chunks.Goals as goal

pub for_each_chunk_mut-requires-clause-accepts : goal.for_each_chunk_mut-requires-clause-accepts
for_each_chunk_mut-requires-clause-accepts g c κs within start part chunk =
    let chosen = c.args.chosen.now in
    let product = c.args.product.now in
    let whole : length c.deref_mut.result.now ≡ length c.args.sources.now.items =
    ap length c.deref_mut.ensures.value in
    let few : start < 64 * c.args.size =
    omega (arith, chunk.in_bounds, chunk.nonempty, c.requires.covers, whole) in
    let ready = subst (λ (list : List SourceValue). CanTry chosen 0 c.args.change product list)
    (sym c.deref_mut.ensures.value) c.requires.ready in (
      c.requires.some,
      few,
      c.requires.once,
      (λ offset d below listed.
          let there : start + offset < length c.deref_mut.result.now =
          omega (arith, chunk.in_bounds, below) in
          let is : start + offset ≡ 0 + (start + offset) = omega arith in
          subst (IsReady c.args.change product) (sym (chunk.elements offset d below))
          (ready (start + offset) d there (subst (Contains chosen) is listed))),
    )

pub returns-clause-tries : goal.returns-clause-tries
returns-clause-tries g c offset d below =
    let items = c.args.sources.now.items in
    let chosen = c.args.chosen.now in
    let product = c.args.product.now in
    let new = c.for_each_chunk_mut.new.s in
    let within : offset < length c.deref_mut.result.now =
    subst (λ (list : List SourceValue). offset < length list) (sym c.deref_mut.ensures.value)
    below in
    let k = (c.for_each_chunk_mut.ensures.by_index offset d within).1 in
    let is : k.start + k.offset ≡ 0 + offset = omega (arith, k.start_plus_offset) in
    let tries = k.call k.offset d k.offset_in_chunk in
    subst (λ (after : List SourceValue). TriesIf (Contains chosen (0 + offset)) c.args.change
    product (get_or items offset d) (get_or after offset d))
    (sym (whole c.args.sources.now.len items new c.args.sources.now.ok.0
    (c.for_each_chunk_mut.auto.s ∙ ap length c.deref_mut.ensures.value)))
    (subst (λ (old : SourceValue). TriesIf (Contains chosen (0 + offset)) c.args.change
    product old (get_or new offset d))
    (k.old_element ∙ ap (λ (list : List SourceValue). get_or list offset d)
    c.deref_mut.ensures.value)
    (subst (λ (after : SourceValue). TriesIf (Contains chosen (0 + offset)) c.args.change
    product (get_or k.argument.now k.offset d) after)
    k.new_element
    (subst (λ place. TriesIf (Contains chosen place) c.args.change product
    (get_or k.argument.now k.offset d) (get_or k.after_call.now k.offset d)) is tries)))
