use Rattle.std.proofs.Common.{◌+◌, ◌<◌, get_or, length, Contains, sym, subst, ◌∙◌, arith}
use Rattle.std.proofs.lemmas.List.{take_all}
use Rattle.std.proofs.lemmas.List.Elements.{Contains-get_or}
use Rattle.source_tree.specs.Taking.{IsReady}
use Rattle.source_table.specs.Parts.{TriesIf}
use Rattle.source_table.proofs.Tried.{one_more, untouched}
use Rattle.source_table.proofs.part.change_part.Goals as goal

pub change_one-requires : goal.change_one-requires
change_one-requires c offset d below is =
    let chosen = c.args.chosen.now in
    let k = c.loop-place.place-index in
    let more : k < length chosen = omega (arith, c.loop-place-test.true) in
    let within : offset < length c.args.part.now =
    omega (arith, below, c.loop-place.invariant.0) in
    subst (IsReady c.args.change c.args.product.now)
    (sym (untouched c.args.change c.args.product.now chosen k 0 (c.args.start + offset) (get_or c.args.part.now offset d)
    (get_or c.loop-place.part offset d) more c.requires.once is
    (c.loop-place.invariant.1 offset d within)))
    (c.requires.ready offset d within
    (subst (Contains chosen) is (Contains-get_or chosen k 0 more)))

pub loop-place-preserved : goal.loop-place-preserved
loop-place-preserved c = (
  c.change_one.ensures.len ∙ c.loop-place.invariant.0,
  (λ offset d below.
      one_more c.args.change c.args.product.now
      c.args.chosen.now c.loop-place.place-index 0 (c.args.start + offset)
      (get_or c.args.part.now offset d) (get_or c.loop-place.part offset d)
      (get_or c.change_one.new.part offset d) (omega (arith, c.loop-place-test.true))
      c.requires.once (c.loop-place.invariant.1 offset d below)
      (c.change_one.ensures.tries offset d (omega (arith, below, c.loop-place.invariant.0)))),
)

pub returns : goal.returns
returns c offset d below =
    subst (λ places. TriesIf (Contains places (c.args.start + offset)) c.args.change
    c.args.product.now
    (get_or c.args.part.now offset d) (get_or c.loop-place.part offset d))
    (take_all c.loop-place.place-index c.args.chosen.now (omega (arith, c.loop-place-test.false)))
    (c.loop-place.invariant.1 offset d below)
