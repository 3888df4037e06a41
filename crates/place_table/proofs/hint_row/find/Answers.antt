use Rattle.std.proofs.Common.{sym, ◌∙◌, true≢false}
use Rattle.place_table.proofs.Ordered.{lookup_there, not_noted}
use Rattle.place_table.proofs.hint_row.find.Goals as goal

pub returns-then-stands_at : goal.returns-then-stands_at
returns-then-stands_at c =
    let (within, is) = c.stands_at.ensures.0 c.if-stands_at.true in
    sym (lookup_there c.args.hints.now c.count_below-place.result c.args.state
    c.count_below-place.ensures.below within is)

pub returns : goal.returns
returns c =
    sym (not_noted c.args.hints.now c.args.state c.count_below-place.result c.requires
    c.count_below-place.ensures
    (λ there. true≢false (sym (c.stands_at.ensures.1 there) ∙ c.if-stands_at.false)))
