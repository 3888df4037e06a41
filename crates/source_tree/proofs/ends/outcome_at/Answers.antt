use Rattle.std.proofs.Common.{Some, sym, ◌∙◌, true≢false}
use Rattle.source_tree.proofs.Standing.{comes_or_goes, stays_beside, stays_by_shifts}
use Rattle.source_tree.proofs.ends.outcome_at.Goals as goal

pub returns-in_default : goal.returns-in_default
returns-in_default c old is held =
    stays_by_shifts c.args.product.now.finals old c.args.tree.now c.args.vertex c.args.run.now is
    c.shifted_ends-ends.result c.shifted_ends-ends.ensures c.in_default.ensures

pub returns-then-stands_beside : goal.returns-then-stands_beside
returns-then-stands_beside c old is held =
    stays_beside c.args.product.now.finals old c.args.tree.now c.args.vertex c.args.run.now is
    ((c.stands_beside.ensures old is held).0 c.if-stands_beside.true)

pub returns : goal.returns
returns c old is held =
    comes_or_goes c.args.product.now.finals old c.args.tree.now c.args.vertex c.args.run.now is
    c.shifted_ends-ends.result c.shifted_ends-ends.ensures
    (λ has. true≢false
    (sym ((c.stands_beside.ensures old is held).1 has) ∙ c.if-stands_beside.false))
    (Some c.in-Some.outcome) c.in-Some.ensures
