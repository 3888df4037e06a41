use Rattle.std.proofs.Common.{rules}
use Rattle.std.proofs.lemmas.Fn.{always_returns_same}
use Rattle.rpq_base.specs.Order.{name_cmp}
use Rattle.answer_rows.specs.declared.target.Target.{Target}
use Rattle.answer_rows.proofs.target.place_of.Goals as goal

pub returns-clause-place : goal.returns-clause-place
returns-clause-place c =
    c.binary_search_by.ensures.position (λ (each : Target). name_cmp each.to c.args.to.now)
    (always_returns_same _ _ _ (λ a r after call. (search rules, search rules)))
