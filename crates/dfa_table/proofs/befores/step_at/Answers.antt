use Rattle.std.proofs.Common.{ℕ, List, Option, None, Vec, Global, get_or, ap, ◌∙◌}
use Rattle.dfa_table.proofs.Listed.{row_is}
use Rattle.dfa_table.proofs.befores.step_at.Goals as goal

pub returns : goal.returns
returns c =
    let items = λ (row : Vec (Option ℕ) Global). row.items in
    c.step_by.ensures
    ∙ ap (λ (row : List (Option ℕ)). get_or row c.args.label None)
    (c.deref.ensures.value
    ∙ row_is items c.args.rows.now c.args.state c.index-rows-state.result c.requires
    c.index-rows-state.is)
