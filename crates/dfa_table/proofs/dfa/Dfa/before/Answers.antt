use Rattle.std.proofs.Common.{ℕ, List, [], get_or, ap, ◌∙◌}
use Rattle.dfa_table.specs.Befores.{list_at}
use Rattle.dfa_table.proofs.Rows.{found_in_table}
use Rattle.dfa_table.proofs.dfa.Dfa.before.Goals as goal

pub returns : goal.returns
returns c =
    let has = found_in_table c.self.inside.labels.items c.self.inside.steps.items
    c.self.inside.finals.items c.self.inside.befores.items c.args.self.now c.args.label
    c.args.state c.list_by.result.now c.self.view_is c.self.invariant
    (c.list_by.ensures
    ∙ ap (λ (befores : List (List (List ℕ))). list_at (get_or befores c.args.label []) c.args.state)
    c.deref.ensures.value) in
    record { before = has.before; rising = has.rising }
