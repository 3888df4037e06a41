use Rattle.std.proofs.Common.{ℕ, Option, Vec, Global, ap, ◌∙◌, rules}
use Rattle.std.specs.List.{flat_map}
use Rattle.dfa_table.proofs.Rows.{table_of_joined, value_of_joined}
use Rattle.dfa_table.proofs.dfa.Dfa.new.Goals as goal

pub invariant_of-result : goal.invariant_of-result
invariant_of-result c =
    let items = λ (row : Vec (Option ℕ) Global). row.items in
    table_of_joined items c.args.labels.items c.args.rows.items c.in_ok-steps.steps.items c.args.finals.items c.in_ok-befores.befores.items
    c.requires (c.in_ok-steps.ensures ∙ ap (flat_map items) c.deref.ensures.value)
    (search rules)

pub returns : goal.returns
returns c =
    value_of_joined (λ (row : Vec (Option ℕ) Global). row.items) c.args.labels.items c.args.rows.items c.in_ok-steps.steps.items c.args.finals.items
    c.requires.even c.requires.finals (c.in_ok-steps.ensures ∙ ap (flat_map (λ (row : Vec (Option ℕ) Global). row.items)) c.deref.ensures.value)
