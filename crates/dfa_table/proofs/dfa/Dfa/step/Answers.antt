use Rattle.std.proofs.Common.{◌≡◌, ℕ, ◌+◌, ◌*◌, length, get_or, ap, subst, ◌∙◌, rules, arith}
use Rattle.dfa_table.specs.DfaValue.{IsDfa}
use Rattle.dfa_table.proofs.Rows.{step_read, lands}
use Rattle.dfa_table.proofs.dfa.Dfa.step.Goals as goal

pub returns : goal.returns
returns c =
    let steps = c.self.inside.steps.items in
    let found = c.index.result.now in
    let width : c.len-width.result ≡ length c.self.inside.labels.items = search rules in
    let is = step_read c.self.inside.labels.items steps c.self.inside.finals.items c.args.self.now c.args.state c.args.label found
    c.self.view_is c.self.invariant.whole c.requires (omega arith)
    (c.index.ensures ∙ ap (λ (wide : ℕ). get_or steps (c.args.state * wide + c.args.label) found) width) in
    record {
      step = is;
      within = lands found c.args.self.now c.args.state c.args.label (subst IsDfa c.self.view_is c.self.invariant.valid) is;
    }
