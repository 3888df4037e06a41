use Rattle.std.proofs.Common.{rules, ℕ, List, Vec, Global, length, sym, ap, subst, ◌∙◌}
use Rattle.std.proofs.lemmas.List.Sorted.{IsNonDecreasingBy-from_sort_by_key}
use Rattle.std.proofs.lemmas.Result.{on_ok_weaker}
use Rattle.delta_tree.specs.declared.node.Shift.{Shift}
use Rattle.source_tree.specs.Telling.{IsByVertex, Touches}
use Rattle.source_tree.proofs.Changing.{touches_moved}
use Rattle.source_tree.proofs.report.report_shifts.Goals.{then-final_states-ne1, else-final_states-ne1}
use Rattle.source_tree.proofs.report.report_shifts.Goals as goal

pub returns : goal.returns
returns c =
    let tree = c.args.tree.now in
    on_ok_weaker c.fill.result
    (λ tells change old touches held. elim c.if-final_states-ne1.branch [
      | then-final_states-ne1 w ↦
          let sorted = w.sort_unstable_by_key.new.self.items in
          let now = c.deref.ensures.value
          ∙ ap (λ (all : Vec Shift Global). all.items) w.shifts-is in
          tells change old
          (subst (Touches change old tree) (sym now)
          (touches_moved change old tree c.args.shifts.now.items sorted
          w.sort_unstable_by_key.ensures.permutation touches)) held
          (λ other. subst IsByVertex (sym now)
          (IsNonDecreasingBy-from_sort_by_key (λ (each : Shift). each.id.vertex) sorted
          w.sort_unstable_by_key.ensures.sorted (λ a r q k. search rules)))
      | else-final_states-ne1 w ↦
          let now = c.deref.ensures.value
          ∙ ap (λ (all : Vec Shift Global). all.items) w.shifts-is in
          tells change old (subst (Touches change old tree) (sym now) touches) held
          (λ other. absurd (other (ap (λ (all : List ℕ). length all)
          (sym c.final_states.ensures) ∙ w.if-final_states-ne1.false)))
    ])
    c.fill.ensures
