use Rattle.std.proofs.Common.{ℕ, List, length, sym, ap, subst, ◌∙◌}
use Rattle.std.proofs.lemmas.Result.{on_ok_weaker}
use Rattle.tree_insert.specs.Waiting.{SearchValue}
use Rattle.source_tree.specs.Telling.{IsByVertex, Touches}
use Rattle.source_tree.proofs.Changing.{by_vertex, touches_moved}
use Rattle.source_tree.proofs.report.report_search.Goals.{then-final_states-ne1, else-final_states-ne1}
use Rattle.source_tree.proofs.report.report_search.Goals as goal

pub returns : goal.returns
returns c =
    let tree = c.args.tree.now in
    on_ok_weaker c.fill.result
    (λ tells change old touches held. elim c.if-final_states-ne1.branch [
      | then-final_states-ne1 w ↦
          let sorted = w.sort_shifts.new.self.shifts in
          let now = c.shifts.ensures ∙ ap (λ (search : SearchValue). search.shifts) w.search-is in
          tells change old
          (subst (Touches change old tree) (sym now)
          (touches_moved change old tree c.args.search.now.shifts sorted
          w.sort_shifts.ensures.same touches)) held
          (λ other. subst IsByVertex (sym now) (by_vertex sorted w.sort_shifts.ensures.sorted))
      | else-final_states-ne1 w ↦
          let now = c.shifts.ensures ∙ ap (λ (search : SearchValue). search.shifts) w.search-is in
          tells change old (subst (Touches change old tree) (sym now) touches) held
          (λ other. absurd (other (ap (λ (all : List ℕ). length all)
          (sym c.final_states.ensures) ∙ w.if-final_states-ne1.false)))
    ])
    c.fill.ensures
