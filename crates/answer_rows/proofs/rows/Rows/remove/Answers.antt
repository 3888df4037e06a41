use Rattle.std.proofs.Common.{◌≡◌, ℕ, ◌-◌, ◌≤◌, length, sym, ap, subst, ◌∙◌}
use Rattle.std.specs.Map.{remove_entry}
use Rattle.answer_rows.specs.Answers.{row_of}
use Rattle.answer_rows.specs.BySource.{BySource, answers, AreHeld}
use Rattle.answer_rows.proofs.Held.{lost_is, lost_fits, held_without, row_after_taking, others_after_taking}
use Rattle.answer_rows.proofs.Lookups.{at}
use Rattle.answer_rows.proofs.rows.Rows.remove.Goals as goal

pub overflow_sub-self : goal.overflow_sub-self
overflow_sub-self c =
    let sources = c.self.inside.rows in
    let lost = lost_is sources c.args.from.now c.in_ok-old.old c.target_count.result c.in_ok-old.ensures.old c.target_count.ensures in
    subst (λ (n : ℕ). n ≤ c.self.inside.count) lost (lost_fits sources c.self.inside.count c.args.from.now c.self.invariant)

pub invariant_of-self-2 : goal.invariant_of-self-2
invariant_of-self-2 c =
    let sources = c.self.inside.rows in
    let count = c.self.inside.count in
    let from = c.args.from.now in
    let lost = lost_is sources from c.in_ok-old.old c.target_count.result c.in_ok-old.ensures.old c.target_count.ensures in
    subst (λ (all : BySource). AreHeld all (count - c.target_count.result)) (sym c.in_ok-old.ensures.entries)
    (subst (λ (n : ℕ). AreHeld (remove_entry (at from) sources) (count - n)) lost
    (held_without sources count from c.self.invariant))

pub returns-clause-row : goal.returns-clause-row
returns-clause-row c =
    ap (λ (all : BySource). row_of (answers all) c.args.from.now) c.in_ok-old.ensures.entries
    ∙ row_after_taking c.self.inside.rows c.args.from.now c.self.invariant.in_order

pub returns-clause-others : goal.returns-clause-others
returns-clause-others c other apart =
    ap (λ (all : BySource). row_of (answers all) other) c.in_ok-old.ensures.entries
    ∙ others_after_taking c.self.inside.rows c.args.self.now c.args.from.now c.self.invariant.in_order c.self.view_is other apart
