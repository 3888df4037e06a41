use Rattle.std.proofs.Common.{◌≡◌, ℕ, ◌+◌, ◌-◌, ◌≤◌, length, List, sym, ap, subst, ◌∙◌, arith}
use Rattle.std.specs.BTreeMap.{insert_entry}
use Rattle.rpq_base.specs.Order.{name_cmp}
use Rattle.answer_rows.specs.Answers.{row_of}
use Rattle.answer_rows.specs.BySource.{BySource, answers, held_row, IsHeldRow, AreHeld}
use Rattle.answer_rows.specs.declared.target.Target.{Target}
use Rattle.answer_rows.proofs.Held.{lost_is, lost_fits, held_with, row_after_putting, others_after_putting}
use Rattle.answer_rows.proofs.rows.Rows.insert.Goals as goal

pub overflow_sub-self : goal.overflow_sub-self
overflow_sub-self c =
    let sources = c.self.inside.rows in
    let lost = lost_is sources c.args.from c.in_ok-old.old c.target_count.result c.in_ok-old.ensures.old c.target_count.ensures in
    let fits = lost_fits sources c.self.inside.count c.args.from c.self.invariant in
    let most = c.in_ok-most.ensures.sum in
    omega (arith, lost, fits, most)

pub invariant_of-self-2 : goal.invariant_of-self-2
invariant_of-self-2 c =
    let sources = c.self.inside.rows in
    let count = c.self.inside.count in
    let from = c.args.from in
    let lost = lost_is sources from c.in_ok-old.old c.target_count.result c.in_ok-old.ensures.old c.target_count.ensures in
    let fits = lost_fits sources count from c.self.invariant in
    let gained : length c.targets.result.now ≡ length c.args.row =
    ap (λ (row : List Target). length row) c.targets.ensures in
    let most : c.in_ok-most.most ≡ count + length c.targets.result.now = c.in_ok-most.ensures.sum in
    let after : count - length (held_row sources from) + length c.args.row ≡ c.in_ok-most.most - c.target_count.result =
    omega (arith, lost, fits, gained, most) in
    let is : IsHeldRow c.args.row = record { some = c.requires.some; sorted = c.requires.sorted } in
    subst (λ (all : BySource). AreHeld all (c.in_ok-most.most - c.target_count.result)) (sym c.in_ok-old.ensures.entries)
    (subst (λ (n : ℕ). AreHeld (insert_entry name_cmp sources from c.args.row) n) after
    (held_with sources count from c.args.row c.self.invariant is))

pub returns-clause-row : goal.returns-clause-row
returns-clause-row c =
    ap (λ (all : BySource). row_of (answers all) c.args.from) c.in_ok-old.ensures.entries
    ∙ row_after_putting c.self.inside.rows c.args.from c.args.row c.self.invariant.in_order

pub returns-clause-others : goal.returns-clause-others
returns-clause-others c other apart =
    ap (λ (all : BySource). row_of (answers all) other) c.in_ok-old.ensures.entries
    ∙ others_after_putting c.self.inside.rows c.args.self.now c.args.from c.args.row c.self.invariant.in_order c.self.view_is other apart
