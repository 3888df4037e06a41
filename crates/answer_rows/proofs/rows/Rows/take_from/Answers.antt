use Rattle.std.proofs.Common.{◌-◌, ◌<◌, List, length, sym, ap, subst, ◌∙◌, arith}
use Rattle.std.specs.Prelude.{IsTrue}
use Rattle.answer_rows.specs.Answers.{has_target, row_of}
use Rattle.answer_rows.specs.BySource.{BySource, answers, held_row, IsHeldRow, AreHeld}
use Rattle.answer_rows.specs.RowEdits.{without_target}
use Rattle.answer_rows.specs.declared.target.Target.{Target}
use Rattle.answer_rows.proofs.Edited.{take_in_order}
use Rattle.answer_rows.proofs.Held.{row_seen, held_in_order, name_is_found, lost_fits, held_set, row_after_setting, others_after_setting}
use Rattle.answer_rows.proofs.rows.Rows.take_from.Goals as goal

pub take_out-requires-clause-sorted : goal.take_out-requires-clause-sorted
take_out-requires-clause-sorted c = held_in_order c.self.inside.rows c.self.inside.count c.args.from.now c.self.invariant

pub take_out-requires-clause-there : goal.take_out-requires-clause-there
take_out-requires-clause-there c =
    subst (λ (row : List Target). IsTrue (has_target row c.args.to.now))
    (sym (row_seen c.self.inside.rows c.args.self.now c.args.from.now c.self.invariant.in_order c.self.view_is)) c.requires.there

pub invariant_of-self-2 : goal.invariant_of-self-2
invariant_of-self-2 c =
    let sources = c.self.inside.rows in
    let count = c.self.inside.count in
    let from = c.args.from.now in
    let held = held_row sources from in
    let row = without_target held c.args.to.now in
    let seen = row_seen sources c.args.self.now from c.self.invariant.in_order c.self.view_is in
    let there = subst (λ (row : List Target). IsTrue (has_target row c.args.to.now)) (sym seen) c.requires.there in
    let another : 1 < length held = subst (λ (row : List Target). 1 < length row) (sym seen) c.requires.another in
    let lost = c.in_ok-take_out.ensures.lost in
    let fits = lost_fits sources count from c.self.invariant in
    let is : IsHeldRow row = record {
      some = omega (arith, lost, another);
      sorted = take_in_order held c.args.to.now (held_in_order sources count from c.self.invariant);
    } in
    subst (λ (all : BySource). AreHeld all (count - 1)) (sym c.in_ok-take_out.ensures.row)
    (held_set sources count (count - 1) from row c.self.invariant is (name_is_found sources from c.args.to.now there)
    (omega (arith, lost, another, fits)))

pub returns-clause-row : goal.returns-clause-row
returns-clause-row c =
    let sources = c.self.inside.rows in
    let from = c.args.from.now in
    let row = without_target (held_row sources from) c.args.to.now in
    let seen = row_seen sources c.args.self.now from c.self.invariant.in_order c.self.view_is in
    let there = subst (λ (row : List Target). IsTrue (has_target row c.args.to.now)) (sym seen) c.requires.there in
    ap (λ (all : BySource). row_of (answers all) from) c.in_ok-take_out.ensures.row
    ∙ (row_after_setting sources from row c.self.invariant.in_order (name_is_found sources from c.args.to.now there)
    ∙ ap (λ (was : List Target). without_target was c.args.to.now) seen)

pub returns-clause-others : goal.returns-clause-others
returns-clause-others c other apart =
    let sources = c.self.inside.rows in
    let from = c.args.from.now in
    ap (λ (all : BySource). row_of (answers all) other) c.in_ok-take_out.ensures.row
    ∙ others_after_setting sources c.args.self.now from (without_target (held_row sources from) c.args.to.now)
    c.self.invariant.in_order c.self.view_is other apart
