use Rattle.std.proofs.Common.{rules, ◌≡◌, ◌+◌, ◌<◌, Bool, List, cond, length, sym, ap, subst, ◌∙◌, arith}
use Rattle.answer_rows.specs.Answers.{row_of}
use Rattle.answer_rows.specs.BySource.{BySource, answers, held_row, AreHeld}
use Rattle.answer_rows.specs.declared.target.Target.{Target}
use Rattle.answer_rows.proofs.Held.{row_seen, held_in_order, held_put, row_after_put, others_after_setting}
use Rattle.answer_rows.proofs.rows.Rows.put_to.Goals as goal

pub put_in-requires-clause-some : goal.put_in-requires-clause-some
put_in-requires-clause-some c =
    subst (λ (row : List Target). 0 < length row)
    (sym (row_seen c.self.inside.rows c.args.self.now c.args.from.now c.self.invariant.in_order c.self.view_is)) c.requires

pub put_in-requires-clause-sorted : goal.put_in-requires-clause-sorted
put_in-requires-clause-sorted c = held_in_order c.self.inside.rows c.self.inside.count c.args.from.now c.self.invariant

pub invariant_of-self-then-gained : goal.invariant_of-self-then-gained
invariant_of-self-then-gained c =
    let sources = c.self.inside.rows in
    let count = c.self.inside.count in
    let from = c.args.from.now in
    let held = held_row sources from in
    let some = subst (λ (row : List Target). 0 < length row)
    (sym (row_seen sources c.args.self.now from c.self.invariant.in_order c.self.view_is)) c.requires in
    let long = c.in_ok-gained.ensures.gained ∙ ap (λ (test : Bool). length held + cond test 1 0) c.if-gained.true in
    let more : c.in_ok-more.more ≡ count + 1 = search rules in
    subst (λ (all : BySource). AreHeld all c.in_ok-more.more) (sym c.in_ok-gained.ensures.row)
    (held_put sources count c.in_ok-more.more from c.args.to.now c.args.until 1 c.self.invariant some long more)

pub invariant_of-self-else-gained : goal.invariant_of-self-else-gained
invariant_of-self-else-gained c =
    let sources = c.self.inside.rows in
    let count = c.self.inside.count in
    let from = c.args.from.now in
    let held = held_row sources from in
    let some = subst (λ (row : List Target). 0 < length row)
    (sym (row_seen sources c.args.self.now from c.self.invariant.in_order c.self.view_is)) c.requires in
    let long = c.in_ok-gained.ensures.gained ∙ ap (λ (test : Bool). length held + cond test 1 0) c.if-gained.false in
    let more : count ≡ count + 0 = omega arith in
    subst (λ (all : BySource). AreHeld all count) (sym c.in_ok-gained.ensures.row)
    (held_put sources count count from c.args.to.now c.args.until 0 c.self.invariant some long more)

pub returns-then-gained-clause-row : goal.returns-then-gained-clause-row
returns-then-gained-clause-row c =
    ap (λ (all : BySource). row_of (answers all) c.args.from.now) c.in_ok-gained.ensures.row
    ∙ row_after_put c.self.inside.rows c.args.self.now c.args.from.now c.args.to.now c.args.until c.self.invariant.in_order
    c.self.view_is c.requires

pub returns-then-gained-clause-others : goal.returns-then-gained-clause-others
returns-then-gained-clause-others c other apart =
    ap (λ (all : BySource). row_of (answers all) other) c.in_ok-gained.ensures.row
    ∙ others_after_setting c.self.inside.rows c.args.self.now c.args.from.now _ c.self.invariant.in_order c.self.view_is other apart

pub returns-else-gained-clause-row : goal.returns-else-gained-clause-row
returns-else-gained-clause-row c =
    ap (λ (all : BySource). row_of (answers all) c.args.from.now) c.in_ok-gained.ensures.row
    ∙ row_after_put c.self.inside.rows c.args.self.now c.args.from.now c.args.to.now c.args.until c.self.invariant.in_order
    c.self.view_is c.requires

pub returns-else-gained-clause-others : goal.returns-else-gained-clause-others
returns-else-gained-clause-others c other apart =
    ap (λ (all : BySource). row_of (answers all) other) c.in_ok-gained.ensures.row
    ∙ others_after_setting c.self.inside.rows c.args.self.now c.args.from.now _ c.self.invariant.in_order c.self.view_is other apart
