use Rattle.std.proofs.Common.{◌≡◌, ◌+◌, List, take, map, rules, sym, ap, subst, ◌∙◌}
use Rattle.std.specs.List.Sorted.{IsStrictlySortedBy}
use Rattle.std.specs.Ordering.{nat_cmp}
use Rattle.std.proofs.lemmas.List.{take_all}
use Rattle.rpq_base.specs.declared.data.Entry.{Entry}
use Rattle.rpq_base.proofs.Members.{next_given}
use Rattle.rpq_base.specs.OwnEnds.{own_end}
use Rattle.rpq_model.specs.Window.{Placed, live_entries}
use Rattle.rpq_model.proofs.OwnDeadlines.{deadline_of_same}
use Rattle.rpq_model.specs.Live.{placed_entry}
use Rattle.plain_evaluator.proofs.Horizons.{AreDeadlinesOf, one_deadline_more}
use Rattle.plain_evaluator.proofs.deadlines.deadlines_at.Goals as goal

pub loop-each-preserved : goal.loop-each-preserved
loop-each-preserved c =
    let live = c.deref-each-items.result.now in
    let index = c.loop-each.each-index in
    let one = c.each-item.result in
    let deadline = c.deadline_of.result in
    one_deadline_more c.args.window (map placed_entry (take index live)) (placed_entry one)
    (map placed_entry (take (index + 1) live)) deadline
    c.loop-each.found.keys c.insert.new.self.keys
    (next_given placed_entry live index one c.loop-each-test.true c.each-item.is)
    (deadline_of_same c.args.window _ one.entry.now.tuple.time c.own_end.result
    (own_end one.entry.now.tuple.act) deadline
    (ap (λ (entry : Entry). entry.tuple.time) c.entry.view_is)
    (c.own_end.ensures ∙ ap (λ (entry : Entry). own_end entry.tuple.act) c.entry.view_is)
    c.deadline_of.ensures)
    c.in_ok-insert.ensures.keys c.loop-each.invariant

pub returns : goal.returns
returns c =
    let window = c.args.window in
    let live = c.deref-each-items.result.now in
    let found = c.loop-each.found.keys in
    let is : c.in_ok-collect.field-0.items ≡ found = search rules in
    let all : map placed_entry (take c.loop-each.each-index live) ≡ live_entries window c.args.now
    c.args.entries.now =
    ap (map placed_entry) (take_all c.loop-each.each-index live c.loop-each-test.false
    ∙ c.deref-each-items.ensures.value) ∙ c.in_ok-live.ensures in
    let rising : IsStrictlySortedBy nat_cmp found = search rules in
    record {
      rising = subst (IsStrictlySortedBy nat_cmp) (sym is) rising;
      exact = subst (AreDeadlinesOf window (live_entries window c.args.now c.args.entries.now))
          (sym is)
          (subst (λ (some : List Placed). AreDeadlinesOf window some found) all
          c.loop-each.invariant);
    }
