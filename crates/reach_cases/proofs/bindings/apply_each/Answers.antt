use Rattle.std.proofs.Common.{rules, ◌≡◌, ◌+◌, [], ◌∷◌, length, take, sym, subst, ◌∙◌}
use Rattle.rpq_model.specs.Events.{changes}
use Rattle.join_bindings.specs.State.{MayCome, ArePut}
use Rattle.reach_cases.proofs.Applying.{one_query, none_yet, nothing_in}
use Rattle.reach_cases.proofs.bindings.apply_each.Goals as goal

-- no entry has an answer
pub loop-count-init : goal.loop-count-init
loop-count-init c =
    let bare : length c.in_ok-old.old.items ≡ 0 = search rules in
    let none = nothing_in c.in_ok-old.old.items bare in (
      c.in_ok-old.ensures,
      none_yet c.args.query.now c.in_ok-old.old.items c.args.joins.pairs c.in_ok-old.ensures none c.requires.blank,
      c.requires.defs,
    )

pub put_changes-requires-clause-come : goal.put_changes-requires-clause-come
put_changes-requires-clause-come c =
    let query = c.args.query.now in
    let before = take c.loop-count.count c.args.entries.now in
    let after = take (c.loop-count.count + 1) c.args.entries.now in
    let events = c.in_ok-events.events.items in
    let is : events ≡ changes 0 c.loop-count.old.items c.in_ok-new.new.items = search rules in
    let are = one_query query before after c.loop-count.old.items c.in_ok-new.new.items events c.loop-count.invariant.0 c.in_ok-new.ensures is in
    subst (MayCome c.loop-count.joins.pairs) (sym c.deref-in-loop-count-2.ensures.value)
    (c.events_lead_on.ensures (query ∷ []) before after c.loop-count.joins.pairs events c.loop-count.invariant.1 are).come

pub loop-count-preserved : goal.loop-count-preserved
loop-count-preserved c =
    let query = c.args.query.now in
    let before = take c.loop-count.count c.args.entries.now in
    let after = take (c.loop-count.count + 1) c.args.entries.now in
    let events = c.in_ok-events.events.items in
    let sets = c.loop-count.joins.pairs in
    let is : events ≡ changes 0 c.loop-count.old.items c.in_ok-new.new.items = search rules in
    let are = one_query query before after c.loop-count.old.items c.in_ok-new.new.items events c.loop-count.invariant.0 c.in_ok-new.ensures is in
    let lead = c.events_lead_on.ensures (query ∷ []) before after sets events c.loop-count.invariant.1 are in
    let put = subst (ArePut sets c.put_changes.new.joins.pairs) c.deref-in-loop-count-2.ensures.value c.in_ok-put_changes.ensures.put in (
      c.in_ok-new.ensures,
      lead.hold c.put_changes.new.joins.pairs c.in_ok-put_changes.ensures.many put,
      c.in_ok-put_changes.ensures.joins ∙ c.loop-count.invariant.2,
    )
