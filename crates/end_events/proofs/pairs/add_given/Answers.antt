use Rattle.std.proofs.Common.{◌+◌, List, get_or, take, subst}
use Rattle.std.proofs.lemmas.List.{get_or_default, take_all}
use Rattle.rpq_base.proofs.Members.{next_one}
use Rattle.source_tree.specs.declared.change.EndChange.{EndChange}
use Rattle.source_tree.specs.declared.change.Outcome.TheVariants.{Lost, Gained}
use Rattle.end_events.specs.Pairs.{Gathers}
use Rattle.end_events.proofs.Adding.{gathers_none, gathers_more}
use Rattle.end_events.proofs.pairs.add_given.Goals as goal

pub loop-each-init : goal.loop-each-init
loop-each-init c = (
  gathers_none c.args.mode Lost c.args.names.now c.args.lost.now.items,
  gathers_none c.args.mode Gained c.args.names.now c.args.gained.now.items,
)

pub loop-each-preserved : goal.loop-each-preserved
loop-each-preserved c =
    let mode = c.args.mode in
    let names = c.args.names.now in
    let changes = c.args.changes.now in
    let index = c.loop-each.each-index in
    let each : EndChange = get_or changes index (record { root = 0; vertex = 0; outcome = Lost }) in
    let before = take index changes in
    let after = take (index + 1) changes in
    let one = next_one changes index each c.loop-each-test.true (get_or_default changes index _ each c.loop-each-test.true) in (
      gathers_more mode Lost names before each after c.args.lost.now.items c.loop-each.lost.items c.add_pair.new.found.items one
          c.loop-each.invariant.0 c.in_ok-add_pair.ensures,
      gathers_more mode Gained names before each after c.args.gained.now.items c.loop-each.gained.items c.add_pair-in-loop-each.new.found.items one
          c.loop-each.invariant.1 c.in_ok-add_pair-2.ensures,
    )

pub returns-clause-lost : goal.returns-clause-lost
returns-clause-lost c =
    let changes = c.args.changes.now in
    subst (λ (log : List EndChange). Gathers c.args.mode Lost c.args.names.now log c.args.lost.now.items c.loop-each.lost.items)
    (take_all c.loop-each.each-index changes c.loop-each-test.false) c.loop-each.invariant.0

pub returns-clause-gained : goal.returns-clause-gained
returns-clause-gained c =
    let changes = c.args.changes.now in
    subst (λ (log : List EndChange). Gathers c.args.mode Gained c.args.names.now log c.args.gained.now.items c.loop-each.gained.items)
    (take_all c.loop-each.each-index changes c.loop-each-test.false) c.loop-each.invariant.1
