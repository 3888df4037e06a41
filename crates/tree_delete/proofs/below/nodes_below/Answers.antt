use Rattle.std.proofs.Common.{◌≡◌, ◌<◌, length, Some, slice_get, refl, ap, arith}
use Rattle.std.proofs.lemmas.List.{take_all}
use Rattle.std.proofs.lemmas.Option.{slice_get_read}
use Rattle.dfa_table.specs.DfaValue.{step_of}
use Rattle.delta_tree.specs.declared.node.NodeId.{NodeId}
use Rattle.tree_insert.specs.Trees.{count_outs}
use Rattle.tree_insert.proofs.Paths.{supported_of_ways}
use Rattle.tree_delete.specs.Below.{children, onwards}
use Rattle.tree_delete.proofs.Finding.{counted_next, finding_all, finding_few, finding_more, finding_none, holds_at}
use Rattle.tree_delete.proofs.below.nodes_below.Goals as goal

pub loop-place-init : goal.loop-place-init
loop-place-init g c = record {
  finding = finding_none c.args.store.now c.args.dfa.now (g.T.PathTree.tree c.args.tree.now)
      c.args.edge
      c.requires.tree c.in_ok-ids.ids.items c.in_ok-ids.ensures.found;
  within = c.in_ok-ids.ensures.within;
  counted = omega arith;
}

pub add_children-requires : goal.add_children-requires
add_children-requires g c =
    let ids = c.loop-place.ids.items in
    let there : slice_get ids c.loop-place.place ≡ Some c.index-from.result.now =
    slice_get_read ids _ c.loop-place.place c.index-from.result.now refl (omega arith)
    c.index-from.ensures in
    holds_at (λ (id : NodeId). id.state < length c.args.dfa.now.rows) ids c.loop-place.place
    c.index-from.result.now c.loop-place.invariant.within there

pub loop-place-smaller : goal.loop-place-smaller
loop-place-smaller g c =
    omega (
      arith,
      c.loop-place-test.true,
      finding_few c.args.store.now c.args.dfa.now (g.T.PathTree.tree c.args.tree.now) c.args.edge
          c.requires.tree
          c.loop-place.ids.items c.loop-place.place c.loop-place.invariant.finding,
    )

pub loop-place-preserved : goal.loop-place-preserved
loop-place-preserved g c =
    let ids = c.loop-place.ids.items in
    let place = c.loop-place.place in
    let from = c.index-from.result.now in
    let more = c.add_children.new.ids.items in
    let new = children (step_of c.args.dfa.now) (g.T.PathTree.tree c.args.tree.now)
    (onwards c.args.store.now from) in
    let there : slice_get ids place ≡ Some from =
    slice_get_read ids _ place from refl (omega arith) c.index-from.ensures in
    record {
      finding = finding_more c.args.store.now c.args.dfa.now (g.T.PathTree.tree c.args.tree.now)
          c.args.edge
          c.requires.tree ids more place from c.requires.before.2.gone
          c.loop-place.invariant.finding there c.add_children.ensures.walk
          c.in_ok-add_children.ensures.added;
      within = c.in_ok-add_children.ensures.within c.loop-place.invariant.within;
      counted = omega (
        arith,
        c.tick.ensures,
        c.in_ok-add_children.ensures.counted,
        c.loop-place.invariant.counted,
        counted_next c.args.store.now ids more new place from there
            c.in_ok-add_children.ensures.added,
      );
    }

pub returns-clause-below : goal.returns-clause-below
returns-clause-below g c =
    let before = c.requires.before.0 in
    finding_all c.args.store.now c.args.dfa.now (g.T.PathTree.tree c.args.tree.now) c.args.edge
    c.requires.tree before
    c.requires.before.2
    (supported_of_ways before (step_of c.args.dfa.now) (g.T.PathTree.tree c.args.tree.now)
    c.requires.tree
    c.requires.before.1.paths)
    c.loop-place.ids.items c.loop-place.place c.loop-place.invariant.finding
    (omega (arith, c.loop-place-test.false))

pub returns-clause-counted : goal.returns-clause-counted
returns-clause-counted g c =
    let ids = c.loop-place.ids.items in
    let place = c.loop-place.place in
    omega (
      arith,
      c.loop-place.invariant.counted,
      c.loop-place.invariant.finding.fits,
      c.loop-place-test.false,
      ap (count_outs c.args.store.now) (take_all place ids (omega (
        arith,
        c.loop-place-test.false,
      ))),
    )
