use Rattle.std.proofs.Common.{◌+◌, ◌==◌, ℕ, List, [], false, refl, sym, subst, rules}
use Rattle.std.specs.Ordering.{nat_cmp}
use Rattle.std.specs.List.{IsDistinct}
use Rattle.std.specs.List.Sorted.{IsStrictlySortedBy}
use Rattle.source_tree.specs.declared.change.EndChange.{EndChange}
use Rattle.source_tree.specs.Product.{product_of}
use Rattle.source_table.specs.Sources.{AreReady, HaveTaken}
use Rattle.delta_forest.specs.Forest.{ForestValue}
use Rattle.delta_forest.specs.Changes.{Applies, AreEndChangesOf, AreTouched}
use Rattle.delta_forest.specs.Keeping.{forest_with}
use Rattle.delta_forest.specs.Settling.{AreFound, AreSettled, forest_of}
use Rattle.delta_forest.specs.declared.index.Index.{Index}
use Rattle.delta_forest.specs.declared.index.ForestState.{ForestState}
use Rattle.delta_forest.proofs.ChangedEnds.{are_end_changes}
use Rattle.delta_forest.proofs.Following.{Follows}
use Rattle.delta_forest.proofs.Grown.{ready}
use Rattle.delta_forest.proofs.Indexed.{indexed}
use Rattle.delta_forest.proofs.KeptTrees.{keeps_trees}
use Rattle.delta_forest.proofs.Settled.{kept_after}
use Rattle.delta_forest.proofs.Touched.{are_touched}
use Rattle.delta_forest.proofs.Unchanged.{applies_still, kept_still}
use Rattle.delta_forest.proofs.advancing.advance.Given.{Over}
use Rattle.delta_forest.proofs.advancing.advance.Goals as goal

pub change_each-requires-clause-sorted : goal.change_each-requires-clause-sorted
change_each-requires-clause-sorted g c κs within =
    let state = c.args.state.now in
    let are = c.in_ok-find_candidates.ensures state.store state.calls c.requires.kept in
    subst (λ (roots : List ℕ). IsStrictlySortedBy nat_cmp roots) (sym c.deref.ensures.value)
    are.sorted

pub change_each-requires-clause-ready : goal.change_each-requires-clause-ready
change_each-requires-clause-ready g c κs within =
    let state = c.args.state.now in
    let dfa = c.args.dfa.now in
    let finals = c.args.finals.now in
    let grown = c.find_candidates.new.index in
    let store = c.change_store.new.store in
    let are = c.in_ok-find_candidates.ensures state.store state.calls c.requires.kept in
    subst (λ (roots : List ℕ).
    AreReady c.args.change (product_of store dfa finals grown.holders) roots grown.sources)
    (sym c.deref.ensures.value)
    (ready c.requires.kept are store finals c.requires.finals
    c.in_ok-change_store.ensures.takes c.requires.calls)

pub settle_all-requires-clause-apart : goal.settle_all-requires-clause-apart
settle_all-requires-clause-apart g c =
    let state = c.args.state.now in
    let are = c.in_ok-find_candidates.ensures state.store state.calls c.requires.kept in
    subst (λ (roots : List ℕ). IsDistinct (λ (first second : ℕ). first == second) roots)
    (sym c.change_each.ensures.roots) are.apart

pub settle_all-requires-clause-sorted : goal.settle_all-requires-clause-sorted
settle_all-requires-clause-sorted g c =
    let state = c.args.state.now in
    let are = c.in_ok-find_candidates.ensures state.store state.calls c.requires.kept in
    subst (λ (roots : List ℕ). IsStrictlySortedBy nat_cmp roots) (sym c.deref-2.ensures.value)
    are.sorted

-- the index follows the change
follows : (g : Over) (c : goal.After-state-2-1 g) →
    Follows c.args.change c.args.dfa.now c.args.finals.now c.args.state.now.calls
    c.args.state.now.store c.change_store.new.store c.args.state.now.index
    c.find_candidates.new.index c.find_candidates.new.roots.items c.change_each.new.self
    c.settle_all.new.index
follows g c =
    let state = c.args.state.now in
    let grown = c.find_candidates.new.index in
    let table = c.change_each.new.self in
    let changed : Index =
    record { sources = table; holders = grown.holders; dues = grown.dues } in
    record {
      takes = c.in_ok-change_store.ensures.takes;
      kept = c.requires.kept;
      are = c.in_ok-find_candidates.ensures state.store state.calls c.requires.kept;
      taken = subst (λ (each : List ℕ). HaveTaken c.args.change
          (product_of c.change_store.new.store c.args.dfa.now c.args.finals.now
          grown.holders) each
          grown.sources table) c.deref.ensures.value c.in_ok-change_each.ensures.taken;
      same = c.change_each.ensures.roots;
      settles = subst (λ (each : List ℕ).
          AreSettled c.args.change changed c.settle_all.new.index each)
          c.deref-2.ensures.value c.in_ok-settle_all.ensures.settled;
      raises = c.raise_elsewhere_keeps_optimal.ensures;
      removes = c.removal_elsewhere_keeps_optimal.ensures;
    }

pub returns-clause-kept : goal.returns-clause-kept
returns-clause-kept g c = kept_after (follows g c)

pub returns-clause-applies : goal.returns-clause-applies
returns-clause-applies g c = λ broken.
    let state = c.args.state.now in
    let dfa = c.args.dfa.now in
    let table = c.change_each.new.self in
    let calls = state.calls + 1 in
    let found = c.settle_all.new.found in
    let finds = subst (λ (each : List ℕ). AreFound table each found)
    c.deref-2.ensures.value c.in_ok-settle_all.ensures.found in
    let new : ForestState = record {
      store = c.change_store.new.store;
      index = c.settle_all.new.index;
      roots = c.find_candidates.new.roots;
      found = found;
      calls = calls;
    } in
    record {
      store = c.in_ok-change_store.ensures.takes;
      indexed = indexed dfa new.store calls calls new.index false found.touched.items
          found.log.items (kept_after (follows g c));
      keeps = keeps_trees (follows g c) state.calls calls broken false
          state.found.touched.items found.touched.items state.found.log.items found.log.items;
      touched = subst (λ (touched : List ℕ). AreTouched c.args.change
          (forest_of dfa broken state) (forest_of dfa false new) touched) (sym finds.touched)
          (are_touched (follows g c) state.calls calls broken false
          state.found.touched.items found.touched.items state.found.log.items found.log.items);
      log = subst (λ (log : List EndChange). AreEndChangesOf
          (forest_of dfa broken state) (forest_of dfa false new) log) (sym finds.log)
          (are_end_changes (follows g c) state.calls calls broken false
          state.found.touched.items found.touched.items state.found.log.items found.log.items
          c.requires.finals);
      calls = refl;
      unbroken = refl;
    }

-- the change ended at the store

pub returns-then-not-branch-clause-kept : goal.returns-then-not-branch-clause-kept
returns-then-not-branch-clause-kept g c =
    let state = c.args.state.now in
    kept_still c.args.change c.args.dfa.now state.calls state.store c.change_store.new.store
    state.index c.in_ok-change_store.ensures.takes
    (c.in_ok-change_store.ensures.same (search rules)) c.requires.kept

pub returns-then-not-branch-clause-applies : goal.returns-then-not-branch-clause-applies
returns-then-not-branch-clause-applies g c = λ broken.
    let state = c.args.state.now in
    let store = c.change_store.new.store in
    let stopped : List ℕ → List EndChange → ForestValue = λ touched log.
    forest_with c.args.dfa.now store state.index.sources (state.calls + 1) false touched log in
    subst (λ (touched : List ℕ). Applies c.args.change (forest_of c.args.dfa.now broken state)
    (stopped touched c.clear-2.new.self.items)) (sym c.clear.ensures.items)
    (subst (λ (log : List EndChange). Applies c.args.change
    (forest_of c.args.dfa.now broken state) (stopped [] log)) (sym c.clear-2.ensures.items)
    (applies_still c.args.change c.args.dfa.now state.calls state.store store state.index
    c.in_ok-change_store.ensures.takes (c.in_ok-change_store.ensures.same (search rules))
    c.requires.kept broken state.found.touched.items state.found.log.items))
