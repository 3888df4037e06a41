use Rattle.std.proofs.Common.{◌≡◌, ℕ, length, refl, subst, arith}
use Rattle.place_table.specs.Table.{tree_in}
use Rattle.wide_search.specs.Counts.{CountsWide}
use Rattle.wide_search.proofs.Counts.{wide_more, wide_none}
use Rattle.wide_search.proofs.Pending.{rest_sound, searched_more, searched_none}
use Rattle.wide_search.proofs.search.search_states.Goals as goal

pub search_from-requires-clause-sound : goal.search_from-requires-clause-sound
search_from-requires-clause-sound g c =
    rest_sound c.args.graph.now _ c.loop-place.place (omega (arith, c.loop-place-test.true)) refl
    c.args.table.now c.loop-place.table c.loop-place.invariant.searched

pub loop-place-init : goal.loop-place-init
loop-place-init g c = record {
  searched = searched_none c.args.graph.now c.args.table.now c.requires.sound;
  lifts = λ first are. are;
  counted = wide_none c.args.graph.now.store.now (tree_in c.args.table.now) c.args.steps.now;
}

pub loop-place-preserved : goal.loop-place-preserved
loop-place-preserved g c = record {
  searched = searched_more c.args.graph.now _ c.loop-place.place
      (omega (arith, c.loop-place-test.true)) refl c.args.value c.requires.value c.requires.raised
      c.args.table.now c.loop-place.table c.search_from.new.table c.loop-place.invariant.searched
      c.in_ok-search_from.ensures.searched;
  lifts = λ first are.
      c.in_ok-search_from.ensures.lifts first (c.loop-place.invariant.lifts first are);
  counted = wide_more c.args.graph.now.store.now (tree_in c.args.table.now)
      (tree_in c.loop-place.table) (tree_in c.search_from.new.table) c.loop-place.place
      c.args.steps.now c.loop-place.steps c.search_from.new.steps
      (λ root. c.loop-place.invariant.searched.rises root)
      (λ root. c.in_ok-search_from.ensures.searched.rises root)
      c.loop-place.invariant.counted c.in_ok-search_from.ensures.counted;
}

pub returns-clause-counted : goal.returns-clause-counted
returns-clause-counted g c =
    let all : c.loop-place.place ≡ length c.args.graph.now.pending.now =
    omega (arith, c.loop-place-test.false, c.loop-place.auto.place-end) in
    subst (λ (n : ℕ). CountsWide c.args.graph.now.store.now (tree_in c.args.table.now)
    (tree_in c.loop-place.table) n c.args.steps.now c.loop-place.steps) all
    c.loop-place.invariant.counted
