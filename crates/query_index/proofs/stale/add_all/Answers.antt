use Rattle.std.proofs.Common.{ℕ, ◌+◌, ◌<◌, List, length, get_or, take, Contains, inl, inr, sym, subst, ◌⊎◌}
use Rattle.std.proofs.lemmas.List.{get_or_default, take_all}
use Rattle.rpq_base.proofs.Members.{next_one}
use Rattle.query_index.specs.RootList.{AddsRoot}
use Rattle.query_index.proofs.stale.add_all.Goals as goal

-- one root more
added_more : (old found new roots : List ℕ) (index d : ℕ) → index < length roots →
    AddsRoot found (get_or roots index d) new →
    ((each : ℕ) → Contains old each ⊎ Contains (take index roots) each → Contains found each) →
    (each : ℕ) → Contains old each ⊎ Contains (take (index + 1) roots) each → Contains new each
added_more old found new roots index d inside adds so_far = λ each either.
    let one = get_or roots index d in
    let next = next_one roots index one inside (get_or_default roots index d one inside) in
    (adds each).1 (elim either [
      | inl was ↦ inl (so_far each (inl was))
      | inr member ↦ elim (next.cases each member) [
        | inl before ↦ inl (so_far each (inr before))
        | inr same ↦ inr same
      ]
    ])

pub loop-root-preserved : goal.loop-root-preserved
loop-root-preserved c =
    added_more c.args.stale.now c.loop-root.stale c.add.new.self c.args.roots.now
    c.loop-root.root-index _ c.loop-root-test.true c.in_ok-add.ensures.added
    c.loop-root.invariant

pub returns : goal.returns
returns c = λ each either.
    c.loop-root.invariant each
    (subst (λ (roots : List ℕ). Contains c.args.stale.now each ⊎ Contains roots each)
    (sym {A = List ℕ}
    (take_all c.loop-root.root-index c.args.roots.now c.loop-root-test.false)) either)
