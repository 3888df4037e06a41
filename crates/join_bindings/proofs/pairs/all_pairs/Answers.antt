use Rattle.std.proofs.Common.{◌≤◌, ℕ, subst}
use Rattle.std.specs.Prelude.{◌↔◌, Contains}
use Rattle.std.proofs.lemmas.List.{take_all}
use Rattle.join_bindings.specs.Pairs.{Rows, pairs_of}
use Rattle.join_bindings.proofs.Rowing.{row_found}
use Rattle.join_bindings.proofs.pairs.all_pairs.Goals as goal

pub loop-place-preserved : goal.loop-place-preserved
loop-place-preserved c = λ one.
    row_found c.args.sources.now c.loop-place.place c.at.result.0.now c.at.result.1.now c.loop-place.found.items c.add_targets.new.found.items
    c.at.ensures one (c.loop-place.invariant one) (c.in_ok-add_targets.ensures one)

pub returns : goal.returns
returns c = λ one.
    subst (λ (rows : Rows). Contains c.loop-place.found.items one ↔ Contains (pairs_of rows) one)
    (take_all c.loop-place.place c.args.sources.now
    (subst (λ (count : ℕ). count ≤ c.loop-place.place) c.len-place-end.ensures c.loop-place-test.false)) (c.loop-place.invariant one)
