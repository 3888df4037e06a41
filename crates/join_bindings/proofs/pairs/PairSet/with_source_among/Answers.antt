use Rattle.std.proofs.Common.{◌≡◌, ◌+◌, ℕ, List, take, subst, ◌⊎◌}
use Rattle.std.specs.Prelude.{◌↔◌, Contains}
use Rattle.std.proofs.lemmas.List.{take_all}
use Rattle.rpq_base.proofs.Members.{none_in, next_one}
use Rattle.rpq_base.specs.declared.data.Pair.{Pair}
use Rattle.join_bindings.proofs.Rowing.{among_more}
use Rattle.join_bindings.proofs.pairs.PairSet.with_source_among.Goals as goal

pub loop-target-init : goal.loop-target-init
loop-target-init c = λ one. (
  (λ member. absurd (none_in one (subst (λ (items : List Pair). Contains items one) c.new-found.ensures.items member))),
  (λ all. absurd (none_in one.to all.1.1)),
)

pub loop-target-preserved : goal.loop-target-preserved
loop-target-preserved c = λ one.
    let set : List Pair = c.args.self.now in
    let all : List (List ℕ) = c.args.targets.now in
    let from = c.args.from.now in
    let index = c.loop-target.target-index in
    let next : List ℕ = c.target-item.result in
    let found : List Pair = c.loop-target.found.items in
    let more : List Pair = c.add_one.new.found.items in
    let now : Contains more one ↔ (Contains found one ⊎ (Contains set one × ((from ≡ one.from) × (next ≡ one.to)))) =
    subst (λ (name : List ℕ). Contains more one ↔ (Contains found one ⊎ (Contains set one × ((from ≡ one.from) × (name ≡ one.to)))))
    c.name.ensures (c.in_ok-add_one.ensures one) in
    among_more (take index all) (take (index + 1) all) next one.to (Contains set one) (from ≡ one.from) (Contains found one) (Contains more one)
    (next_one all index next c.loop-target-test.true c.target-item.is) now (c.loop-target.invariant one)

pub returns : goal.returns
returns c = λ one.
    let all : List (List ℕ) = c.args.targets.now in
    subst (λ (list : List (List ℕ)). Contains c.loop-target.found.items one
    ↔ (Contains c.args.self.now one × ((c.args.from.now ≡ one.from) × Contains list one.to)))
    (take_all c.loop-target.target-index all c.loop-target-test.false) (c.loop-target.invariant one)
