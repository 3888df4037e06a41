use Rattle.std.proofs.Common.{◌≡◌, ◌+◌, ℕ, List, take, subst, ◌⊎◌}
use Rattle.std.specs.Prelude.{◌↔◌, Contains}
use Rattle.std.proofs.lemmas.List.{take_all}
use Rattle.rpq_base.proofs.Members.{none_in, next_one}
use Rattle.rpq_base.specs.declared.data.Pair.{Pair}
use Rattle.join_bindings.proofs.Rowing.{among_more, both_turned}
use Rattle.join_bindings.proofs.pairs.PairSet.with_target_among.Goals as goal

pub loop-source-init : goal.loop-source-init
loop-source-init c = λ one. (
  (λ member. absurd (none_in one (subst (λ (items : List Pair). Contains items one) c.new-found.ensures.items member))),
  (λ all. absurd (none_in one.from all.1.1)),
)

pub loop-source-preserved : goal.loop-source-preserved
loop-source-preserved c = λ one.
    let set : List Pair = c.args.self.now in
    let all : List (List ℕ) = c.args.sources.now in
    let to = c.args.to.now in
    let index = c.loop-source.source-index in
    let next : List ℕ = c.source-item.result in
    let found : List Pair = c.loop-source.found.items in
    let more : List Pair = c.add_one.new.found.items in
    let now : Contains more one ↔ (Contains found one ⊎ (Contains set one × ((next ≡ one.from) × (to ≡ one.to)))) =
    subst (λ (name : List ℕ). Contains more one ↔ (Contains found one ⊎ (Contains set one × ((name ≡ one.from) × (to ≡ one.to)))))
    c.name.ensures (c.in_ok-add_one.ensures one) in
    among_more (take index all) (take (index + 1) all) next one.from (Contains set one) (to ≡ one.to) (Contains found one) (Contains more one)
    (next_one all index next c.loop-source-test.true c.source-item.is)
    (both_turned (Contains set one) (next ≡ one.from) (to ≡ one.to) (Contains found one) (Contains more one) now) (c.loop-source.invariant one)

pub returns : goal.returns
returns c = λ one.
    let all : List (List ℕ) = c.args.sources.now in
    subst (λ (list : List (List ℕ)). Contains c.loop-source.found.items one
    ↔ (Contains c.args.self.now one × ((c.args.to.now ≡ one.to) × Contains list one.from)))
    (take_all c.loop-source.source-index all c.loop-source-test.false) (c.loop-source.invariant one)
