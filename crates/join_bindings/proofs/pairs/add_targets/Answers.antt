use Rattle.std.proofs.Common.{◌≡◌, ◌+◌, ◌++◌, [], ◌∷◌, ℕ, List, take, ap, subst, ◌∙◌, ◌⊎◌}
use Rattle.std.specs.Prelude.{◌↔◌, Contains}
use Rattle.std.proofs.lemmas.List.{take_all}
use Rattle.rpq_base.proofs.Members.{next_one}
use Rattle.rpq_base.specs.declared.data.Pair.{Pair}
use Rattle.join_bindings.specs.Pairs.{pair}
use Rattle.join_bindings.proofs.Rowing.{target_more}
use Rattle.join_bindings.proofs.pairs.add_targets.Goals as goal

pub loop-target-preserved : goal.loop-target-preserved
loop-target-preserved c = λ one.
    let all : List (List ℕ) = c.args.targets.now in
    let index = c.loop-target.target-index in
    let next : List ℕ = c.target-item.result in
    let found : List Pair = c.loop-target.found.items in
    let more : List Pair = c.push.new.self.items in
    let given : more ≡ found ++ pair c.args.from.now next ∷ [] =
    c.in_ok-push.ensures.items ∙ ap (λ (name : List ℕ). found ++ pair c.args.from.now name ∷ []) c.name.ensures in
    target_more c.args.from.now (take index all) (take (index + 1) all) next found more (Contains c.args.found.now.items one) one
    (next_one all index next c.loop-target-test.true c.target-item.is) given (c.loop-target.invariant one)

pub returns : goal.returns
returns c = λ one.
    let all : List (List ℕ) = c.args.targets.now in
    subst (λ (list : List (List ℕ)). Contains c.loop-target.found.items one
    ↔ (Contains c.args.found.now.items one ⊎ ((c.args.from.now ≡ one.from) × Contains list one.to)))
    (take_all c.loop-target.target-index all c.loop-target-test.false) (c.loop-target.invariant one)
