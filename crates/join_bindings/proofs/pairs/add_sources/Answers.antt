use Rattle.std.proofs.Common.{◌≡◌, ◌+◌, ◌++◌, [], ◌∷◌, ℕ, List, take, ap, subst, ◌∙◌, ◌⊎◌}
use Rattle.std.specs.Prelude.{◌↔◌, Contains}
use Rattle.std.proofs.lemmas.List.{take_all}
use Rattle.rpq_base.proofs.Members.{next_one}
use Rattle.rpq_base.specs.declared.data.Pair.{Pair}
use Rattle.join_bindings.specs.Pairs.{pair}
use Rattle.join_bindings.proofs.Rowing.{source_more}
use Rattle.join_bindings.proofs.pairs.add_sources.Goals as goal

pub loop-source-preserved : goal.loop-source-preserved
loop-source-preserved c = λ one.
    let all : List (List ℕ) = c.args.sources.now in
    let index = c.loop-source.source-index in
    let next : List ℕ = c.source-item.result in
    let found : List Pair = c.loop-source.found.items in
    let more : List Pair = c.push.new.self.items in
    let given : more ≡ found ++ pair next c.args.to.now ∷ [] =
    c.in_ok-push.ensures.items ∙ ap (λ (name : List ℕ). found ++ pair name c.args.to.now ∷ []) c.name.ensures in
    source_more c.args.to.now (take index all) (take (index + 1) all) next found more (Contains c.args.found.now.items one) one
    (next_one all index next c.loop-source-test.true c.source-item.is) given (c.loop-source.invariant one)

pub returns : goal.returns
returns c = λ one.
    let all : List (List ℕ) = c.args.sources.now in
    subst (λ (list : List (List ℕ)). Contains c.loop-source.found.items one
    ↔ (Contains c.args.found.now.items one ⊎ ((c.args.to.now ≡ one.to) × Contains list one.from)))
    (take_all c.loop-source.source-index all c.loop-source-test.false) (c.loop-source.invariant one)
