use Rattle.std.proofs.Common.{◌≡◌, ◌+◌, List, ℕ, take, subst, ◌⊎◌}
use Rattle.std.specs.Prelude.{◌↔◌, Contains}
use Rattle.std.proofs.lemmas.List.{take_all}
use Rattle.rpq_base.proofs.Members.{next_one}
use Rattle.join_bindings.proofs.Vertices.{put_next}
use Rattle.join_bindings.proofs.vertex_set.hashed.Goals as goal

pub loop-vertex-preserved : goal.loop-vertex-preserved
loop-vertex-preserved c = λ other.
    let all : List (List ℕ) = c.args.few.now in
    let index = c.loop-vertex.vertex-index in
    let one : List ℕ = c.vertex-item.result in
    put_next (take index all) (take (index + 1) all) one c.loop-vertex.many.keys c.insert.new.many.keys other
    (next_one all index one c.loop-vertex-test.true c.vertex-item.is)
    (subst (λ (name : List ℕ). Contains c.insert.new.many.keys other ↔ (Contains c.loop-vertex.many.keys other ⊎ (name ≡ other))) c.name.ensures
    (c.in_ok-insert.ensures other)) (c.loop-vertex.invariant other)

pub returns : goal.returns
returns c = λ other.
    subst (λ (list : List (List ℕ)). Contains c.loop-vertex.many.keys other ↔ Contains list other)
    (take_all c.loop-vertex.vertex-index c.args.few.now c.loop-vertex-test.false) (c.loop-vertex.invariant other)
