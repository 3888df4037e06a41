use Rattle.std.proofs.Common.{◌≡◌, List, ℕ, true, ap, subst, ◌∙◌}
use Rattle.std.specs.Prelude.{◌↔◌, Contains}
use Rattle.join_bindings.proofs.Vertices.{found_by, many_are}
use Rattle.join_bindings.proofs.vertex_set.VertexSet.contains.Goals as goal

pub returns-in-Some : goal.returns-in-Some
returns-in-Some c =
    let is = ap (λ many. many.keys) c.deref.ensures
    ∙ many_are _ c.self.inside.many c.in-Some.many c.self.inside.few.items c.args.self.now c.in-Some.is c.self.view_is in
    subst (λ (list : List (List ℕ)). (c.contains.result ≡ true) ↔ Contains list c.args.name.now) is
    (found_by c.deref.result.now.keys c.as_bytes.result.now c.args.name.now c.contains.result c.as_bytes.ensures.bytes c.contains.ensures)
