use Rattle.std.proofs.Common.{List, [], ℕ, Some, None, sym, subst}
use Rattle.std.specs.Prelude.{◌↔◌, ◌≡◌, Contains, true}
use Rattle.std.proofs.lemmas.Bool.{false≢true}
use Rattle.rpq_base.proofs.Members.{none_in}
use Rattle.join_bindings.specs.Pairs.{row_of}
use Rattle.join_bindings.proofs.Vertices.{row_by}
use Rattle.join_bindings.proofs.rows.VertexRows.has.Goals as goal

pub returns-in-Some : goal.returns-in-Some
returns-in-Some c =
    let row : List (List ℕ) = c.in-Some.row.now in
    let is : row ≡ row_of c.args.self.now c.args.vertex.now =
    row_by c.self.inside.rows.entries c.args.self.now c.as_bytes.result.now c.args.vertex.now (Some row) c.self.view_is c.as_bytes.ensures.bytes
    c.in-Some.ensures.value in
    subst (λ (list : List (List ℕ)). (c.contains.result ≡ true) ↔ Contains list c.args.other.now) is c.contains.ensures

pub returns-in-None : goal.returns-in-None
returns-in-None c =
    let is : [] ≡ row_of c.args.self.now c.args.vertex.now =
    row_by c.self.inside.rows.entries c.args.self.now c.as_bytes.result.now c.args.vertex.now None c.self.view_is c.as_bytes.ensures.bytes
    c.in-None.ensures.value in (
      (λ e. absurd (false≢true e)),
      (λ member. absurd (none_in c.args.other.now (subst (λ (list : List (List ℕ)). Contains list c.args.other.now) (sym is) member))),
    )
