use Rattle.std.proofs.Common.{◌≡◌, List, ℕ, ap, subst, sym, ◌∙◌}
use Rattle.std.specs.Prelude.{◌↔◌, Contains}
use Rattle.join_bindings.proofs.Vertices.{taken_from, many_are, few_are}
use Rattle.join_bindings.proofs.vertex_set.VertexSet.remove.Goals as goal

pub returns-in-Some : goal.returns-in-Some
returns-in-Some c =
    let after : List (List ℕ) = c.swap_remove.new.self.keys in
    let name = c.args.name.now in
    let is = ap (λ many. many.keys) c.deref_mut.ensures.value
    ∙ many_are _ c.self.inside.many c.in-Some.many c.self.inside.few.items c.args.self.now c.in-Some.is c.self.view_is in
    subst (λ (before : List (List ℕ)). (other : List ℕ) → Contains after other ↔ (Contains before other × (name ≡ other → ⊥))) is
    (taken_from c.deref_mut.result.now.keys after c.as_bytes.result.now name c.as_bytes.ensures.bytes c.swap_remove.ensures.updates.0)

pub returns-in-None : goal.returns-in-None
returns-in-None c =
    let name = c.args.name.now in
    let before = sym (few_are _ c.self.inside.many c.self.inside.few.items c.in-None.is) ∙ c.self.view_is in
    let after = sym (few_are _ c.self.inside.many c.take_out.new.few.items c.in-None.is) in
    subst (λ (list : List (List ℕ)). (other : List ℕ) → Contains list other ↔ (Contains c.args.self.now other × (name ≡ other → ⊥))) after
    (subst (λ (list : List (List ℕ)). (other : List ℕ) → Contains c.take_out.new.few.items other ↔ (Contains list other × (name ≡ other → ⊥))) before
    c.take_out.ensures)
