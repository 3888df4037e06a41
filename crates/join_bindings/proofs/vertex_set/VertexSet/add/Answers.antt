use Rattle.std.proofs.Common.{◌≡◌, List, ℕ, ap, subst, sym, ◌∙◌, ◌⊎◌, inl, inr, ⊎_elim}
use Rattle.std.specs.Prelude.{◌↔◌, Contains}
use Rattle.indexmap.proofs.MapLemmas.{OnOk-map}
use Rattle.join_bindings.proofs.Vertices.{many_are, few_are}
use Rattle.join_bindings.proofs.vertex_set.VertexSet.add.Goals as goal

-- the name is among those after, and nothing else has changed
abbrev Puts : List (List ℕ) → List (List ℕ) → List ℕ → Type 0
Puts before after name = (other : List ℕ) → Contains after other ↔ (Contains before other ⊎ (name ≡ other))

pub returns-in-Some : goal.returns-in-Some
returns-in-Some c =
    let now : List (List ℕ) = c.args.self.now in
    let name = c.args.name.now in
    let after : List (List ℕ) = c.insert.new.many.keys in
    let is = ap (λ many. many.keys) c.deref_mut.ensures.value
    ∙ many_are _ c.self.inside.many c.in-Some.many c.self.inside.few.items now c.in-Some.is c.self.view_is in
    OnOk-map c.insert.result _ (Puts now after name) (λ puts. subst (λ (before : List (List ℕ)). Puts before after name) is puts) c.insert.ensures

pub returns-in-None : goal.returns-in-None
returns-in-None c =
    let now : List (List ℕ) = c.args.self.now in
    let name = c.args.name.now in
    let before = sym (few_are _ c.self.inside.many c.self.inside.few.items c.in-None.is) ∙ c.self.view_is in
    let after = sym (few_are _ c.self.inside.many c.put_among.new.few.items c.in-None.is) in
    OnOk-map c.put_among.result _ _ (λ puts.
    subst (λ (list : List (List ℕ)). Puts now list name) after
    (subst (λ (list : List (List ℕ)). Puts list c.put_among.new.few.items name) before puts)) c.put_among.ensures

pub returns-in_ok-new-in-None-2 : goal.returns-in_ok-new-in-None-2
returns-in_ok-new-in-None-2 c =
    let now : List (List ℕ) = c.args.self.now in
    let name = c.args.name.now in
    let new : List (List ℕ) = c.insert-in-None-2.new.many.keys in
    let before = c.deref.ensures.value ∙ (sym (few_are _ c.self.inside.many c.self.inside.few.items c.in-None-2.is) ∙ c.self.view_is) in
    let made : new ≡ c.in_ok-new-in-None-2.field-0.value.keys = ap (λ many. many.keys) (sym c.in_ok-new-in-None-2.ensures.ok) in
    subst (λ (list : List (List ℕ)). Puts now list name) made (λ other.
    let members = subst (λ (list : List (List ℕ)). Contains c.in_ok-many-in-None-2.many.keys other ↔ Contains list other) before
    (c.in_ok-many-in-None-2.ensures other) in
    let put = c.in_ok-insert-in-None-2.ensures other in (
      (λ member. ⊎_elim (λ there. inl (members.0 there)) (λ here. inr here) (put.0 member)),
      (λ either. put.1 (⊎_elim (λ there. inl (members.1 there)) (λ here. inr here) either)),
    ))
