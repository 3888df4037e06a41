use Rattle.std.proofs.Common.{◌≡◌, [], ◌∷◌, ◌++◌, List, ℕ, length, refl, sym, ap, subst, ◌∙◌, ◌⊎◌, append_assoc, append-nil, arith}
use Rattle.std.specs.Prelude.{◌↔◌, Contains}
use Rattle.std.specs.Vec.Iter.{into_iter_items}
use Rattle.rpq_base.proofs.Members.{one_more}
use Rattle.join_bindings.proofs.Finding.{IsOf, binding_more}
use Rattle.join_bindings.proofs.found.add_bindings.Goals as goal

nothing_left : {X : Type 0} (list : List X) → length list ≡ 0 → list ≡ []
nothing_left [] none = refl
nothing_left (x ∷ xs) none = absurd (omega arith)

pub loop-binding-preserved : goal.loop-binding-preserved
loop-binding-preserved c =
    let at = c.loop-binding in
    let x = c.in-Some.binding in
    let steps : into_iter_items at.binding-iterator ≡ x ∷ into_iter_items c.next.new.self = c.in-Some.ensures.steps.0 in (
      append_assoc at.yielded (x ∷ []) _ ∙ rw (← steps) at.invariant.0,
      λ each. binding_more c.args.join c.args.added at.yielded (at.yielded ++ x ∷ []) x at.found.items c.push.new.self.items (Contains c.args.found.now.items each) each
          (one_more at.yielded x) c.in_ok-push.ensures.items (at.invariant.1 each),
      let was = at.invariant.2 in
          let gone = c.in-Some.ensures.steps.1 in
          let short = ap length steps in
          omega arith,
    )

pub returns : goal.returns
returns c = λ each.
    let at = c.loop-binding in
    let none = c.in-None.ensures.steps in
    let empty : into_iter_items at.binding-iterator ≡ [] = nothing_left _ (sym at.invariant.2 ∙ none.0) in
    let all : at.yielded ≡ c.args.bindings.items =
    sym (append-nil at.yielded) ∙ rw empty at at.invariant.0 ∙ c.into_iter-binding-iterator.ensures.into_iter_gives.0 in
    subst (λ (list : List (List (List ℕ))). Contains at.found.items each ↔ (Contains c.args.found.now.items each ⊎ IsOf c.args.join c.args.added list each)) all (at.invariant.1 each)
