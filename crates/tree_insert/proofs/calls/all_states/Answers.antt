use Rattle.std.proofs.Common.{◌≡◌, ℕ, List, [], ◌∷◌, Contains, ⊎_elim, sym, subst, arith}
use Rattle.std.proofs.lemmas.Bool.{cases_eq}
use Rattle.std.proofs.lemmas.List.Elements.{Contains-append_left, Contains-append_right}
use Rattle.tree_insert.proofs.Members.{contains_head}
use Rattle.tree_insert.proofs.calls.all_states.Goals as goal

pub loop-state-preserved : goal.loop-state-preserved
loop-state-preserved c state below =
    let before = c.loop-state.states.items in
    let next = c.loop-state.state in
    subst (λ (states : List ℕ). Contains states state) (sym c.in_ok-push.ensures.items)
    (⊎_elim
    (λ (same : state ≡ next). Contains-append_right before (next ∷ []) state
    (subst (λ (n : ℕ). Contains (next ∷ []) n) (sym same) (contains_head next [])))
    (λ (apart : state ≡ next → ⊥). Contains-append_left before (next ∷ []) state
    (c.loop-state.invariant state (omega (arith, apart))))
    (cases_eq state next))
