-- The final states of an automaton.
use Rattle.std.proofs.Common.{◌≡◌, ◌≤◌, ◌<◌, ◌↔◌, ℕ, zero, suc, Bool, false, true, List, length, sym, ap, subst, ◌∙◌, Contains, true≢false, arith}
use Rattle.std.specs.Prelude.{IsTrue}
use Rattle.std.proofs.lemmas.List.{get_or_past}
use Rattle.dfa_table.specs.DfaValue.{DfaValue, IsDfa, is_final}
use Rattle.source_tree.specs.Product.{AreFinals, ProductValue}

-- a number that isn't one of a state
not_final : (dfa : DfaValue) (finals : List ℕ) (state : ℕ) → AreFinals dfa finals →
    IsDfa dfa → length dfa.rows ≤ state → Contains finals state → ⊥
not_final dfa finals state are valid above there =
    true≢false (sym ((are state).0 there).1
    ∙ get_or_past dfa.finals state false (omega (arith, valid.finals, above)))

-- the start isn't final
above_start : (dfa : DfaValue) (state : ℕ) → IsDfa dfa → is_final dfa state ≡ true → 0 < state
above_start dfa zero valid is = absurd (true≢false (sym is ∙ valid.start))
above_start dfa (suc state) valid is = omega arith

module _ (product inside : ProductValue) (is : inside ≡ product)
    (are : AreFinals product.dfa product.finals) (valid : IsDfa inside.dfa) (state : ℕ) where
  known : IsDfa product.dfa
  known = subst (λ (each : ProductValue). IsDfa each.dfa) is valid

  pub of_state : (answer : Bool) → answer ≡ is_final inside.dfa state →
      IsTrue answer ↔ Contains product.finals state
  of_state answer says =
      let same : answer ≡ is_final product.dfa state =
      says ∙ ap (λ (each : ProductValue). is_final each.dfa state) is in (
        (λ passed.
            let final : is_final product.dfa state ≡ true = sym same ∙ passed in
            (are state).1 (above_start product.dfa state known final, final)),
        (λ there. same ∙ ((are state).0 there).1),
      )

  pub of_none : length inside.dfa.rows ≤ state → IsTrue false ↔ Contains product.finals state
  of_none above = (
    (λ passed. absurd (true≢false (sym passed))),
    (λ there. absurd (not_final product.dfa product.finals state are known
        (subst (λ (each : ProductValue). length each.dfa.rows ≤ state) is above) there)),
  )
