-- The final states of an automaton.
use Rattle.std.proofs.Common.{◌≡◌, ◌<◌, ℕ, zero, suc, true, List, sym, ◌∙◌, true≢false, arith}
use Rattle.dfa_table.specs.DfaValue.{DfaValue, IsDfa, is_final}
use Rattle.source_tree.specs.Product.{AreFinals}
use Rattle.end_log.specs.Moves.{HasFinals}

-- the start isn't final
above_start : (dfa : DfaValue) (state : ℕ) → IsDfa dfa → is_final dfa state ≡ true → 0 < state
above_start dfa zero valid is = absurd (true≢false (sym is ∙ valid.start))
above_start dfa (suc state) valid is = omega arith

-- so those that aren't the start are all
pub has_finals : (dfa : DfaValue) (finals : List ℕ) → IsDfa dfa → AreFinals dfa finals →
    HasFinals dfa finals
has_finals dfa finals valid are state = (
  (λ there. ((are state).0 there).1),
  (λ final. (are state).1 (above_start dfa state valid final, final)),
)
