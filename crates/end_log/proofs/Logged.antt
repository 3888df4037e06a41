-- From the nodes that came or went to what is logged or listed of them.
use Rattle.std.proofs.Common.{◌≡◌, ◌++◌, ℕ, List, [], ◌∷◌, filter_map, Option, length, get_or, IsPermutation, refl, sym, ap, subst, ◌∙◌, rules}
use Rattle.std.specs.Cmp.{IsEquivalence}
use Rattle.std.specs.Cmp.Rules.{comparing}
use Rattle.std.proofs.lemmas.List.Sorted.{Contains-permutation, IsPermutation-sym}
use Rattle.std.proofs.lemmas.Map.Keys.{IsDistinct-IsPermutation}
use Rattle.dfa_table.specs.DfaValue.{DfaValue}
use Rattle.place_table.specs.Table.{TableValue}
use Rattle.source_tree.specs.declared.change.EndChange.{EndChange}
use Rattle.source_tree.specs.declared.change.Outcome.{Outcome}
use Rattle.end_log.specs.declared.moved.Moved.{Moved}
use Rattle.end_log.specs.Log.{AreEndChangesIn}
use Rattle.end_log.specs.Moves.{AreFinalMoves, AreMoves, HasFinals, end_with, final_one, same_moved}
use Rattle.end_log.proofs.Filtered.{two_steps}
use Rattle.end_log.proofs.OneState.{final_moves, one_ends, only_one}

module _ {X : Type 0} (kind : X → Option Moved) (outcome : Outcome) (old new : TableValue)
    (all : List X) (are : AreMoves outcome old new (filter_map kind all)) where
  -- where one state is final
  pub one_logged : (finals : List ℕ) (start log : List EndChange) → length finals ≡ 1 →
      start ≡ [] →
      log ≡ start ++ filter_map (λ x. end_with (get_or finals 0 0) outcome (kind x)) all →
      AreEndChangesIn finals old new log
  one_logged finals start log one empty is =
      let state = get_or finals 0 0 in
      let ends_are = is
      ∙ ap (λ first. first ++ filter_map (λ x. end_with state outcome (kind x)) all) empty
      ∙ two_steps kind (end_with state outcome) refl all in
      subst (λ (each : List ℕ). AreEndChangesIn each old new log) (sym (only_one finals one))
      (subst (AreEndChangesIn (state ∷ []) old new) (sym ends_are)
      (one_ends state outcome old new (filter_map kind all) are))

  -- where not
  pub many_listed : (dfa : DfaValue) (finals : List ℕ) (start moved : List Moved) →
      HasFinals dfa finals → start ≡ [] →
      moved ≡ start ++ filter_map (λ x. final_one dfa (kind x)) all →
      AreFinalMoves finals outcome old new moved
  many_listed dfa finals start moved known empty is =
      let nodes_are = is ∙ ap (λ first. first ++ filter_map (λ x. final_one dfa (kind x)) all) empty
      ∙ two_steps kind (final_one dfa) refl all in
      subst (AreFinalMoves finals outcome old new) (sym nodes_are)
      (final_moves dfa finals outcome old new (filter_map kind all) known are)

same_moved_laws : IsEquivalence same_moved
same_moved_laws = search (comparing, rules)

-- in another order
pub final_permuted : (finals : List ℕ) (outcome : Outcome) (old new : TableValue)
    (moves sorted : List Moved) → IsPermutation moves sorted →
    AreFinalMoves finals outcome old new moves → AreFinalMoves finals outcome old new sorted
final_permuted finals outcome old new moves sorted moved are = record {
  exact = λ each. (
    (λ there. (are.exact each).0
        (Contains-permutation sorted moves each (IsPermutation-sym moves sorted moved) there)),
    (λ at. Contains-permutation moves sorted each moved ((are.exact each).1 at)),
  );
  once = IsDistinct-IsPermutation same_moved same_moved_laws.symm moves sorted moved are.once;
  way = are.way;
}
