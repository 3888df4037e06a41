-- Lists of ends with the same members, each root and vertex once.
use Rattle.std.proofs.Common.{◌≡◌, inl, inr, ◌==◌, ◌&&◌, Bool, true, false, List, [], ◌∷◌, get_or, IsPermutation, refl, sym, subst, ◌∙◌, Contains, true≢false, rules}
use Rattle.std.specs.Prelude.{◌↔◌, AllPairs, remove}
use Rattle.std.specs.Cmp.{IsEquivalence}
use Rattle.std.specs.Cmp.Rules.{comparing}
use Rattle.std.specs.List.{IsDistinct}
use Rattle.std.proofs.lemmas.Bool.{and_parts, eqb-true}
use Rattle.std.proofs.lemmas.List.Elements.{All-contains, All-from_recursion}
use Rattle.std.proofs.lemmas.List.Sorted.{Contains-permutation, IsPermutation-cons, IsPermutation-refl, IsPermutation-remove, IsPermutation-sym, IsPermutation-trans}
use Rattle.std.proofs.lemmas.Map.Keys.{IsDistinct-IsPermutation, IsDistinct-from_apart, IsDistinct-head, IsDistinct-tail}
use Rattle.tree_insert.proofs.Members.{contains_head, contains_tail, contains_cases, contains_none}
use Rattle.source_tree.specs.declared.change.EndChange.{EndChange}
use Rattle.end_log.specs.Log.{AreApart, LogsAreOne}

-- of one root and vertex
abbrev same_end : EndChange → EndChange → Bool
same_end first second = (first.root == second.root) && (first.vertex == second.vertex)

same_end_laws : IsEquivalence same_end
same_end_laws = search (comparing, rules)

differ : (first second : EndChange) → AreApart first second → same_end first second ≡ false
differ first second apart = by (same_end first second) refl
  where
    by : (b : Bool) → same_end first second ≡ b → b ≡ false
    by true same =
        let parts = and_parts (first.root == second.root) (first.vertex == second.vertex) same in
        absurd (elim apart [
          | inl roots ↦ roots (eqb-true first.root second.root parts.0)
          | inr vertices ↦ vertices (eqb-true first.vertex second.vertex parts.1)
        ])
    by false other = refl

-- the first of distinct ends isn't among the others
not_again : (first : EndChange) (rest : List EndChange) → IsDistinct same_end (first ∷ rest) →
    Contains rest first → ⊥
not_again first rest once there = true≢false (sym (same_end_laws.refl first)
    ∙ All-contains (λ (each : EndChange). same_end first each ≡ false) rest first
    (All-from_recursion (λ (each : EndChange). same_end first each ≡ false) rest
    (IsDistinct-head same_end first rest once)) there)

-- distinct ends with the same members are the same ones
same_ends : (first second : List EndChange) → IsDistinct same_end first →
    IsDistinct same_end second →
    ((each : EndChange) → Contains first each ↔ Contains second each) →
    IsPermutation first second
same_ends [] [] once other same = IsPermutation-refl []
same_ends [] (end ∷ rest) once other same =
    absurd (contains_none end ((same end).1 (contains_head end rest)))
same_ends (end ∷ ends) second once other same =
    by (same_ends ends) ((same end).0 (contains_head end ends))
  where
    by : ((left : List EndChange) → IsDistinct same_end ends → IsDistinct same_end left →
        ((each : EndChange) → Contains ends each ↔ Contains left each) → IsPermutation ends left) →
        Contains second end → IsPermutation (end ∷ ends) second
    by further (place, within, is) =
        let left = remove second place in
        let moved : IsPermutation second (end ∷ left) =
        IsPermutation-remove second place end within (sym is) in
        let apart : IsDistinct same_end (end ∷ left) =
        IsDistinct-IsPermutation same_end same_end_laws.symm second (end ∷ left) moved other in
        let back = IsPermutation-sym second (end ∷ left) moved in
        IsPermutation-trans (end ∷ ends) (end ∷ left) second
        (IsPermutation-cons end ends left
        (further left (IsDistinct-tail same_end end ends once)
        (IsDistinct-tail same_end end left apart)
        (λ each. (
          (λ there. elim (contains_cases end left each
              (Contains-permutation second (end ∷ left) each moved
              ((same each).0 (contains_tail end ends each there)))) [
                | inl it ↦ absurd (not_again end ends once (subst (Contains ends) (sym it) there))
                | inr more ↦ more
              ]),
          (λ there. elim (contains_cases end ends each
              ((same each).1 (Contains-permutation (end ∷ left) second each back
              (contains_tail end left each there)))) [
                | inl it ↦ absurd (not_again end left apart (subst (Contains left) (sym it) there))
                | inr more ↦ more
              ]),
        )))) back

each_once : (ends : List EndChange) → AllPairs AreApart ends → IsDistinct same_end ends
each_once ends once = IsDistinct-from_apart same_end ends (λ i j d before within.
    differ (get_or ends i d) (get_or ends j d) (once i j d before within))

pub logs_are_one : LogsAreOne
logs_are_one finals old new first second one other =
    same_ends first second (each_once first one.once) (each_once second other.once)
    (λ each. (
      (λ there. (other.exact each).1 ((one.exact each).0 there)),
      (λ there. (one.exact each).1 ((other.exact each).0 there)),
    ))
