-- Roots in a list, and the flags beside them.
use Rattle.std.proofs.Common.{◌≡◌, inl, inr, ℕ, zero, suc, ◌<◌, Bool, true, false, List, [], ◌∷◌, ◌++◌, length, nat_eq, slice_set, Contains, refl, sym, ap, subst, ◌∙◌, true≢false, arith}
use Rattle.std.specs.Cmp.{nat_eq_equiv}
use Rattle.std.specs.List.{AllByRecursion, IsDistinct, list_any}
use Rattle.std.proofs.lemmas.Bool.{both_ways, cases_eq, cases_lt}
use Rattle.std.proofs.lemmas.List.{get_or-set_other, get_or-set_same, get_or_past}
use Rattle.std.proofs.lemmas.List.Elements.{Contains-append_left, Contains-push, Contains-push_cases}
use Rattle.std.proofs.lemmas.List.Sorted.{IsPermutation-append_comm}
use Rattle.std.proofs.lemmas.Map.Keys.{IsDistinct-IsPermutation, IsDistinct-head, IsDistinct-push, IsDistinct-tail}
use Rattle.std.proofs.lemmas.Map.Views.{Contains-from_any, exact_unsigned_eq}
use Rattle.rpq_base.proofs.Members.{none_in}
use Rattle.query_index.specs.RootList.{AddsRoot, AreFlagged, SameFlags, flag_of}

-- ---- none

none_twice : IsDistinct nat_eq []
unfolding IsDistinct
none_twice = tt

pub none_flagged : AreFlagged [] []
none_flagged = record {
  exact = λ root. (
    (λ there. absurd (none_in root there)),
    (λ set. absurd (true≢false (sym set))),
  );
  once = none_twice;
}

-- ---- one root more

-- a flag that is set has its place
within : (flags : List Bool) (root : ℕ) → flag_of flags root ≡ true → root < length flags
within flags root set = elim (cases_lt root (length flags)) [
  | inl inside ↦ inside
  | inr past ↦
      absurd (both_ways (flag_of flags root) (get_or_past flags root false past) set)
]

-- the last of the roots has a flag
pub has_flag : (rest : List ℕ) (flags : List Bool) (root : ℕ) →
    AreFlagged (rest ++ root ∷ []) flags → root < length flags
has_flag rest flags root flagged =
    within flags root ((flagged.exact root).0 (Contains-push rest root))

-- the roots with one more
pub adds_one : (old new : List ℕ) (root : ℕ) → new ≡ old ++ root ∷ [] → AddsRoot old root new
adds_one old new root is = λ each. (
  (λ there. Contains-push_cases old root each
      (subst (λ (roots : List ℕ). Contains roots each) is there)),
  (λ either. subst (λ (roots : List ℕ). Contains roots each) (sym {A = List ℕ} is)
      (elim either [
        | inl was ↦ Contains-append_left old (root ∷ []) each was
        | inr same ↦ subst (Contains (old ++ root ∷ [])) same (Contains-push old root)
      ])),
)

-- with room for the flag of a root that isn't there, and its flag set
pub flagged_more : (roots more : List ℕ) (flags long : List Bool) (root : ℕ) →
    AreFlagged roots flags → more ≡ roots ++ root ∷ [] → SameFlags flags long →
    root < length long → flag_of flags root ≡ false →
    AreFlagged more (slice_set long root true)
flagged_more roots more flags long root flagged is same inside clear = subst
    (λ (each : List ℕ). AreFlagged each (slice_set long root true)) (sym {A = List ℕ} is)
    (record {
      exact = λ each. elim (cases_eq each root) [
        | inl at ↦ (
          (λ there. ap (flag_of (slice_set long root true)) at
              ∙ get_or-set_same long root true false inside),
          (λ set. subst (Contains (roots ++ root ∷ [])) (sym at) (Contains-push roots root)),
        )
        | inr differ ↦ (
          (λ there. get_or-set_other long root each true false differ ∙ same each
              ∙ (flagged.exact each).0 (was each differ there)),
          (λ set. Contains-append_left roots (root ∷ []) each ((flagged.exact each).1
              (sym (same each) ∙ sym (get_or-set_other long root each true false differ) ∙ set))),
        )
      ];
      once = IsDistinct-push nat_eq_equiv roots root flagged.once
          (apart (list_any (nat_eq root) roots) refl);
    })
  where
    was : (each : ℕ) → (each ≡ root → ⊥) → Contains (roots ++ root ∷ []) each →
        Contains roots each
    was each differ there = elim (Contains-push_cases roots root each there) [
      | inl before ↦ before
      | inr at ↦ absurd (differ (sym at))
    ]

    apart : (found : Bool) → list_any (nat_eq root) roots ≡ found →
        list_any (nat_eq root) roots ≡ false
    apart true found = absurd (both_ways (flag_of flags root) clear
        ((flagged.exact root).0 (Contains-from_any exact_unsigned_eq root roots found)))
    apart false found = found

-- ---- one root less

-- a root that differs from each differs from one of them
apart_from : (roots : List ℕ) (root each : ℕ) →
    AllByRecursion (λ other. nat_eq root other ≡ false) roots → Contains roots each →
    nat_eq root each ≡ false
apart_from [] root each apart there = absurd (none_in each there)
apart_from (first ∷ rest) root each apart (zero, inside, is) =
    ap (nat_eq root) (sym is) ∙ apart.0
apart_from (first ∷ rest) root each apart (suc place, inside, is) =
    apart_from rest root each apart.1 (place, omega (arith, inside), is)

-- the last of the roots is taken out, and its flag cleared
pub flagged_less : (rest : List ℕ) (flags : List Bool) (root : ℕ) →
    AreFlagged (rest ++ root ∷ []) flags → AreFlagged rest (slice_set flags root false)
flagged_less rest flags root flagged = record {
  exact = λ each. elim (cases_eq each root) [
    | inl at ↦ (
      (λ there. absurd (absent (subst (Contains rest) at there))),
      (λ set. absurd (both_ways (flag_of cleared root)
          (get_or-set_same flags root false false (has_flag rest flags root flagged))
          (sym (ap (flag_of cleared) at) ∙ set))),
    )
    | inr differ ↦ (
      (λ there. get_or-set_other flags root each false false differ
          ∙ (flagged.exact each).0 (Contains-append_left rest (root ∷ []) each there)),
      (λ set. left each differ ((flagged.exact each).1
          (sym (get_or-set_other flags root each false false differ) ∙ set))),
    )
  ];
  once = IsDistinct-tail nat_eq root rest turned;
}
  where
    cleared : List Bool
    cleared = slice_set flags root false

    turned : IsDistinct nat_eq (root ∷ rest)
    turned = IsDistinct-IsPermutation nat_eq nat_eq_equiv.symm (rest ++ root ∷ []) (root ∷ rest)
        (IsPermutation-append_comm rest (root ∷ [])) flagged.once

    absent : Contains rest root → ⊥
    absent there = both_ways (nat_eq root root)
        (apart_from rest root root (IsDistinct-head nat_eq root rest turned) there)
        (nat_eq_equiv.refl root)

    left : (each : ℕ) → (each ≡ root → ⊥) → Contains (rest ++ root ∷ []) each →
        Contains rest each
    left each differ there = elim (Contains-push_cases rest root each there) [
      | inl before ↦ before
      | inr at ↦ absurd (differ (sym at))
    ]
