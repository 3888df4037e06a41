-- Lists of vertices that are looked up by their names.
use Rattle.std.proofs.Common.{◌≡◌, ℕ, Bool, true, false, not, List, [], ◌∷◌, ◌++◌, filter, Option, Some, None, refl, sym, ap, subst, ◌∙◌, ◌⊎◌, inl, inr, ⊎_elim}
use Rattle.std.specs.Prelude.{◌↔◌, IsTrue, IfSome, Contains, cond}
use Rattle.std.specs.Cmp.Lexicographic.{nat_list_eq_equiv}
use Rattle.std.specs.List.{list_any}
use Rattle.std.specs.Map.{lookup, lookup_key}
use Rattle.std.specs.Option.{option_map, option_map_or, unwrap_or}
use Rattle.std.proofs.lemmas.Bool.{false≢true, not-true, false_from_ne_true}
use Rattle.rpq_base.proofs.Members.{HasOneMore, one_more, kept_members}
use Rattle.std.proofs.lemmas.Map.Made.{lookup_key_passes}
use Rattle.std.proofs.lemmas.Map.Views.{Contains-from_any, list_any-from_Contains}
use Rattle.rpq_base.specs.Same.{same_name}
use Rattle.rpq_base.proofs.Equality.{names}
use Rattle.join_bindings.specs.Pairs.{Rows, row_of}

-- a name is among others exactly where the test finds it
pub any_is : (list : List (List ℕ)) (name : List ℕ) → IsTrue (list_any (same_name name) list) ↔ Contains list name
any_is list name = (
  Contains-from_any {eq = same_name} (λ first second. (names first second).0) name list,
  list_any-from_Contains nat_list_eq_equiv name list,
)

-- two names are the same or not
pub data Compared (first second : List ℕ) : Type 0 where
  equal : first ≡ second → same_name first second ≡ true → Compared first second
  differ : (first ≡ second → ⊥) → same_name first second ≡ false → Compared first second

pub compared : (first second : List ℕ) → Compared first second
compared first second = by (same_name first second) refl
  where
    by : (test : Bool) → same_name first second ≡ test → Compared first second
    by true e = equal ((names first second).0 e) e
    by false e = differ (λ same. false≢true (sym e ∙ (names first second).1 same)) e

-- the test finds what it found, and the name where it is put in
pub put_in : (before after : List (List ℕ)) (value name : List ℕ) → value ≡ name →
    ((each : List ℕ) → list_any (same_name each) after ≡ cond (same_name value each) true (list_any (same_name each) before)) →
    (other : List ℕ) → Contains after other ↔ (Contains before other ⊎ (name ≡ other))
put_in before after value name is updates other = by (compared value other)
  where
    by : Compared value other → Contains after other ↔ (Contains before other ⊎ (name ≡ other))
    by (equal same e) = (
      (λ member. inr (sym is ∙ same)),
      (λ either. (any_is after other).0 (updates other ∙ ap (λ test. cond test true (list_any (same_name other) before)) e)),
    )
    by (differ apart e) =
        let as_before = updates other ∙ ap (λ test. cond test true (list_any (same_name other) before)) e in (
          (λ member. inl ((any_is before other).0 (sym as_before ∙ (any_is after other).1 member))),
          (λ either. ⊎_elim
              (λ there. (any_is after other).0 (as_before ∙ (any_is before other).1 there))
              (λ same. absurd (apart (is ∙ same)))
              either),
        )

-- and no longer the name where it is taken out
pub taken_from : (before after : List (List ℕ)) (value name : List ℕ) → value ≡ name →
    ((each : List ℕ) → list_any (same_name each) after ≡ cond (same_name value each) false (list_any (same_name each) before)) →
    (other : List ℕ) → Contains after other ↔ (Contains before other × (name ≡ other → ⊥))
taken_from before after value name is updates other = by (compared value other)
  where
    by : Compared value other → Contains after other ↔ (Contains before other × (name ≡ other → ⊥))
    by (equal same e) = (
      (λ member. absurd (false≢true
          (sym (updates other ∙ ap (λ test. cond test false (list_any (same_name other) before)) e) ∙ (any_is after other).1 member))),
      (λ both. absurd (both.1 (sym is ∙ same))),
    )
    by (differ apart e) =
        let as_before = updates other ∙ ap (λ test. cond test false (list_any (same_name other) before)) e in (
          (λ member. ((any_is before other).0 (sym as_before ∙ (any_is after other).1 member), λ same. apart (is ∙ same))),
          (λ both. (any_is after other).0 (as_before ∙ (any_is before other).1 both.0)),
        )

-- the key that a look-up finds is the name
pub key_is : (result : Option (List ℕ × List (List ℕ))) (rows : Rows) (bytes name : List ℕ) → bytes ≡ name →
    option_map (λ (taken : List ℕ × List (List ℕ)). taken.0) result ≡ lookup_key (λ key. same_name bytes key) rows →
    IfSome result (λ taken. taken.0 ≡ name)
key_is None rows bytes name is found = tt
key_is (Some taken) rows bytes name is found =
    sym ((names bytes taken.0).0 (lookup_key_passes (λ key. same_name bytes key) rows taken.0 (sym found))) ∙ is

-- a name that is looked up by its bytes is found where it is among the names
pub found_by : (list : List (List ℕ)) (bytes name : List ℕ) (found : Bool) → bytes ≡ name → found ≡ list_any (same_name bytes) list →
    (found ≡ true) ↔ Contains list name
found_by list bytes name found is e =
    let by = e ∙ ap (λ (each : List ℕ). list_any (same_name each) list) is in (
      (λ yes. (any_is list name).0 (sym by ∙ yes)),
      (λ member. by ∙ (any_is list name).1 member),
    )

-- the row that a look-up by the bytes of a name answers
pub row_by : (rows others : Rows) (bytes name : List ℕ) (found : Option (List (List ℕ))) → rows ≡ others → bytes ≡ name →
    found ≡ lookup (same_name bytes) rows → unwrap_or found [] ≡ row_of others name
row_by rows others bytes name found same is e =
    ap (λ (row : Option (List (List ℕ))). unwrap_or row []) e
    ∙ (ap (λ (each : List ℕ). unwrap_or (lookup (same_name each) rows) []) is
    ∙ ap (λ (each : Rows). row_of each name) same)

-- ---- a few in a list, or many by their hashes

pub many_are : {M : Type 0} (keys : M → List (List ℕ)) (many : Option M) (one : M) (few now : List (List ℕ)) → many ≡ Some one →
    option_map_or keys many few ≡ now → keys one ≡ now
many_are keys many one few now is view = sym (ap (λ m. option_map_or keys m few) is) ∙ view

pub few_are : {M : Type 0} (keys : M → List (List ℕ)) (many : Option M) (few : List (List ℕ)) → many ≡ None →
    option_map_or keys many few ≡ few
few_are keys many few is = ap (λ m. option_map_or keys m few) is

-- one more is put behind
pub put_behind : (before after : List (List ℕ)) (value name : List ℕ) → value ≡ name → after ≡ before ++ value ∷ [] → (other : List ℕ) →
    Contains after other ↔ (Contains before other ⊎ (name ≡ other))
put_behind before after value name is grown other =
    let step = subst (HasOneMore before value) (sym grown) (one_more before value) in (
      (λ member. ⊎_elim (λ there. inl there) (λ here. inr (sym is ∙ here)) (step.cases other member)),
      (λ either. ⊎_elim
          (λ there. step.still other there)
          (λ here. subst (Contains after) (is ∙ here) step.here)
          either),
    )

-- what doesn't have the name is left
pub left_over : (before after : List (List ℕ)) (name : List ℕ) → after ≡ filter (λ each. not (same_name name each)) before → (other : List ℕ) →
    Contains after other ↔ (Contains before other × (name ≡ other → ⊥))
left_over before after name is other =
    let kept = kept_members before (λ (each : List ℕ). not (same_name name each)) other in
    subst (λ (list : List (List ℕ)). Contains list other ↔ (Contains before other × (name ≡ other → ⊥))) (sym is) (
      (λ member.
          let both = kept.0 member in
          (both.0, λ same. false≢true (sym (not-true (same_name name other) both.1) ∙ (names name other).1 same))),
      (λ both. kept.1 (both.0, ap not (false_from_ne_true (same_name name other) (λ e. both.1 ((names name other).0 e))))),
    )

-- one more of those that are put in
pub put_next : (before after : List (List ℕ)) (name : List ℕ) (old new : List (List ℕ)) (other : List ℕ) → HasOneMore before name after →
    Contains new other ↔ (Contains old other ⊎ (name ≡ other)) → Contains old other ↔ Contains before other →
    Contains new other ↔ Contains after other
put_next before after name old new other step now so_far = (
  (λ member. ⊎_elim (λ there. step.still other (so_far.0 there)) (λ here. subst (Contains after) here step.here) (now.0 member)),
  (λ member. now.1 (⊎_elim (λ there. inl (so_far.1 there)) (λ here. inr here) (step.cases other member))),
)
