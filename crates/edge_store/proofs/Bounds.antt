-- Bounds on the values of a row.
use Rattle.std.proofs.Common.{◌≡◌, ◌≤◌, ◌∷◌, ◌++◌, ℕ, Bool, true, false, cond, max, List, [], length, get_or, None, Some, refl, sym, ap, ◌∙◌, arith}
use Rattle.std.proofs.lemmas.List.Elements.{All-from_get_or, Contains-get_or}
use Rattle.std.proofs.lemmas.Map.Views.{lookup-from_Contains}
use Rattle.std.proofs.lemmas.Option.{same_Some}
use Rattle.std.specs.Map.{lookup}
use Rattle.edge_store.specs.declared.edge.HalfEdge.{HalfEdge}
use Rattle.edge_store.specs.Edges.{same_half, AreAtMost}
use Rattle.edge_store.specs.Row.{IsRow}
use Rattle.edge_store.proofs.Halves.{same_half_laws}

-- what a look-up finds isn't above the bound
abbrev pub IsBelow : List (HalfEdge × ℕ) → ℕ → Type 0
IsBelow entries most =
    (half : HalfEdge) (value : ℕ) → lookup (same_half half) entries ≡ Some value → value ≤ most

-- the bound is raised to a value that is put
pub below_put : (old new : List (HalfEdge × ℕ)) (put : HalfEdge) (value most higher : ℕ) →
    IsBelow old most → higher ≡ max most value →
    ((other : HalfEdge) → lookup (same_half other) new
    ≡ cond (same_half put other) (Some value) (lookup (same_half other) old)) →
    IsBelow new higher
below_put old new put value most higher below is update half found there =
    by (same_half put half) refl
  where
    by : (b : Bool) → same_half put half ≡ b → found ≤ higher
    by true same =
        let now : Some value ≡ Some found =
        sym (ap (λ b. cond b (Some value) (lookup (same_half half) old)) same)
        ∙ sym (update half) ∙ there in
        omega (arith, is, same_Some value found now)
    by false apart =
        let before : lookup (same_half half) old ≡ Some found =
        sym (ap (λ b. cond b (Some value) (lookup (same_half half) old)) apart)
        ∙ sym (update half) ∙ there in
        omega (arith, is, below half found before)

-- what is left isn't above the bound
pub below_taken : (old new : List (HalfEdge × ℕ)) (taken : HalfEdge) (most : ℕ) →
    IsBelow old most →
    ((other : HalfEdge) → lookup (same_half other) new
    ≡ cond (same_half taken other) None (lookup (same_half other) old)) →
    IsBelow new most
below_taken old new taken most below update half found there =
    by (same_half taken half) refl
  where
    by : (b : Bool) → same_half taken half ≡ b → found ≤ most
    by true same =
        let now : None ≡ Some found =
        sym (ap (λ b. cond b None (lookup (same_half half) old)) same)
        ∙ sym (update half) ∙ there in
        absurd cc
    by false apart =
        below half found (sym (ap (λ b. cond b None (lookup (same_half half) old)) apart)
        ∙ sym (update half) ∙ there)

-- nothing is above any bound where nothing is left
pub below_none : (entries : List (HalfEdge × ℕ)) (most : ℕ) → length entries ≡ 0 →
    IsBelow entries most
below_none [] most none half found there = absurd cc
below_none (entry ∷ entries) most some half found there = absurd (omega (arith, some))

-- so no entry of a row is above its bound
pub at_most : (few more : List (HalfEdge × ℕ)) (most : ℕ) → IsRow few more most →
    AreAtMost most (few ++ more)
at_most few more most is =
    let entries = few ++ more in
    All-from_get_or (λ (entry : HalfEdge × ℕ). entry.1 ≤ most) entries none (λ place within.
    is.below (get_or entries place none).0 (get_or entries place none).1
    (lookup-from_Contains same_half_laws (get_or entries place none).0
    (get_or entries place none).1 entries is.once (Contains-get_or entries place none within)))
  where
    none : HalfEdge × ℕ
    none = (record { label = 0; far = 0 }, 0)
