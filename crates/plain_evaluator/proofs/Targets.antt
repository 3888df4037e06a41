-- The vertices that pairs lead to, one after another.
use Rattle.std.proofs.Common.{◌≡◌, ℕ, List, sym, subst, inl, inr, ⊎_elim}
use Rattle.std.specs.Prelude.{◌↔◌, Contains}
use Rattle.std.specs.BTreeSet.{insert_key}
use Rattle.std.proofs.lemmas.Map.Lookups.{exact_bytes}
use Rattle.rpq_base.specs.Order.{name_cmp}
use Rattle.rpq_base.proofs.Members.{HasOneMore, insert_members}

-- one pair more
pub target_more : (before : List (List ℕ)) (one : List ℕ) (after found more : List (List ℕ)) →
    HasOneMore before one after → more ≡ insert_key name_cmp found one →
    ((vertex : List ℕ) → Contains found vertex ↔ Contains before vertex) →
    (vertex : List ℕ) → Contains more vertex ↔ Contains after vertex
target_more before one after found more one_more is members vertex =
    let inserted = insert_members exact_bytes found one vertex in (
      (λ member. ⊎_elim
          (λ here. subst (Contains after) here one_more.here)
          (λ there. one_more.still vertex ((members vertex).0 there))
          (inserted.0 (subst (λ (all : List (List ℕ)). Contains all vertex) is member))),
      (λ member. subst (λ (all : List (List ℕ)). Contains all vertex) (sym is) (inserted.1 (⊎_elim
          (λ there. inr ((members vertex).1 there))
          (λ here. inl here)
          (one_more.cases vertex member)))),
    )
