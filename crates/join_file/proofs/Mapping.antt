-- What holds of the images of a list, and of what a call gives.
use Rattle.std.proofs.Common.{◌≡◌, List, [], ◌∷◌, map, Result, Ok, Err, refl, ap, ◌∙◌, inl, inr, ⊎_elim}
use Rattle.std.specs.Prelude.{◌↔◌, Contains, IfOk}
use Rattle.rpq_base.proofs.Members.{cons_members, none_in}

-- the members of a list's images
pub mapped : {X Y : Type 0} (give : X → Y) (xs : List X) (y : Y) →
    Contains (map give xs) y ↔ ((x : X) × Contains xs x × (give x ≡ y))
mapped give [] y = ((λ member. absurd (none_in y member)), (λ from. absurd (none_in from.0 from.1)))
mapped give (first ∷ rest) y = (
  (λ member. ⊎_elim
      (λ here. (first, (cons_members first rest first).1 (inl refl), here))
      (λ later. let from = (mapped give rest y).0 later in (from.0, (cons_members first rest from.0).1 (inr from.1), from.2))
      ((cons_members (give first) (map give rest) y).0 member)),
  (λ from. (cons_members (give first) (map give rest) y).1 (⊎_elim
      (λ here. inl (ap give here ∙ from.2))
      (λ later. inr ((mapped give rest y).1 (from.0, later, from.2)))
      ((cons_members first rest from.0).0 from.1))),
)

-- what follows for the value of a call that succeeds
pub ok_map : {X E : Type 0} (result : Result X E) (P Q : X → Type 0) →
    ((x : X) → P x → Q x) → IfOk result P → IfOk result Q
ok_map (Ok x) P Q f p = f x p
ok_map (Err e) P Q f p = tt
