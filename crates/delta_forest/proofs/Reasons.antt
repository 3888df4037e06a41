-- Trees are touched for a reason alone.
use Rattle.std.proofs.Common.{◌≡◌, ℕ, true, Option, None, sym, ap, ◌∙◌, arith, ⊎_elim}
use Rattle.std.specs.Prelude.{is_some}
use Rattle.std.proofs.lemmas.Bool.{false≢true}
use Rattle.delta_forest.specs.Forest.{kept}
use Rattle.delta_forest.specs.Laws.{EarlyExpiryTouchesNot, RaiseElsewhereTouchesNot}
use Rattle.delta_forest.specs.Laws.{RemovalElsewhereTouchesNot}

-- nothing isn't something
none_is_some : (found : Option ℕ) → found ≡ None → is_some found ≡ true → ⊥
none_is_some found none some = false≢true (sym (ap is_some none) ∙ some)

pub raise_elsewhere : RaiseElsewhereTouchesNot
raise_elsewhere edge value old new root applies other never touched = ⊎_elim
    (λ (is : root ≡ edge.from). other is)
    (λ (some : (state : ℕ) × (is_some (kept new root edge.from state) ≡ true)).
    none_is_some (kept new root edge.from some.0) (never some.0) some.1)
    (applies.touched.only root touched)

pub removal_elsewhere : RemovalElsewhereTouchesNot
removal_elsewhere edge old new root applies other never touched = ⊎_elim
    (λ (is : root ≡ edge.from). other is)
    (λ (some : (state : ℕ) × (is_some (kept old root edge.from state) ≡ true)).
    none_is_some (kept old root edge.from some.0) (never some.0) some.1)
    (applies.touched.only root touched)

pub early_expiry : EarlyExpiryTouchesNot
early_expiry now old new root applies later touched =
    let due = applies.touched.only root touched in
    absurd (omega (arith, later due.0 due.1 due.2 due.3, due.4))
