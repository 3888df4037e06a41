-- What a search through a list finds.
use Rattle.std.proofs.Common.{◌≡◌, Bool, true, false, cond, List, [], ◌∷◌, Some, refl, sym, ap, ◌∙◌, inl, inr}
use Rattle.std.specs.Prelude.{Contains, find}
use Rattle.std.proofs.lemmas.Option.{none-some, same_Some}
use Rattle.rpq_base.proofs.Members.{cons_members}

found_step : {X : Type 0} (test : X → Bool) (first : X) (rest : List X) (x : X) →
    (find test rest ≡ Some x → (test x ≡ true) × Contains rest x) → (b : Bool) →
    test first ≡ b → cond b (Some first) (find test rest) ≡ Some x →
    (test x ≡ true) × Contains (first ∷ rest) x
found_step test first rest x further true passes is =
    let same = same_Some first x is in
    (ap test (sym same) ∙ passes, (cons_members first rest x).1 (inl same))
found_step test first rest x further false fails is =
    let found = further is in (found.0, (cons_members first rest x).1 (inr found.1))

-- what is found passes the test and is one of the list
pub found_is : {X : Type 0} (test : X → Bool) (xs : List X) (x : X) → find test xs ≡ Some x →
    (test x ≡ true) × Contains xs x
found_is test [] x is = absurd (none-some x is)
found_is test (first ∷ rest) x is =
    found_step test first rest x (found_is test rest x) (test first) refl is
