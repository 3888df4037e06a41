-- Words and objects that are handed over.
use Rattle.std.proofs.Common.{◌≡◌, List, [], ◌∷◌, map, Option, Result, Ok, Err, IfOk, IfSome}
use Rattle.std.proofs.Common.{ap, sym, subst, ◌∙◌}
use Rattle.std.specs.Result.{result_ok}

-- what is known of a value that was answered is known of it where it is there
pub some_from_ok : {A E : Type 0} {P Q : A → Type 0} (answered : Result A E) (found : Option A)
    → found ≡ result_ok answered → ((value : A) → P value → Q value) → IfOk answered P
    → IfSome found Q
some_from_ok {A} {E} {P} {Q} (Ok value) found is more holds =
    subst (λ there. IfSome there Q) (sym is) (more value holds)
some_from_ok {A} {E} {P} {Q} (Err error) found is more holds =
    subst (λ there. IfSome there Q) (sym is) tt

-- how one object in a list is seen
pub one_seen : {B V : Type 0} (seen : B → V) (objects : List B) (object : B) (value : V)
    → objects ≡ object ∷ [] → seen object ≡ value → map seen objects ≡ value ∷ []
one_seen seen objects object value are is =
    ap (map seen) are ∙ ap (λ one. one ∷ []) is
