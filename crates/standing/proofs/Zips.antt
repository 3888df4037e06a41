-- Two lists of which something holds place by place.
use Rattle.std.proofs.Common.{List, [], ◌∷◌, ◌++◌}
use Rattle.std.specs.List.{AllZip}

-- what is said place by place follows from what was said
pub zip_so : {A B : Type 0} (P Q : A → B → Type 0) (xs : List A) (ys : List B) → ((x : A) (y : B) → P x y → Q x y) → AllZip P xs ys → AllZip Q xs ys
zip_so P Q [] [] follows all = tt
zip_so P Q [] (y ∷ ys) follows all = absurd all
zip_so P Q (x ∷ xs) [] follows all = absurd all
zip_so P Q (x ∷ xs) (y ∷ ys) follows all = (follows x y all.0, zip_so P Q xs ys follows all.1)

-- one list behind the other, on both sides
pub zip-append : {A B : Type 0} (P : A → B → Type 0) (xs more : List A) (ys others : List B) → AllZip P xs ys → AllZip P more others →
    AllZip P (xs ++ more) (ys ++ others)
zip-append P [] more [] others all rest = rest
zip-append P [] more (y ∷ ys) others all rest = absurd all
zip-append P (x ∷ xs) more [] others all rest = absurd all
zip-append P (x ∷ xs) more (y ∷ ys) others all rest = (all.0, zip-append P xs more ys others all.1 rest)
