-- Lists of pairs: the test for their members.
use Rattle.std.proofs.Common.{◌≡◌, Bool, List, [], ◌∷◌, refl, sym, ap}
use Rattle.std.specs.Prelude.{◌↔◌, IsTrue, Contains}
use Rattle.std.specs.Cmp.{IsEquivalence}
use Rattle.std.specs.List.{list_any}
use Rattle.std.proofs.lemmas.Map.Views.{Contains-from_any, list_any-from_Contains}
use Rattle.rpq_base.specs.Same.{same_pair}
use Rattle.rpq_base.specs.Laws.{SameIsEqual}
use Rattle.rpq_base.specs.declared.data.Pair.{Pair}
use Rattle.rpq_base.proofs.Equality.{same_tests, pairs as pair_test}

-- whether a pair is among others
abbrev pub has : List Pair → Pair → Bool
has pairs pair = list_any (same_pair pair) pairs

-- the test for equal pairs is an equivalence
pub same_pair_equivalence : IsEquivalence same_pair
same_pair_equivalence = record {
  refl = λ pair. (pair_test pair pair).1 refl;
  symm = λ first second. same_tests (same_pair first second) (same_pair second first) (
    (λ e. (pair_test second first).1 (sym ((pair_test first second).0 e))),
    (λ e. (pair_test first second).1 (sym ((pair_test second first).0 e))),
  );
  congr = λ first second third e. ap (λ (pair : Pair). same_pair pair third) ((pair_test first second).0 e);
}

-- the test whether a pair is among others finds the members
pub has_iff : (pairs : List Pair) (pair : Pair) → IsTrue (has pairs pair) ↔ Contains pairs pair
has_iff pairs pair = (
  Contains-from_any {eq = same_pair} (λ first second. (pair_test first second).0) pair pairs,
  list_any-from_Contains same_pair_equivalence pair pairs,
)

pub has_members : SameIsEqual → (pairs : List Pair) (pair : Pair) →
    IsTrue (has pairs pair) ↔ Contains pairs pair
has_members same = has_iff

-- the same test, of each pair against the one
pub any_same : SameIsEqual → (pairs : List Pair) (pair : Pair) →
    list_any (λ (each : Pair). same_pair each pair) pairs ≡ has pairs pair
any_same same [] pair = refl
any_same same (first ∷ pairs) pair = rw (same_pair_equivalence.symm first pair, any_same same pairs pair)
