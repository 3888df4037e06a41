-- What the loops over pairs find: unions and compositions.
use Rattle.std.proofs.Common.{◌≡◌, ℕ, Bool, true, List, []}
use Rattle.std.proofs.Common.{fold, refl, sym, ap, subst, ◌⊎◌, inl, inr}
use Rattle.std.proofs.Common.{⊎_elim}
use Rattle.std.specs.Prelude.{◌↔◌, Contains, if◌then◌else◌}
use Rattle.std.specs.BTreeSet.{insert_key}
use Rattle.std.specs.List.Sorted.{IsStrictlySortedBy}
use Rattle.rpq_base.specs.Order.{pair_cmp}
use Rattle.rpq_base.specs.Same.{same_name, same_label}
use Rattle.rpq_base.specs.declared.data.Label.{Label}
use Rattle.rpq_base.specs.declared.data.Edge.{Edge}
use Rattle.rpq_base.specs.declared.data.Pair.{Pair}
use Rattle.rpq_model.specs.Relations.{between, AreExactly, IsLedOn, IsComposed}
use Rattle.rpq_base.proofs.Equality.{names}
use Rattle.rpq_base.proofs.Orders.{pair_cmp_exact}
use Rattle.rpq_base.proofs.Members.{none_in, HasOneMore, IsGiven, fold_members}

-- the pairs found, and the ends of the edge if it has the label
abbrev pub with_edge : Label → List Pair → Edge → List Pair
with_edge label found edge = if same_label edge.label label then insert_key pair_cmp found (between edge.from edge.to) else found

-- the pairs found, and the one pair
abbrev pub with_one : List Pair → Pair → List Pair
with_one found pair = insert_key pair_cmp found pair

-- the pairs found, and the first with the pair after it if the pair begins where the first ends
abbrev pub with_longer : Pair → List Pair → Pair → List Pair
with_longer first found pair = if same_name pair.from first.to then insert_key pair_cmp found (between first.from pair.to) else found

-- one equivalence after another
pub in_turn : {A B C : Type 0} → A ↔ B → B ↔ C → A ↔ C
in_turn first second = ((λ a. second.0 (first.0 a)), (λ c. first.1 (second.1 c)))

-- ---- sets of pairs

-- the same pairs for an equivalent relation
pub exactly_same : (relation other : Pair → Type 0) (pairs : List Pair) →
    ((pair : Pair) → relation pair ↔ other pair) → AreExactly relation pairs →
    AreExactly other pairs
exactly_same relation other pairs same are = record {
  sorted = are.sorted;
  exact = λ pair. ((λ member. (same pair).0 ((are.exact pair).0 member)), (λ holds. (are.exact pair).1 ((same pair).1 holds)));
}

-- pairs that are those of a set with these members
pub exactly_from_set : (relation : Pair → Type 0) (found pairs : List Pair) →
    ((pair : Pair) → Contains found pair ↔ relation pair) →
    pairs ≡ found → IsStrictlySortedBy pair_cmp pairs → AreExactly relation pairs
exactly_from_set relation found pairs members is sorted = record {
  sorted = sorted;
  exact = λ pair. (
    (λ member. (members pair).0 (subst (λ (all : List Pair). Contains all pair) is member)),
    (λ holds. subst (λ (all : List Pair). Contains all pair) (sym is) ((members pair).1 holds)),
  );
}

-- going through the pairs adds them
pub all_added : (pairs : List Pair) (before found : List Pair) →
    found ≡ fold with_one before pairs →
    (pair : Pair) → Contains found pair ↔ (Contains before pair ⊎ Contains pairs pair)
all_added pairs before found is pair =
    let members = fold_members pair_cmp_exact pairs (λ (each : Pair). true) (λ (each : Pair). each) before pair in (
      (λ member. ⊎_elim
          (λ there. inl there)
          (λ given. inr (subst (Contains pairs) given.is given.member))
          (members.0 (subst (λ (all : List Pair). Contains all pair) is member))),
      (λ either. subst (λ (all : List Pair). Contains all pair) (sym is)
          (members.1 (⊎_elim (λ there. inl there) (λ member. inr (record { element = pair; member = member; passes = refl; is = refl })) either))),
    )

-- ---- one pair more before others

-- an added pair is led to by the first and one of the pairs
led_on_from_given : (pairs : List Pair) (first pair : Pair) →
    IsGiven (λ (each : Pair). same_name each.from first.to) (λ (each : Pair). between first.from each.to) pairs pair → IsLedOn first pairs pair
led_on_from_given pairs first pair given =
    let begins = (names given.element.from first.to).0 given.passes in
    let is = given.is in
    let same : given.element ≡ between first.to pair.to = λ i. record { from = begins i; to = (is i).to } in
    (λ i. (sym is i).from, subst (Contains pairs) same given.member)

-- and the other way round
given_from_led_on : (pairs : List Pair) (first pair : Pair) → IsLedOn first pairs pair →
    IsGiven (λ (each : Pair). same_name each.from first.to) (λ (each : Pair). between first.from each.to) pairs pair
given_from_led_on pairs first pair led = record {
  element = between first.to pair.to;
  member = led.1;
  passes = (names first.to first.to).1 refl;
  is = λ i. record { from = sym led.0 i; to = pair.to };
}

-- going through the pairs adds those that the first and one of them lead to
pub longer_added : (pairs : List Pair) (first : Pair) (before found : List Pair) →
    found ≡ fold (with_longer first) before pairs →
    (pair : Pair) → Contains found pair ↔ (Contains before pair ⊎ IsLedOn first pairs pair)
longer_added pairs first before found is pair =
    let members = fold_members pair_cmp_exact pairs (λ (each : Pair). same_name each.from first.to)
    (λ (each : Pair). between first.from each.to) before pair in (
      (λ member. ⊎_elim
          (λ there. inl there)
          (λ given. inr (led_on_from_given pairs first pair given))
          (members.0 (subst (λ (all : List Pair). Contains all pair) is member))),
      (λ either. subst (λ (all : List Pair). Contains all pair) (sym is)
          (members.1 (⊎_elim (λ there. inl there) (λ led. inr (given_from_led_on pairs first pair led)) either))),
    )

-- ---- compositions

-- the first of a composition ends where the second begins
pub composed_from_led_on : (firsts : List Pair) (first : Pair) (seconds : List Pair) (pair : Pair) →
    Contains firsts first → IsLedOn first seconds pair → IsComposed firsts seconds pair
composed_from_led_on firsts first seconds pair member led =
    (first.to, subst (Contains firsts) (λ i. record { from = sym led.0 i; to = first.to }) member, led.1)

-- one more first pair adds what it and a second lead to
pub composed_more : (before : List Pair) (first : Pair) (after seconds old found more : List Pair) →
    HasOneMore before first after →
    ((pair : Pair) → Contains found pair ↔ (Contains old pair ⊎ IsComposed before seconds pair)) →
    ((pair : Pair) → Contains more pair ↔ (Contains found pair ⊎ IsLedOn first seconds pair)) →
    (pair : Pair) → Contains more pair ↔ (Contains old pair ⊎ IsComposed after seconds pair)
composed_more before first after seconds old found more one_more members adds pair = (
  (λ member. ⊎_elim
      (λ there. ⊎_elim
      (λ was. inl was)
      (λ composed. inr (composed.0, one_more.still (between pair.from composed.0) composed.1, composed.2))
      ((members pair).0 there))
      (λ led. inr (composed_from_led_on after first seconds pair one_more.here led))
      ((adds pair).0 member)),
  (λ either. (adds pair).1 (⊎_elim
      (λ was. inl ((members pair).1 (inl was)))
      (λ composed. ⊎_elim
      (λ there. inl ((members pair).1 (inr (composed.0, there, composed.2))))
      (λ is. inr (
        ap (λ (each : Pair). each.from) (sym is),
        subst (λ (middle : List ℕ). Contains seconds (between middle pair.to)) (ap (λ (each : Pair). each.to) (sym is)) composed.2,
      ))
      (one_more.cases (between pair.from composed.0) composed.1))
      either)),
)

-- ---- sets that are filled in steps

-- added where they are wanted
pub added_if : (wanted : Bool) (pairs before found : List Pair) → wanted ≡ true →
    ((pair : Pair) → Contains found pair ↔ (Contains before pair ⊎ Contains pairs pair)) →
    (pair : Pair) → Contains found pair ↔ (Contains before pair ⊎ ((wanted ≡ true) × Contains pairs pair))
added_if wanted pairs before found is_wanted members pair = (
  (λ member. ⊎_elim (λ was. inl was) (λ new. inr (is_wanted, new)) ((members pair).0 member)),
  (λ either. (members pair).1 (⊎_elim (λ was. inl was) (λ new. inr new.1) either)),
)

-- what is added to the empty set is all
pub first_added : (relation : Pair → Type 0) (before found : List Pair) → before ≡ [] →
    ((pair : Pair) → Contains found pair ↔ (Contains before pair ⊎ relation pair)) →
    (pair : Pair) → Contains found pair ↔ relation pair
first_added relation before found empty members pair = (
  (λ member. ⊎_elim
      (λ was. absurd (none_in pair (subst (λ (all : List Pair). Contains all pair) empty was)))
      (λ holds. holds)
      ((members pair).0 member)),
  (λ holds. (members pair).1 (inr holds)),
)

-- and a relation after another
pub then_added : (relation other : Pair → Type 0) (before found : List Pair) →
    ((pair : Pair) → Contains before pair ↔ relation pair) →
    ((pair : Pair) → Contains found pair ↔ (Contains before pair ⊎ other pair)) →
    (pair : Pair) → Contains found pair ↔ (relation pair ⊎ other pair)
then_added relation other before found was members pair = (
  (λ member. ⊎_elim (λ there. inl ((was pair).0 there)) (λ holds. inr holds) ((members pair).0 member)),
  (λ either. (members pair).1 (⊎_elim (λ holds. inl ((was pair).1 holds)) (λ holds. inr holds) either)),
)
