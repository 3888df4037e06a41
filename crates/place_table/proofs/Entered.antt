-- Look-ups of numbers in small maps.
use Rattle.std.proofs.Common.{◌≡◌, ℕ, ◌++◌, ◌∷◌, [], true, cond, List, None, Some, slice_get, slice_set, sym, ap, subst, ◌∙◌, rules, nat_eq}
use Rattle.std.specs.Cmp.{IsEquivalence}
use Rattle.std.specs.Cmp.Rules.{comparing}
use Rattle.std.specs.List.{IsDistinct, swap_remove}
use Rattle.std.specs.Map.{keys_of, lookup}
use Rattle.small_map.specs.Places.{IsPlace}
use Rattle.small_map.proofs.Entries.{some_is_one, value_at, value_set, value_more, value_less}

-- the equality of numbers is one
pub number_laws : IsEquivalence nat_eq
number_laws = search (comparing, rules)

-- equal numbers pass
pub number_same : (a b : ℕ) → a ≡ b → nat_eq a b ≡ true
number_same a b is = ap (nat_eq a) (sym is) ∙ number_laws.refl a

-- the entry that was found has the key
pub has_key : {V : Type 0} (entries : List (ℕ × V)) (key place : ℕ) (entry : ℕ × V) →
    IsPlace nat_eq entries key (Some place) → slice_get entries place ≡ Some entry →
    nat_eq key entry.0 ≡ true
has_key {V} entries key place entry (other, at, same) is =
    subst (λ (each : ℕ × V). nat_eq key each.0 ≡ true) (some_is_one other entry (sym at ∙ is)) same

-- its value is the key's
pub looked_up : {V : Type 0} (entries : List (ℕ × V)) (key place : ℕ) (entry : ℕ × V) →
    IsPlace nat_eq entries key (Some place) → IsDistinct nat_eq (keys_of entries) →
    slice_get entries place ≡ Some entry → Some entry.1 ≡ lookup (nat_eq key) entries
looked_up entries key place entry found once is =
    sym (value_at number_laws entries key place entry once is (has_key entries key place entry found is))

-- with another value there
pub set_up : {V : Type 0} (entries new : List (ℕ × V)) (key place : ℕ) (value : V) →
    IsPlace nat_eq entries key (Some place) → IsDistinct nat_eq (keys_of entries) →
    ((entry : ℕ × V) → slice_get entries place ≡ Some entry →
    new ≡ slice_set entries place (entry.0, value)) →
    (each : ℕ) → lookup (nat_eq each) new ≡ cond (nat_eq key each) (Some value) (lookup (nat_eq each) entries)
set_up entries new key place value (entry, at, same) once is each =
    ap (lookup (nat_eq each)) (is entry at)
    ∙ value_set number_laws entries key value place entry once at same each

-- with one more
pub more_up : {V : Type 0} (entries new : List (ℕ × V)) (key : ℕ) (value : V) →
    lookup (nat_eq key) entries ≡ None → new ≡ entries ++ (key, value) ∷ [] →
    (each : ℕ) → lookup (nat_eq each) new ≡ cond (nat_eq key each) (Some value) (lookup (nat_eq each) entries)
more_up entries new key value none is each =
    ap (lookup (nat_eq each)) is ∙ value_more number_laws entries key value none each

-- with one less
pub less_up : {V : Type 0} (entries new : List (ℕ × V)) (key place : ℕ) →
    IsPlace nat_eq entries key (Some place) → IsDistinct nat_eq (keys_of entries) →
    ((entry : ℕ × V) → slice_get entries place ≡ Some entry → new ≡ swap_remove entries place entry) →
    (each : ℕ) → lookup (nat_eq each) new ≡ cond (nat_eq key each) None (lookup (nat_eq each) entries)
less_up entries new key place (entry, at, same) once is each =
    ap (lookup (nat_eq each)) (is entry at)
    ∙ value_less number_laws entries key place entry once at same each
