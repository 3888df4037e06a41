-- Names where nothing is open.
use Rattle.std.proofs.Common.{◌≡◌, ℕ, zero, suc, ◌<◌, List, [], ◌∷◌, ◌++◌, ◌+◌, length, Bor, take, get_or, Option, Some, None, refl, sym, ap, subst, ◌∙◌, ⊎_elim, arith}
use Rattle.std.specs.Prelude.{◌↔◌, slice_get, Contains}
use Rattle.std.specs.Option.{option_to_list}
use Rattle.std.proofs.lemmas.List.{take_more}
use Rattle.std.proofs.lemmas.List.Elements.{Contains-push, Contains-push_cases, Contains-append_left}
use Rattle.rpq_base.proofs.Members.{HasOneMore}
use Rattle.std.specs.List.{filter_map}
use Rattle.std.proofs.lemmas.Option.{same_Some, slice_get_within}
use Rattle.join_bindings.specs.Partial.{Bound, Agrees, Covers, IsFull, Takes, AreMet, ClosesAll}
use Rattle.join_bindings.specs.Partial.{IsThrough, atoms_at}
use Rattle.join_file.specs.Sound.{Mentions}
use Rattle.rpq_base.specs.declared.data.Pair.{Pair}
use Rattle.join_file.specs.declared.data.JoinAtom.{JoinAtom}
use Rattle.join_file.specs.Joins.{JoinValue}

-- the names that are bound
abbrev pub names_of : Bound → List (List ℕ)
names_of bound = filter_map (λ name. name) bound

-- without the first variable
rest_agrees : (name : Option (List ℕ)) (bound : Bound) (first : List ℕ) (names : List (List ℕ)) → Agrees (name ∷ bound) (first ∷ names) → Agrees bound names
rest_agrees name bound first names agree = record {
  as_many = let many = agree.as_many in omega (arith, many);
  same = λ number known there. agree.same (suc number) known there;
}

first_agrees : (name : List ℕ) (bound : Bound) (first : List ℕ) (names : List (List ℕ)) → Agrees (Some name ∷ bound) (first ∷ names) → first ≡ name
first_agrees name bound first names agree = same_Some first name (agree.same 0 name refl)

pub full_is : (bound : Bound) (names : List (List ℕ)) → IsFull bound → Agrees bound names → names_of bound ≡ names
full_is [] [] full agree = refl
full_is [] (first ∷ names) full agree = let many = agree.as_many in absurd (omega (arith, many))
full_is (None ∷ bound) names full agree = absurd (full 0 refl)
full_is (Some name ∷ bound) [] full agree = let many = agree.as_many in absurd (omega (arith, many))
full_is (Some name ∷ bound) (first ∷ names) full agree =
    ap (λ (rest : List (List ℕ)). name ∷ rest) (full_is bound names (λ number open_. full (suc number) open_) (rest_agrees (Some name) bound first names agree))
    ∙ ap (λ (each : List ℕ). each ∷ names) (sym (first_agrees name bound first names agree))

pub full_agrees : (bound : Bound) → IsFull bound → Agrees bound (names_of bound)
full_agrees [] full = record { as_many = refl; same = λ number known there. absurd (omega (arith, slice_get_within [] number (Some known) there)) }
full_agrees (None ∷ bound) full = absurd (full 0 refl)
full_agrees (Some name ∷ bound) full =
    let rest = full_agrees bound (λ number open_. full (suc number) open_) in
    record {
      as_many = let many = rest.as_many in omega (arith, many);
      same = λ number known there. by_place number known there rest;
    }
  where
    by_place : (number : ℕ) (known : List ℕ) → slice_get (Some name ∷ bound) number ≡ Some (Some known) → Agrees bound (names_of bound) →
        slice_get (name ∷ names_of bound) number ≡ Some known
    by_place zero known there rest = same_Some (Some name) (Some known) there
    by_place (suc number) known there rest = rest.same number known there

-- one name more
names_push : (bound : Bound) (name : Option (List ℕ)) → names_of (bound ++ name ∷ []) ≡ names_of bound ++ option_to_list name
names_push [] None = refl
names_push [] (Some name) = refl
names_push (None ∷ bound) name = names_push bound name
names_push (Some first ∷ bound) name = ap (λ (rest : List (List ℕ)). first ∷ rest) (names_push bound name)

pub names_more : (bound : Bound) (index : ℕ) (name : Option (List ℕ)) → index < length bound → name ≡ get_or bound index name →
    names_of (take index bound) ++ option_to_list name ≡ names_of (take (index + 1) bound)
names_more bound index name below is =
    sym (names_push (take index bound) name)
    ∙ ap names_of (ap (λ (each : Option (List ℕ)). take index bound ++ each ∷ []) is ∙ sym (take_more bound index name below))

-- ---- lists of bindings

pub closed_more : (before after : List Bound) (one : Bound) (found more : List (List (List ℕ))) (binding : List (List ℕ)) → HasOneMore before one after →
    more ≡ found ++ binding ∷ [] → ((names : List (List ℕ)) → Agrees one names ↔ (binding ≡ names)) →
    ((names : List (List ℕ)) → Contains found names ↔ Covers before names) → (names : List (List ℕ)) → Contains more names ↔ Covers after names
closed_more before after one found more binding step is own so_far names = subst (λ (list : List (List (List ℕ))). Contains list names ↔ Covers after names) (sym is) (
  (λ member. ⊎_elim
      (λ there. let covers = (so_far names).0 there in (covers.0, step.still covers.0 covers.1, covers.2))
      (λ here. (one, step.here, (own names).1 here))
      (Contains-push_cases found binding names member)),
  (λ covers. ⊎_elim
      (λ there. Contains-append_left found (binding ∷ []) names ((so_far names).1 (covers.0, there, covers.2)))
      (λ here.
      let binding_is : binding ≡ names = (own names).0 (subst (λ (bound : Bound). Agrees bound names) (sym here) covers.2) in
      subst (Contains (found ++ binding ∷ [])) binding_is (Contains-push found binding))
      (step.cases covers.0 covers.1)),
)

-- ---- all of a join's atoms, where one has its pair

pub through_is : (sets : List (List Pair)) (join : JoinValue) (atom : JoinAtom) (pair : Pair) (blank bound : Bound) (names : List (List ℕ)) (Found : Type 0) →
    Found ↔ (Agrees bound names × AreMet sets names join.atoms) → Takes blank atom pair bound → Agrees blank names ↔ (length names ≡ join.variables) →
    Found ↔ IsThrough sets join atom pair names
through_is sets join atom pair blank bound names Found found takes open_ = (
  (λ there.
      let both = found.0 there in
      let own = (takes.agrees names).0 both.0 in
      record { as_many = open_.0 own.0; own = own.1; met = both.1 }),
  (λ is. found.1 ((takes.agrees names).1 (open_.1 is.as_many, is.own), is.met)),
)

-- and nothing is open then
pub through_full : (join : JoinValue) (atom : JoinAtom) (pair : Pair) (blank bound more : Bound) → Takes blank atom pair bound → length blank ≡ join.variables →
    ((number : ℕ) → number < join.variables → (each : JoinAtom) × Contains join.atoms each × Mentions each number) → ClosesAll bound join.atoms more → IsFull more
through_full join atom pair blank bound more takes many all closes number still =
    let left = closes.leaves number still in
    let below : number < join.variables = omega (arith, slice_get_within bound number None left.0, takes.closes.as_many, many) in
    let found = all number below in
    left.1 found.0 found.1 found.2

-- ---- atoms in another order

pub plan_atoms : (plan given : List (Bor JoinAtom)) (items atoms : List JoinAtom) → given ≡ plan → items ≡ atoms →
    ((atom : JoinAtom) → Contains (atoms_at plan) atom ↔ Contains items atom) → (atom : JoinAtom) → Contains (atoms_at given) atom ↔ Contains atoms atom
plan_atoms plan given items atoms plan_is atoms_are same atom =
    subst (λ (list : List (Bor JoinAtom)). Contains (atoms_at list) atom ↔ Contains atoms atom) (sym plan_is)
    (subst (λ (list : List JoinAtom). Contains (atoms_at plan) atom ↔ Contains list atom) atoms_are (same atom))

pub closes_same : (bound more : Bound) (atoms others : List JoinAtom) → ((atom : JoinAtom) → Contains atoms atom ↔ Contains others atom) →
    ClosesAll bound atoms more → ClosesAll bound others more
closes_same bound more atoms others same closes = record {
  as_many = closes.as_many;
  leaves = λ number still.
      let left = closes.leaves number still in
      (left.0, λ atom member mentions. left.1 atom ((same atom).1 member) mentions);
}

pub met_same : (sets : List (List Pair)) (names : List (List ℕ)) (atoms others : List JoinAtom) → ((atom : JoinAtom) → Contains atoms atom ↔ Contains others atom) →
    AreMet sets names atoms ↔ AreMet sets names others
met_same sets names atoms others same = (
  (λ met atom member. met atom ((same atom).1 member)),
  (λ met atom member. met atom ((same atom).0 member)),
)
