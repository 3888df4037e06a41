-- The lists of names among which all bindings of a join are.
use Rattle.std.proofs.Common.{◌≡◌, ℕ, zero, suc, List, [], ◌∷◌, ◌++◌, map, length, get_or}
use Rattle.std.proofs.Common.{Some, refl, sym, ap, subst, ◌∙◌, inl, inr, ⊎_elim, arith}
use Rattle.std.specs.Prelude.{Contains, All, slice_get}
use Rattle.std.proofs.lemmas.List.Elements.{All-head, All-tail}
use Rattle.std.proofs.lemmas.List.Elements.{Contains-append_left, Contains-append_right}
use Rattle.std.proofs.lemmas.Option.{get_or_from_slice_get}
use Rattle.rpq_base.specs.declared.data.Pair.{Pair}
use Rattle.rpq_base.proofs.Members.{cons_members, none_in}
use Rattle.join_file.specs.declared.data.Term.{Term}
use Rattle.join_file.specs.declared.data.Term.TheVariants.{Variable}
use Rattle.join_file.specs.declared.data.JoinAtom.{JoinAtom}
use Rattle.join_file.specs.Joins.{JoinValue}
use Rattle.join_bindings.specs.Bindings.{Family, value_of, IsBinding}
use Rattle.join_file.specs.Sound.{IsSound}
use Rattle.join_file.proofs.Mapping.{mapped}

-- ---- all lists of so many elements

-- each of the elements in front of each of the lists
abbrev in_front_of : {X : Type 0} → List X → List (List X) → List (List X)
in_front_of [] lists = []
in_front_of (first ∷ elements) lists =
    map (λ rest. first ∷ rest) lists ++ in_front_of elements lists

-- so many of these elements, in each order
abbrev lists_over : {X : Type 0} → List X → ℕ → List (List X)
lists_over elements zero = [] ∷ []
lists_over elements (suc count) = in_front_of elements (lists_over elements count)

in_front_has : {X : Type 0} (elements : List X) (lists : List (List X)) (x : X) (rest : List X) →
    Contains elements x → Contains lists rest → Contains (in_front_of elements lists) (x ∷ rest)
in_front_has [] lists x rest member there = absurd (none_in x member)
in_front_has (first ∷ elements) lists x rest member there =
    let own = map (λ tail. first ∷ tail) lists in
    let others = in_front_of elements lists in
    ⊎_elim
    (λ here. Contains-append_left own others (x ∷ rest)
    ((mapped (λ tail. first ∷ tail) lists (x ∷ rest)).1
    (rest, there, ap (λ each. each ∷ rest) here)))
    (λ later. Contains-append_right own others (x ∷ rest)
    (in_front_has elements lists x rest later there))
    ((cons_members first elements x).0 member)

lists_over_has : {X : Type 0} (list elements : List X) → All (Contains elements) list →
    Contains (lists_over elements (length list)) list
lists_over_has [] elements all = (0, omega arith, refl)
lists_over_has (x ∷ list) elements all =
    in_front_has elements (lists_over elements (length list)) x list
    (All-head (Contains elements) x list all)
    (lists_over_has list elements (All-tail (Contains elements) x list all))

-- ---- the names that can be bound

-- the names that stand in pairs
abbrev names_in : List Pair → List (List ℕ)
names_in [] = []
names_in (pair ∷ pairs) = pair.from ∷ pair.to ∷ names_in pairs

names_has : (pairs : List Pair) (pair : Pair) → Contains pairs pair →
    Contains (names_in pairs) pair.from × Contains (names_in pairs) pair.to
names_has [] pair member = absurd (none_in pair member)
names_has (first ∷ pairs) pair member =
    let rest = names_in pairs in
    let behind = λ (name : List ℕ) (there : Contains (first.to ∷ rest) name).
    (cons_members first.from (first.to ∷ rest) name).1 (inr there) in
    ⊎_elim
    (λ here. (
      (cons_members first.from (first.to ∷ rest) pair.from).1
          (inl (ap (λ (each : Pair). each.from) here)),
      behind pair.to ((cons_members first.to rest pair.to).1
          (inl (ap (λ (each : Pair). each.to) here))),
    ))
    (λ later.
    let ends = names_has pairs pair later in (
      behind pair.from ((cons_members first.to rest pair.from).1 (inr ends.0)),
      behind pair.to ((cons_members first.to rest pair.to).1 (inr ends.1)),
    ))
    ((cons_members first pairs pair).0 member)

-- the names that stand in the pairs of these atoms' queries
abbrev names_for : List JoinAtom → Family → List (List ℕ)
names_for [] pairs = []
names_for (atom ∷ atoms) pairs = names_in (pairs atom.query) ++ names_for atoms pairs

names_for_has : (atoms : List JoinAtom) (pairs : Family) (atom : JoinAtom) (name : List ℕ) →
    Contains atoms atom → Contains (names_in (pairs atom.query)) name →
    Contains (names_for atoms pairs) name
names_for_has [] pairs atom name member there = absurd (none_in atom member)
names_for_has (first ∷ atoms) pairs atom name member there =
    let own = names_in (pairs first.query) in
    ⊎_elim
    (λ here. Contains-append_left own (names_for atoms pairs) name
    (subst (λ (each : JoinAtom). Contains (names_in (pairs each.query)) name) (sym here) there))
    (λ later. Contains-append_right own (names_for atoms pairs) name
    (names_for_has atoms pairs atom name later there))
    ((cons_members first atoms atom).0 member)

-- ---- candidates

-- for each variable one of the names that can be bound
abbrev pub candidates : JoinValue → Family → List (List (List ℕ))
candidates join pairs = lists_over (names_for join.atoms pairs) join.variables

-- all bindings are among these
pub binding_among : (queries : ℕ) (join : JoinValue) (pairs : Family) (names : List (List ℕ)) →
    IsSound queries join → IsBinding join pairs names → Contains (candidates join pairs) names
binding_among queries join pairs names sound binding =
    subst (λ (count : ℕ). Contains (lists_over known count) names) binding.as_many
    (lists_over_has names known all)
  where
    known : List (List ℕ)
    known = names_for join.atoms pairs

    -- a variable of an atom has a name of a pair
    stands : (atom : JoinAtom) (term : Term) (name default : List ℕ) (place : ℕ) →
        Contains join.atoms atom → term ≡ Variable place → value_of names term ≡ Some name →
        Contains (names_in (pairs atom.query)) name → Contains known (get_or names place default)
    stands atom term name default place member is value there =
        let at : slice_get names place ≡ Some name = sym (ap (value_of names) is) ∙ value in
        subst (Contains known) (sym (get_or_from_slice_get names place name default at))
        (names_for_has join.atoms pairs atom name member there)

    all : All (Contains known) names
    all place default below =
        let many = binding.as_many in
        let mention = sound.all place (omega (arith, below, many)) in
        let atom = mention.0 in
        let met = binding.met atom mention.1 in
        let ends = names_has (pairs atom.query) met.0 met.2 in
        ⊎_elim
        (λ from. stands atom atom.from met.0.from default place mention.1 from met.1.from ends.0)
        (λ to. stands atom atom.to met.0.to default place mention.1 to met.1.to ends.1)
        mention.2
