-- The ends of vertices: the greatest values that they have with final states.
use Rattle.std.proofs.Common.{◌≡◌, ℕ, zero, suc, ◌<◌, ◌≤◌, max, Bool, true, false, cond, List, [], ◌∷◌, length, map, Option, Some, None, refl, sym, ap, subst, ◌∙◌, ◌⊎◌, inl, inr, ⊎_elim, arith}
use Rattle.std.specs.Prelude.{◌↔◌, Contains, IsTrue, slice_index_or}
use Rattle.std.proofs.lemmas.Bool.{cases_lt, cases_eq, both_ways, false≢true}
use Rattle.std.proofs.lemmas.Option.{none-some, same_Some}
use Rattle.rpq_base.proofs.Members.{cons_members, none_in}
use Rattle.dfa_table.specs.DfaValue.{DfaValue, is_final}
use Rattle.tree_insert.specs.Best.{IsGreatestOf}
use Rattle.tree_insert.proofs.Bests.{greatest_one}
use Rattle.tree_insert.proofs.Nodes.{node_is}
use Rattle.delta_tree.specs.Nodes.{TreeValue, node_id, value_of, IsTree}
use Rattle.source_tree.specs.Ends.{end_in, greatest, later}
use Rattle.delta_forest.specs.Forest.{ForestValue, IsEnd, IsFinalValue, kept}
use Rattle.delta_forest.specs.Laws.{EachHasAnEnd, EndsAreOne}
use Rattle.source_tree.specs.Product.{AreFinals}

-- ---- the greatest number of a kind

-- it is that of each kind with the same numbers
pub greatest_like : (value : Option ℕ) (kind other : ℕ → Type 0) →
    ((number : ℕ) → kind number ↔ other number) → IsGreatestOf kind value → IsGreatestOf other value
greatest_like None kind other alike greatest = λ number is. greatest number ((alike number).1 is)
greatest_like (Some value) kind other alike greatest = record {
  is = (alike value).0 greatest.is;
  most = λ number is. greatest.most number ((alike number).1 is);
}

-- with a number more that may be there
later_greatest : (first second : Option ℕ) (kind : ℕ → Type 0) → IsGreatestOf kind second →
    IsGreatestOf (λ number. (first ≡ Some number) ⊎ kind number) (later first second)
later_greatest None None kind greatest = λ number either.
    ⊎_elim (λ is. none-some number is) (λ further. greatest number further) either
later_greatest None (Some second) kind greatest = record {
  is = inr greatest.is;
  most = λ number either.
      ⊎_elim (λ is. absurd (none-some number is)) (λ further. greatest.most number further) either;
}
later_greatest (Some first) None kind greatest = record {
  is = inl refl;
  most = λ number either. ⊎_elim
      (λ is. let same = same_Some first number is in omega (arith, same))
      (λ further. absurd (greatest number further)) either;
}
later_greatest (Some first) (Some second) kind greatest = record {
  is = ⊎_elim
      (λ (less : first < second).
      let is : second ≡ max first second = omega (arith, less) in
      inr (subst kind is greatest.is))
      (λ (le : second ≤ first).
      let is : first ≡ max first second = omega (arith, le) in inl (ap (λ (n : ℕ). Some n) is))
      (cases_lt first second);
  most = λ number either. ⊎_elim
      (λ is. let same = same_Some first number is in omega (arith, same))
      (λ further. let le = greatest.most number further in omega (arith, le)) either;
}

-- the number is there at one of these states
abbrev pub IsAtOne : List ℕ → (ℕ → Option ℕ) → ℕ → Type 0
IsAtOne states at number = (state : ℕ) × Contains states state × (at state ≡ Some number)

pub greatest_of : (states : List ℕ) (at : ℕ → Option ℕ) →
    IsGreatestOf (IsAtOne states at) (greatest (map at states))
greatest_of [] at = λ number has. none_in has.0 has.1
greatest_of (first ∷ rest) at = greatest_like (later (at first) (greatest (map at rest)))
    (λ number. (at first ≡ Some number) ⊎ IsAtOne rest at number) (IsAtOne (first ∷ rest) at)
    (λ number. (
      (λ either. ⊎_elim
          (λ (is : at first ≡ Some number).
          (first, (cons_members first rest first).1 (inl refl), is))
          (λ (has : IsAtOne rest at number).
          (has.0, (cons_members first rest has.0).1 (inr has.1), has.2)) either),
      (λ has. ⊎_elim
          (λ (here : first ≡ has.0). inl (ap at here ∙ has.2))
          (λ further. inr (has.0, further, has.2))
          ((cons_members first rest has.0).0 has.1)),
    ))
    (later_greatest (at first) (greatest (map at rest)) (IsAtOne rest at) (greatest_of rest at))

-- ---- final states

-- the states below a bound that pass a test
abbrev passing : (ℕ → Bool) → ℕ → List ℕ
passing test zero = []
passing test (suc bound) = cond (test bound) (bound ∷ passing test bound) (passing test bound)

passing_step : (test : ℕ → Bool) (bound : ℕ) (rest : List ℕ) (b : Bool) → test bound ≡ b →
    ((state : ℕ) → Contains rest state ↔ ((state < bound) × (test state ≡ true))) →
    (state : ℕ) →
    Contains (cond b (bound ∷ rest) rest) state ↔ ((state < suc bound) × (test state ≡ true))
passing_step test bound rest true passes members state = (
  (λ member. ⊎_elim
      (λ (here : bound ≡ state). (omega (arith, here), ap test (sym here) ∙ passes))
      (λ further. let both = (members state).0 further in (omega (arith, both.0), both.1))
      ((cons_members bound rest state).0 member)),
  (λ both. (cons_members bound rest state).1 (⊎_elim
      (λ (is : bound ≡ state). inl is)
      (λ differ. inr ((members state).1 (below state both.0 differ, both.1)))
      (cases_eq bound state))),
)
  where
    below : (state : ℕ) → state < suc bound → (bound ≡ state → ⊥) → state < bound
    below state less differ = grind (arith, less, differ)
passing_step test bound rest false fails members state = (
  (λ member. let both = (members state).0 member in (omega (arith, both.0), both.1)),
  (λ both. ⊎_elim
      (λ (is : bound ≡ state). absurd (both_ways (test bound) fails (ap test is ∙ both.1)))
      (λ differ. (members state).1 (below state both.0 differ, both.1))
      (cases_eq bound state)),
)
  where
    below : (state : ℕ) → state < suc bound → (bound ≡ state → ⊥) → state < bound
    below state less differ = grind (arith, less, differ)

passing_members : (test : ℕ → Bool) (bound state : ℕ) →
    Contains (passing test bound) state ↔ ((state < bound) × (test state ≡ true))
passing_members test zero state = (
  (λ member. absurd (none_in state member)),
  (λ both. absurd (omega (arith, both.0))),
)
passing_members test (suc bound) state =
    passing_step test bound (passing test bound) (test bound) refl
    (λ each. passing_members test bound each) state

-- a place past a list of tests has none that passes
pub within : (tests : List Bool) (place : ℕ) → slice_index_or tests place false ≡ true →
    place < length tests
within [] place is = absurd (false≢true is)
within (first ∷ rest) zero is = omega arith
within (first ∷ rest) (suc place) is = let less = within rest place is in omega (arith, less)

-- these are exactly the final states, with the state 0 where it is one
abbrev AreAllFinals : DfaValue → List ℕ → Type 0
AreAllFinals dfa finals = (state : ℕ) → Contains finals state ↔ IsTrue (is_final dfa state)

finals_of : (dfa : DfaValue) → (finals : List ℕ) × AreAllFinals dfa finals
finals_of dfa =
    let bound = length dfa.finals in
    let members = passing_members (is_final dfa) bound in (
      passing (is_final dfa) bound,
      λ state. (
        (λ member. ((members state).0 member).1),
        (λ final. (members state).1 (within dfa.finals state final, final)),
      ),
    )

-- ---- ends

end_is : (forest : ForestValue) (finals : List ℕ) (root vertex : ℕ) →
    AreAllFinals forest.dfa finals →
    IsEnd forest root vertex (greatest (map (kept forest root vertex) finals))
end_is forest finals root vertex are =
    let at = kept forest root vertex in
    greatest_like (greatest (map at finals)) (IsAtOne finals at) (IsFinalValue forest root vertex)
    (λ number. (
      (λ has. (has.0, (are has.0).0 has.1, has.2)),
      (λ has. (has.0, (are has.0).1 has.1, has.2)),
    ))
    (greatest_of finals at)

-- the end of a vertex is that in the tree of the root, where no node stands with the state 0
pub end_from : (forest : ForestValue) (finals : List ℕ) (root vertex : ℕ) (tree : TreeValue) →
    AreFinals forest.dfa finals → IsTree tree →
    ((state : ℕ) → kept forest root vertex state ≡ value_of tree (node_id vertex state)) →
    IsEnd forest root vertex (end_in finals tree vertex)
end_from forest finals root vertex tree are is_tree same =
    let at = λ (state : ℕ). value_of tree (node_id vertex state) in
    greatest_like (greatest (map at finals)) (IsAtOne finals at) (IsFinalValue forest root vertex)
    (λ number. (
      (λ has. (has.0, ((are has.0).0 has.1).1, same has.0 ∙ has.2)),
      (λ has.
          let is = sym (same has.0) ∙ has.2 in
          let node = node_is tree (node_id vertex has.0) number is in
          let above = (is_tree (node_id vertex has.0) node.0 node.1).state in
          (has.0, (are has.0).1 (above, has.1), is)),
    ))
    (greatest_of finals at)

pub ends_are_one : EndsAreOne
ends_are_one forest root vertex one other first second =
    greatest_one one other (IsFinalValue forest root vertex) first second

pub each_has_an_end : EachHasAnEnd
each_has_an_end forest root vertex =
    let finals = finals_of forest.dfa in (
      greatest (map (kept forest root vertex) finals.0),
      end_is forest finals.0 root vertex finals.1,
    )
