-- Pairs that suffice.
use Rattle.std.proofs.Common.{◌≡◌, ℕ, List, [], get_or, Some, sym, subst}
use Rattle.std.specs.Prelude.{◌↔◌, Contains}
use Rattle.rpq_base.specs.declared.data.Pair.{Pair}
use Rattle.join_file.specs.declared.data.Term.{Term}
use Rattle.join_file.specs.declared.data.JoinAtom.{JoinAtom}
use Rattle.join_bindings.specs.Bindings.{value_of}
use Rattle.join_bindings.specs.Overlaps.{Suffice}
use Rattle.join_bindings.specs.Partial.{AreMet}

-- those that fit
pub suffice_exactly : (sets : List (List Pair)) (atoms : List JoinAtom) (atom : JoinAtom) (pairs found : List Pair) (fit : Pair → Type 0) →
    pairs ≡ get_or sets atom.query [] → ((pair : Pair) → Contains found pair ↔ (Contains pairs pair × fit pair)) → Suffice sets atoms atom fit found
suffice_exactly sets atoms atom pairs found fit is fits = record {
  only = λ pair member. subst (λ (list : List Pair). Contains list pair) is ((fits pair).0 member).0;
  all = λ names pair are of member here. (fits pair).1 (subst (λ (list : List Pair). Contains list pair) (sym is) member, here);
}

-- each that the term stands for, where the atoms are met, is among these
abbrev pub HoldsAll : List (List Pair) → List JoinAtom → Term → List (List ℕ) → Type 0
HoldsAll sets atoms term few = (names : List (List ℕ)) (vertex : List ℕ) → AreMet sets names atoms → value_of names term ≡ Some vertex → Contains few vertex

-- those with a target among some that hold all
pub suffice_to : (sets : List (List Pair)) (atoms : List JoinAtom) (atom : JoinAtom) (pairs found : List Pair) (few : List (List ℕ)) (fit : Pair → Type 0) →
    pairs ≡ get_or sets atom.query [] → HoldsAll sets atoms atom.to few →
    ((pair : Pair) → Contains found pair ↔ (Contains pairs pair × (fit pair × Contains few pair.to))) → Suffice sets atoms atom fit found
suffice_to sets atoms atom pairs found few fit is holds fits = record {
  only = λ pair member. subst (λ (list : List Pair). Contains list pair) is ((fits pair).0 member).0;
  all = λ names pair are of member here.
      (fits pair).1 (subst (λ (list : List Pair). Contains list pair) (sym is) member, (here, holds names pair.to are of.to));
}

-- those with a source among some that hold all
pub suffice_from : (sets : List (List Pair)) (atoms : List JoinAtom) (atom : JoinAtom) (pairs found : List Pair) (few : List (List ℕ)) (fit : Pair → Type 0) →
    pairs ≡ get_or sets atom.query [] → HoldsAll sets atoms atom.from few →
    ((pair : Pair) → Contains found pair ↔ (Contains pairs pair × (fit pair × Contains few pair.from))) → Suffice sets atoms atom fit found
suffice_from sets atoms atom pairs found few fit is holds fits = record {
  only = λ pair member. subst (λ (list : List Pair). Contains list pair) is ((fits pair).0 member).0;
  all = λ names pair are of member here.
      (fits pair).1 (subst (λ (list : List Pair). Contains list pair) (sym is) member, (here, holds names pair.from are of.from));
}

-- where more has to fit
pub suffice_still : (sets : List (List Pair)) (atoms : List JoinAtom) (atom : JoinAtom) (found : List Pair) (fit other : Pair → Type 0) →
    ((pair : Pair) → other pair → fit pair) → Suffice sets atoms atom fit found → Suffice sets atoms atom other found
suffice_still sets atoms atom found fit other gives suffice = record {
  only = suffice.only;
  all = λ names pair are of member here. suffice.all names pair are of member (gives pair here);
}
