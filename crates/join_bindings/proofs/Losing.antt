-- What is lost of a join's bindings.
use Rattle.std.proofs.Common.{◌≡◌, ℕ, Bool, true, false, List, [], ◌∷◌, refl, sym, subst, ◌∙◌, ◌⊎◌, inl, inr, ⊎_elim}
use Rattle.std.specs.Prelude.{Contains}
use Rattle.std.proofs.lemmas.Bool.{false≢true}
use Rattle.rpq_base.proofs.Members.{cons_members, none_in}
use Rattle.rpq_base.specs.declared.data.Pair.{Pair}
use Rattle.rpq_model.proofs.Pairs.{has, has_iff}
use Rattle.join_file.specs.declared.data.JoinAtom.{JoinAtom}
use Rattle.join_file.specs.Joins.{JoinValue}
use Rattle.join_bindings.specs.Bindings.{Family, IsPairOf, IsMet, IsBinding}
use Rattle.join_bindings.specs.Laws.{ChangesAreTouched}

-- a pair is among others or not
pub there_or_not : (pairs : List Pair) (pair : Pair) → Contains pairs pair ⊎ (Contains pairs pair → ⊥)
there_or_not pairs pair = by_test (has pairs pair) refl
  where
    by_test : (test : Bool) → has pairs pair ≡ test → Contains pairs pair ⊎ (Contains pairs pair → ⊥)
    by_test true is = inl ((has_iff pairs pair).0 is)
    by_test false is = inr (λ member. false≢true (sym is ∙ (has_iff pairs pair).1 member))

-- an atom has one pair
pub one_pair : (names : List (List ℕ)) (atom : JoinAtom) (pair other : Pair) → IsPairOf names atom pair → IsPairOf names atom other → pair ≡ other
one_pair names atom pair other first second =
    let from : pair.from ≡ other.from = cc (first.from, second.from) in
    let to : pair.to ≡ other.to = cc (first.to, second.to) in
    λ i. record { from = from i; to = to i }

-- an atom that is met by a pair that the other family lacks
pub record IsUnmet (atoms : List JoinAtom) (there : Family) (names : List (List ℕ)) : Type 0 where
  pub atom : JoinAtom
  pub among : Contains atoms atom
  pub pair : Pair
  pub has : IsPairOf names atom pair
  pub lacks : Contains (there atom.query) pair → ⊥

-- atoms that are met in one family are met in the other, or one of them isn't
met_or_not : (atoms : List JoinAtom) (here there : Family) (names : List (List ℕ)) → ((atom : JoinAtom) → Contains atoms atom → IsMet here names atom) →
    ((atom : JoinAtom) → Contains atoms atom → IsMet there names atom) ⊎ IsUnmet atoms there names
met_or_not [] here there names met = inl (λ atom member. absurd (none_in atom member))
met_or_not (first ∷ atoms) here there names met =
    let own = met first ((cons_members first atoms first).1 (inl refl)) in
    ⊎_elim
    (λ present. ⊎_elim
    (λ all. inl (λ atom member. ⊎_elim
    (λ is. subst (IsMet there names) is (own.0, own.1, present))
    (λ later. all atom later)
    ((cons_members first atoms atom).0 member)))
    (λ unmet. inr (record {
      atom = unmet.atom;
      among = (cons_members first atoms unmet.atom).1 (inr unmet.among);
      pair = unmet.pair;
      has = unmet.has;
      lacks = unmet.lacks;
    }))
    (met_or_not atoms here there names (λ atom member. met atom ((cons_members first atoms atom).1 (inr member)))))
    (λ lacks. inr (record {
      atom = first;
      among = (cons_members first atoms first).1 (inl refl);
      pair = own.0;
      has = own.1;
      lacks = lacks;
    }))
    (there_or_not (there first.query) own.0)

-- a binding in one family is one in the other, or isn't
pub still_or_not : (join : JoinValue) (here there : Family) (names : List (List ℕ)) → IsBinding join here names →
    IsBinding join there names ⊎ IsUnmet join.atoms there names
still_or_not join here there names is = ⊎_elim
    (λ all. inl (record { as_many = is.as_many; met = all }))
    (λ unmet. inr unmet)
    (met_or_not join.atoms here there names is.met)

pub unmet_gone : (join : JoinValue) (there : Family) (names : List (List ℕ)) (atom : JoinAtom) (pair : Pair) → Contains join.atoms atom →
    IsPairOf names atom pair → (Contains (there atom.query) pair → ⊥) → IsBinding join there names → ⊥
unmet_gone join there names atom pair among has lacks is =
    let met = is.met atom among in
    lacks (subst (Contains (there atom.query)) (one_pair names atom met.0 pair met.1 has) met.2)

pub changes_are_touched : ChangesAreTouched
changes_are_touched join here there missing are names = (
  (λ lost. ⊎_elim
      (λ still. absurd (lost.gone still))
      (λ unmet.
      let met = lost.was.met unmet.atom unmet.among in
      let pair_is = one_pair names unmet.atom met.0 unmet.pair met.1 unmet.has in
      record {
        is = lost.was;
        atom = unmet.atom;
        among = unmet.among;
        pair = unmet.pair;
        has = unmet.has;
        touches = (are unmet.atom.query unmet.pair).1 (subst (Contains (here unmet.atom.query)) pair_is met.2, unmet.lacks);
      })
      (still_or_not join here there names lost.was)),
  (λ touched. record {
    was = touched.is;
    gone = unmet_gone join there names touched.atom touched.pair touched.among touched.has ((are touched.atom.query touched.pair).0 touched.touches).1;
  }),
)
