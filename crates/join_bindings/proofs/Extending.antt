-- What an atom adds, pair by pair.
use Rattle.std.proofs.Common.{◌≡◌, ◌<◌, ℕ, List, [], Bor, length, get_or, refl, sym, subst, ◌∙◌, ◌⊎◌, inl, inr, ⊎_elim}
use Rattle.std.specs.Prelude.{◌↔◌, Contains}
use Rattle.rpq_base.proofs.Members.{HasOneMore, none_in}
use Rattle.rpq_base.specs.declared.data.Pair.{Pair}
use Rattle.join_file.specs.declared.data.JoinAtom.{JoinAtom}
use Rattle.join_bindings.specs.Bindings.{IsPairOf}
use Rattle.join_bindings.specs.Overlaps.{Suffice, Narrows}
use Rattle.join_bindings.specs.Partial.{Bound, Agrees, Covers, Closes, ClosesAll, IsMetBy, IsMetIn}
use Rattle.join_bindings.specs.Partial.{AreMet, atoms_at}
use Rattle.join_file.specs.Sound.{Mentions}
use Rattle.join_file.proofs.Mapping.{mapped}

-- one pair more is taken
pub met_more : (before after : List Pair) (one : Pair) (names : List (List ℕ)) (atom : JoinAtom) (Old Mid New Agree : Type 0) → HasOneMore before one after →
    New ↔ (Mid ⊎ (Agree × IsPairOf names atom one)) → Mid ↔ (Old ⊎ (Agree × IsMetBy before names atom)) → New ↔ (Old ⊎ (Agree × IsMetBy after names atom))
met_more before after one names atom Old Mid New Agree step now so_far = (
  (λ new. ⊎_elim
      (λ mid. ⊎_elim
      (λ old. inl old)
      (λ met. inr (met.0, (met.1.0, met.1.1, step.still met.1.0 met.1.2)))
      (so_far.0 mid))
      (λ taken. inr (taken.0, (one, taken.1, step.here)))
      (now.0 new)),
  (λ either. now.1 (⊎_elim
      (λ old. inl (so_far.1 (inl old)))
      (λ met. ⊎_elim
      (λ there. inl (so_far.1 (inr (met.0, (met.1.0, met.1.1, there)))))
      (λ here. inr (met.0, subst (IsPairOf names atom) (sym here) met.1.1))
      (step.cases met.1.0 met.1.2))
      either)),
)

-- what is found among the pairs suffices
pub met_by_sufficient : (sets : List (List Pair)) (atoms : List JoinAtom) (atom : JoinAtom) (fit : Pair → Type 0) (found : List Pair) (names : List (List ℕ))
    (Old New Agree : Type 0) → Suffice sets atoms atom fit found → (Agree → (pair : Pair) → IsPairOf names atom pair → fit pair) →
    New ↔ (Old ⊎ (Agree × IsMetBy found names atom)) → Narrows sets atoms names (Old ⊎ (Agree × IsMetIn sets names atom)) New
met_by_sufficient sets atoms atom fit found names Old New Agree suffice fits now = record {
  only = λ new. ⊎_elim
      (λ old. inl old)
      (λ met. inr (met.0, (met.1.0, met.1.1, suffice.only met.1.0 met.1.2)))
      (now.0 new);
  all = λ are either. now.1 (⊎_elim
      (λ old. inl old)
      (λ met. inr (met.0, (met.1.0, met.1.1, suffice.all names met.1.0 are met.1.1 met.1.2 (fits met.0 met.1.0 met.1.1))))
      either);
}

-- ---- all that is bound so far

-- nothing is extended
pub narrows_none : (sets : List (List Pair)) (atoms : List JoinAtom) (names : List (List ℕ)) (all : List Bound) (Met : Type 0) → all ≡ [] →
    Narrows sets atoms names (Covers [] names × Met) (Covers all names)
narrows_none sets atoms names all Met none = record {
  only = λ covers. absurd (none_in covers.0 (subst (λ (items : List Bound). Contains items covers.0) none covers.1));
  all = λ are both. absurd (none_in both.0.0 both.0.1);
}

-- one more is extended
pub narrows_more : (sets : List (List Pair)) (atoms : List JoinAtom) (names : List (List ℕ)) (before after : List Bound) (one : Bound) (Mid New Met : Type 0) →
    HasOneMore before one after → Narrows sets atoms names (Mid ⊎ (Agrees one names × Met)) New →
    Narrows sets atoms names (Covers before names × Met) Mid → Narrows sets atoms names (Covers after names × Met) New
narrows_more sets atoms names before after one Mid New Met step now so_far = record {
  only = λ new. ⊎_elim
      (λ mid. let both = so_far.only mid in ((both.0.0, step.still both.0.0 both.0.1, both.0.2), both.1))
      (λ both. ((one, step.here, both.0), both.1))
      (now.only new);
  all = λ are both. now.all are (⊎_elim
      (λ there. inl (so_far.all are ((both.0.0, there, both.0.2), both.1)))
      (λ here. inr (subst (λ (bound : Bound). Agrees bound names) (sym here) both.0.2, both.1))
      (step.cases both.0.0 both.0.1));
}

-- ---- all atoms

-- one more atom is taken
pub atoms_more : (sets : List (List Pair)) (atoms before after : List JoinAtom) (one : JoinAtom) (names : List (List ℕ)) (Mid New Agree : Type 0) →
    HasOneMore before one after → Narrows sets atoms names (Mid × IsMetIn sets names one) New →
    Narrows sets atoms names (Agree × AreMet sets names before) Mid → Narrows sets atoms names (Agree × AreMet sets names after) New
atoms_more sets atoms before after one names Mid New Agree step now so_far = record {
  only = λ new.
      let both = now.only new in
      let mid = so_far.only both.0 in (
        mid.0,
        λ atom member. ⊎_elim
            (λ there. mid.1 atom there)
            (λ here. subst (λ (each : JoinAtom). IsMetIn sets names each) here both.1)
            (step.cases atom member),
      );
  all = λ are both. now.all are (
    so_far.all are (both.0, λ atom member. both.1 atom (step.still atom member)),
    both.1 one step.here,
  );
}

-- all atoms are taken
pub atoms_all : (sets : List (List Pair)) (atoms : List JoinAtom) (names : List (List ℕ)) (Now Agree : Type 0) →
    Narrows sets atoms names (Agree × AreMet sets names atoms) Now → Now ↔ (Agree × AreMet sets names atoms)
atoms_all sets atoms names Now Agree narrows = (
  narrows.only,
  (λ both. narrows.all both.1 both),
)

-- an atom that stands at a place
pub at_place : (atoms : List (Bor JoinAtom)) (index : ℕ) (one : Bor JoinAtom) → index < length atoms → one ≡ get_or atoms index one →
    Contains (atoms_at atoms) one.now
at_place atoms index one below is = (mapped (λ (atom : Bor JoinAtom). atom.now) atoms one.now).1 (one, (index, below, sym is), refl)

-- and closes its variables
pub closes_more : (before after : List JoinAtom) (one : JoinAtom) (bound mid more : Bound) → HasOneMore before one after →
    ClosesAll bound before mid → Closes mid one more → ClosesAll bound after more
closes_more before after one bound mid more step so_far closes = record {
  as_many = closes.as_many ∙ so_far.as_many;
  leaves = λ number still.
      let own = closes.leaves number still in
      let others = so_far.leaves number own.0 in (
        others.0,
        λ atom member mentions. ⊎_elim
            (λ there. others.1 atom there mentions)
            (λ here. own.1 (subst (λ (each : JoinAtom). Mentions each number) (sym here) mentions))
            (step.cases atom member),
      );
}

-- ---- one member more of those for which something holds

pub some_more : {A : Type 0} (P : A → Type 0) (before after : List A) (one : A) (Old Mid New : Type 0) → HasOneMore before one after →
    New ↔ (Mid ⊎ P one) → Mid ↔ (Old ⊎ ((each : A) × Contains before each × P each)) → New ↔ (Old ⊎ ((each : A) × Contains after each × P each))
some_more P before after one Old Mid New step now so_far = (
  (λ new. ⊎_elim
      (λ mid. ⊎_elim (λ old. inl old) (λ some. inr (some.0, step.still some.0 some.1, some.2)) (so_far.0 mid))
      (λ here. inr (one, step.here, here))
      (now.0 new)),
  (λ either. now.1 (⊎_elim
      (λ old. inl (so_far.1 (inl old)))
      (λ some. ⊎_elim
      (λ there. inl (so_far.1 (inr (some.0, there, some.2))))
      (λ here. inr (subst P (sym here) some.2))
      (step.cases some.0 some.1))
      either)),
)
