-- Whether a change of bindings is, for families of lists of pairs.
use Rattle.std.proofs.Common.{◌≡◌, ℕ, Bool, true, false, List, [], ◌∷◌, length, Option, Some, None}
use Rattle.std.proofs.Common.{refl, sym, subst, ◌∙◌, ◌⊎◌, inl, inr, ⊎_elim}
use Rattle.std.specs.Prelude.{◌↔◌, Contains, slice_get}
use Rattle.std.proofs.lemmas.Bool.{false≢true, cases_eq}
use Rattle.std.proofs.lemmas.Option.{none-some, same_Some}
use Rattle.rpq_base.specs.declared.data.Pair.{Pair}
use Rattle.rpq_base.proofs.Members.{cons_members, none_in}
use Rattle.join_file.specs.declared.data.JoinAtom.{JoinAtom}
use Rattle.join_bindings.specs.declared.event.JoinEvent.{JoinEvent}
use Rattle.join_file.specs.Joins.{JoinValue}
use Rattle.join_bindings.specs.Bindings.{Family, value_of, IsPairOf, IsMet, IsBinding}
use Rattle.join_bindings.specs.Events.{IsLost, IsJoinChange}
use Rattle.join_bindings.proofs.Losing.{there_or_not, one_pair}

-- it holds or it doesn't
abbrev pub IsDecided : Type 0 → Type 0
IsDecided P = P ⊎ (P → ⊥)

-- ---- bindings

-- an atom is met or isn't
met_decided : (pairs : Family) (names : List (List ℕ)) (atom : JoinAtom) →
    IsDecided (IsMet pairs names atom)
met_decided pairs names atom = by (value_of names atom.from) refl (value_of names atom.to) refl
  where
    by : (from : Option (List ℕ)) → value_of names atom.from ≡ from → (to : Option (List ℕ)) →
        value_of names atom.to ≡ to → IsDecided (IsMet pairs names atom)
    by (Some from) from_is (Some to) to_is =
        let pair : Pair = record { from = from; to = to } in
        let has : IsPairOf names atom pair = record { from = from_is; to = to_is } in
        ⊎_elim
        (λ there. inl (pair, has, there))
        (λ lacks. inr (λ met. lacks (subst (Contains (pairs atom.query))
        (one_pair names atom met.0 pair met.1 has) met.2)))
        (there_or_not (pairs atom.query) pair)
    by (Some from) from_is None to_is =
        inr (λ met. none-some met.0.to (sym to_is ∙ met.1.to))
    by None from_is to to_is = inr (λ met. none-some met.0.from (sym from_is ∙ met.1.from))

all_met_decided : (atoms : List JoinAtom) (pairs : Family) (names : List (List ℕ)) →
    IsDecided ((atom : JoinAtom) → Contains atoms atom → IsMet pairs names atom)
all_met_decided [] pairs names = inl (λ atom member. absurd (none_in atom member))
all_met_decided (first ∷ atoms) pairs names = ⊎_elim
    (λ own. ⊎_elim
    (λ all. inl (λ atom member. ⊎_elim
    (λ here. subst (IsMet pairs names) here own)
    (λ later. all atom later)
    ((cons_members first atoms atom).0 member)))
    (λ unmet. inr (λ all. unmet
    (λ atom member. all atom ((cons_members first atoms atom).1 (inr member)))))
    (all_met_decided atoms pairs names))
    (λ unmet. inr (λ all. unmet (all first ((cons_members first atoms first).1 (inl refl)))))
    (met_decided pairs names first)

binding_decided : (join : JoinValue) (pairs : Family) (names : List (List ℕ)) →
    IsDecided (IsBinding join pairs names)
binding_decided join pairs names = ⊎_elim
    (λ many. ⊎_elim
    (λ all. inl (record { as_many = many; met = all }))
    (λ unmet. inr (λ binding. unmet binding.met))
    (all_met_decided join.atoms pairs names))
    (λ differ. inr (λ binding. differ binding.as_many))
    (cases_eq (length names) join.variables)

-- ---- changes

lost_decided : (join : JoinValue) (before after : Family) (names : List (List ℕ)) →
    IsDecided (IsLost join before after names)
lost_decided join before after names = ⊎_elim
    (λ was. ⊎_elim
    (λ still. inr (λ lost. lost.gone still))
    (λ gone. inl (record { was = was; gone = gone }))
    (binding_decided join after names))
    (λ never. inr (λ lost. never lost.was))
    (binding_decided join before names)

change_decided : (join : JoinValue) (before after : Family) (each : JoinEvent) →
    IsDecided (IsJoinChange join before after each)
change_decided join before after each = by each.added refl
  where
    by : (added : Bool) → each.added ≡ added → IsDecided (IsJoinChange join before after each)
    by false is = ⊎_elim
        (λ lost. inl (inl (is, lost)))
        (λ none. inr (λ change. ⊎_elim
        (λ lost. none lost.1)
        (λ gained. false≢true (sym is ∙ gained.0))
        change))
        (lost_decided join before after each.binding)
    by true is = ⊎_elim
        (λ gained. inl (inr (is, gained)))
        (λ none. inr (λ change. ⊎_elim
        (λ lost. false≢true (sym lost.0 ∙ is))
        (λ gained. none gained.1)
        change))
        (lost_decided join after before each.binding)

-- the event is a change of the bindings of one of these joins
abbrev pub IsTold : List JoinValue → Family → Family → JoinEvent → Type 0
IsTold joins before after each = (join : JoinValue)
    × (slice_get joins each.join ≡ Some join) × IsJoinChange join before after each

pub told_decided : (joins : List JoinValue) (before after : Family) (each : JoinEvent) →
    IsDecided (IsTold joins before after each)
told_decided joins before after each = by (slice_get joins each.join) refl
  where
    by : (found : Option JoinValue) → slice_get joins each.join ≡ found →
        IsDecided (IsTold joins before after each)
    by None is = inr (λ told. none-some told.0 (sym is ∙ told.1))
    by (Some join) is = ⊎_elim
        (λ change. inl (join, is, change))
        (λ none. inr (λ told. none (subst (λ (one : JoinValue). IsJoinChange one before after each)
        (same_Some told.0 join (sym told.1 ∙ is)) told.2)))
        (change_decided join before after each)

-- ---- elements for which something holds that is decided

pub chosen : {X : Type 0} (P : X → Type 0) → ((x : X) → IsDecided (P x)) → (xs : List X) →
    (found : List X) × ((x : X) → Contains found x ↔ (Contains xs x × P x))
chosen P decided [] = ([], λ x. ((λ member. absurd (none_in x member)), (λ both. both.0)))
chosen P decided (first ∷ xs) =
    let rest = chosen P decided xs in
    ⊎_elim
    (λ holds. (
      first ∷ rest.0,
      λ x. (
        (λ member. ⊎_elim
            (λ here. ((cons_members first xs x).1 (inl here), subst P here holds))
            (λ later.
            let both = (rest.1 x).0 later in ((cons_members first xs x).1 (inr both.0), both.1))
            ((cons_members first rest.0 x).0 member)),
        (λ both. (cons_members first rest.0 x).1 (⊎_elim
            (λ here. inl here)
            (λ later. inr ((rest.1 x).1 (later, both.1)))
            ((cons_members first xs x).0 both.0))),
      ),
    ))
    (λ fails. (
      rest.0,
      λ x. (
        (λ member.
            let both = (rest.1 x).0 member in ((cons_members first xs x).1 (inr both.0), both.1)),
        (λ both. ⊎_elim
            (λ here. absurd (fails (subst P (sym here) both.1)))
            (λ later. (rest.1 x).1 (later, both.1))
            ((cons_members first xs x).0 both.0)),
      ),
    ))
    (decided first)
