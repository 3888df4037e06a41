-- The order in which atoms are taken.
use Rattle.std.proofs.Common.{◌≡◌, ℕ, zero, suc, ◌<◌, ◌≤◌, ◌||◌, Bool, false, List, [], ◌∷◌, ◌++◌, Bor, length, get_or, take, drop, refl, sym, ap, subst, ◌∙◌, ◌⊎◌, inl, inr, ⊎_elim, arith}
use Rattle.std.specs.Prelude.{◌↔◌, Contains}
use Rattle.std.specs.List.{list_any}
use Rattle.std.proofs.lemmas.List.{append_assoc, append-nil, get_or_default}
use Rattle.std.proofs.lemmas.List.Elements.{Contains-append_left, Contains-append_right, Contains-append_cases}
use Rattle.rpq_base.proofs.Members.{none_in, cons_members}
use Rattle.join_file.specs.declared.data.Term.{Term}
use Rattle.join_file.specs.declared.data.Term.TheVariants.{Variable}
use Rattle.join_file.specs.declared.data.JoinAtom.{JoinAtom}
use Rattle.join_bindings.specs.Partial.{atoms_at}
use Rattle.join_bindings.specs.Turn.{mentions, is_known, open_ends, IsNext, AreInTurn}
use Rattle.join_file.proofs.Mapping.{mapped}

-- ---- what is known

pub any_at : (number : ℕ) (plan : List (Bor JoinAtom)) →
    list_any (λ (atom : Bor JoinAtom). mentions number atom.now) plan ≡ list_any (mentions number) (atoms_at plan)
any_at number [] = refl
any_at number (first ∷ plan) = ap (λ (later : Bool). mentions number first.now || later) (any_at number plan)

pub variable_known : (first : JoinAtom) (plan : List (Bor JoinAtom)) (number : ℕ) (term : Term) (found : Bool) → term ≡ Variable number →
    mentions number first ≡ false → found ≡ list_any (λ (atom : Bor JoinAtom). mentions number atom.now) plan →
    found ≡ is_known (first ∷ atoms_at plan) term
variable_known first plan number term found is none e =
    subst (λ (each : Term). found ≡ is_known (first ∷ atoms_at plan) each) (sym is)
    (e ∙ any_at number plan ∙ sym (ap (λ (test : Bool). test || list_any (mentions number) (atoms_at plan)) none))

-- ---- the best of those that are left

-- it has no more open ends than those before a place
abbrev pub LeastBefore : List JoinAtom → List (Bor JoinAtom) → ℕ → ℕ → Type 0
LeastBefore taken left best place = (other : ℕ) (d : Bor JoinAtom) → other < place →
    open_ends taken (get_or left best d).now ≤ open_ends taken (get_or left other d).now

pub is_next : (taken : List JoinAtom) (left : List (Bor JoinAtom)) (best place : ℕ) → length left ≤ place → best < length left →
    LeastBefore taken left best place → (atom : Bor JoinAtom) → get_or left best atom ≡ atom → IsNext taken atom.now (atoms_at left)
is_next taken left best place all within least atom is other member =
    let from = (mapped (λ (each : Bor JoinAtom). each.now) left other).0 member in
    let at = from.1.0 in
    let below = from.1.1 in
    let here : get_or left best from.0 ≡ atom = get_or_default left best from.0 atom within ∙ is in
    subst (λ (each : JoinAtom). open_ends taken atom.now ≤ open_ends taken each) from.2
    (subst (λ (each : Bor JoinAtom). open_ends taken atom.now ≤ open_ends taken each.now) from.1.2
    (subst (λ (each : Bor JoinAtom). open_ends taken each.now ≤ open_ends taken (get_or left at from.0).now) here
    (least at from.0 (omega (arith, all, below)))))

-- ---- one atom more

-- the members of a list are those that are left and the one that is taken out
pub removed_members : {X : Type 0} (xs : List X) (place : ℕ) (x : X) → place < length xs → get_or xs place x ≡ x → (y : X) →
    Contains xs y ↔ (Contains (take place xs ++ drop (suc place) xs) y ⊎ (x ≡ y))
removed_members [] place x below is y = absurd (omega (arith, below))
removed_members (first ∷ xs) zero x below is y = (
  (λ member. ⊎_elim (λ here. inr (sym is ∙ here)) (λ there. inl there) ((cons_members first xs y).0 member)),
  (λ either. (cons_members first xs y).1 (⊎_elim (λ there. inr there) (λ here. inl (is ∙ here)) either)),
)
removed_members (first ∷ xs) (suc place) x below is y =
    let later = removed_members xs place x (omega (arith, below)) is y in
    let rest = take place xs ++ drop (suc place) xs in (
      (λ member. ⊎_elim
          (λ here. inl ((cons_members first rest y).1 (inl here)))
          (λ there. ⊎_elim (λ left. inl ((cons_members first rest y).1 (inr left))) (λ taken. inr taken) (later.0 there))
          ((cons_members first xs y).0 member)),
      (λ either. (cons_members first xs y).1 (⊎_elim
          (λ left. ⊎_elim (λ here. inl here) (λ there. inr (later.1 (inl there))) ((cons_members first rest y).0 left))
          (λ taken. inr (later.1 (inr taken)))
          either)),
    )

-- the same for the atoms behind references
pub left_atoms : (left rest : List (Bor JoinAtom)) (place : ℕ) (atom : Bor JoinAtom) → place < length left → get_or left place atom ≡ atom →
    rest ≡ take place left ++ drop (suc place) left → (other : JoinAtom) →
    Contains (atoms_at left) other ↔ (Contains (atoms_at rest) other ⊎ (atom.now ≡ other))
left_atoms left rest place atom below is rest_is other =
    let before = mapped (λ (each : Bor JoinAtom). each.now) left other in
    let after = mapped (λ (each : Bor JoinAtom). each.now) rest other in
    let split = λ (each : Bor JoinAtom). subst (λ (list : List (Bor JoinAtom)). Contains left each ↔ (Contains list each ⊎ (atom ≡ each))) (sym rest_is)
    (removed_members left place atom below is each) in (
      (λ member.
          let from = before.0 member in
          ⊎_elim
          (λ there. inl (after.1 (from.0, there, from.2)))
          (λ here. inr (ap (λ (each : Bor JoinAtom). each.now) here ∙ from.2))
          ((split from.0).0 from.1)),
      (λ either. ⊎_elim
          (λ there.
          let from = after.0 there in
          before.1 (from.0, (split from.0).1 (inl from.1), from.2))
          (λ here. before.1 (atom, (split atom).1 (inr refl), here))
          either),
    )

-- the next atom behind the plan
pub turn_more : (plan taken left rest : List JoinAtom) (atom : JoinAtom) → AreInTurn taken plan left → IsNext (taken ++ plan) atom left →
    ((other : JoinAtom) → Contains rest other → Contains left other) → Contains left atom → AreInTurn taken (plan ++ atom ∷ []) rest
turn_more [] taken left rest atom turn next fewer member = (
  (λ other among. subst (λ (list : List JoinAtom). open_ends list atom ≤ open_ends list other) (append-nil taken) (next other (fewer other among))),
  tt,
)
turn_more (first ∷ plan) taken left rest atom turn next fewer member = (
  (λ other among. turn.0 other (⊎_elim
      (λ early. ⊎_elim
      (λ old. Contains-append_left plan left other old)
      (λ last. ⊎_elim
      (λ here. Contains-append_right plan left other (subst (Contains left) here member))
      (λ none. absurd (none_in other none))
      ((cons_members atom [] other).0 last))
      (Contains-append_cases plan (atom ∷ []) other early))
      (λ late. Contains-append_right plan left other (fewer other late))
      (Contains-append_cases (plan ++ atom ∷ []) rest other among))),
  turn_more plan (taken ++ first ∷ []) left rest atom turn.1
      (subst (λ (list : List JoinAtom). IsNext list atom left) (sym (append_assoc taken (first ∷ []) plan)) next) fewer member,
)

pub atoms_pushed : (plan : List (Bor JoinAtom)) (atom : Bor JoinAtom) → atoms_at (plan ++ atom ∷ []) ≡ atoms_at plan ++ atom.now ∷ []
atoms_pushed [] atom = refl
atoms_pushed (first ∷ plan) atom = ap (λ (list : List JoinAtom). first.now ∷ list) (atoms_pushed plan atom)

-- the plan and what is left have the same members once an atom goes from one to the other
pub more_members : (plan left rest : List JoinAtom) (atom other : JoinAtom) (All : Type 0) →
    Contains left other ↔ (Contains rest other ⊎ (atom ≡ other)) → (Contains plan other ⊎ Contains left other) ↔ All →
    (Contains (plan ++ atom ∷ []) other ⊎ Contains rest other) ↔ All
more_members plan left rest atom other All split was = (
  (λ either. was.0 (⊎_elim
      (λ early. ⊎_elim
      (λ old. inl old)
      (λ last. inr (split.1 (inr (⊎_elim (λ here. here) (λ none. absurd (none_in other none)) ((cons_members atom [] other).0 last)))))
      (Contains-append_cases plan (atom ∷ []) other early))
      (λ late. inr (split.1 (inl late)))
      either)),
  (λ all. ⊎_elim
      (λ old. inl (Contains-append_left plan (atom ∷ []) other old))
      (λ there. ⊎_elim
      (λ late. inr late)
      (λ here. inl (Contains-append_right plan (atom ∷ []) other ((cons_members atom [] other).1 (inl here))))
      (split.0 there))
      (was.1 all)),
)
