-- The seats that are in turn, and how one seat's step leaves the others.
use Rattle.std.proofs.Common.{◌≡◌, ◌≢◌, ℕ, zero, suc, ◌+◌, ◌<◌, ◌≤◌, List, [], ◌∷◌, ◌++◌, length}
use Rattle.std.proofs.Common.{set, sym, ap, ◌∙◌, subst, arith}
use mathlib.Core.Option.{some, some-injective, some-ne-none}
use mathlib.Core.Logic.{dite}
use native.Mathlib.Decide.{ℕ_discrete}
use lib.ListN.{get_elem?}
use Rattle.atomic_table.proofs.Lists.{set_else}
use Rattle.turn_lock.specs.declared.view.SeatView.{SeatView}
use Rattle.turn_lock.specs.declared.view.Stage.{Stage}
use Rattle.turn_lock.specs.declared.view.Stage.TheVariants.{Spent, Idle, Waits, Served}
use Rattle.turn_lock.specs.Turn.{IsLive, IsServed, tickets, spent, in_turn, NobodyServed, Stands}

module _ {L : Type 0} where
  at_most_one : (st : Stage L) → tickets st ≤ 1
  at_most_one Spent = omega arith
  at_most_one Idle = omega arith
  at_most_one (Waits k) = omega arith
  at_most_one (Served k found) = omega arith

  -- only the seat that has the ticket being served may be served
  pub other_unserved : (log : List L) (drawn passed : ℕ) (holder : ℕ → ℕ) (i j : ℕ) (st : Stage L) →
      holder passed ≡ i → j ≢ i → Stands log drawn passed holder j st → IsServed st → ⊥
  other_unserved log drawn passed holder i j Spent mine other stands served = served
  other_unserved log drawn passed holder i j Idle mine other stands served = served
  other_unserved log drawn passed holder i j (Waits k) mine other stands served = served
  other_unserved log drawn passed holder i j (Served k found) mine other stands served =
      other (sym stands.2 ∙ ap holder stands.0 ∙ mine)

  pub waits_unserved : (st : Stage L) (k : ℕ) → st ≡ Waits k → IsServed st → ⊥
  waits_unserved st k is = subst (λ (s : Stage L). IsServed s → ⊥) (sym is) (λ s. s)

  pub idle_unserved : (st : Stage L) → st ≡ Idle → IsServed st → ⊥
  idle_unserved st is = subst (λ (s : Stage L). IsServed s → ⊥) (sym is) (λ s. s)

module _ {L F : Type 0} where
  pub in_turn_set : (vs : List (SeatView L F)) (i : ℕ) (v w : SeatView L F) →
      get_elem? vs i ≡ some v →
      in_turn (set vs i w) + tickets v.stage ≡ in_turn vs + tickets w.stage
  in_turn_set [] i v w at = absurd (some-ne-none v (sym at))
  in_turn_set (x ∷ xs) zero v w at =
      let same : tickets x.stage ≡ tickets v.stage = ap (λ (u : SeatView L F). tickets u.stage)
      (some-injective x v at) in
      let a : ℕ = tickets x.stage in let b : ℕ = tickets v.stage in let c : ℕ = tickets w.stage in
      let rest : ℕ = in_turn xs in let e : a ≡ b = same in
      let goal : c + rest + b ≡ a + rest + c = omega arith in goal
  in_turn_set (x ∷ xs) (suc i) v w at =
      let h = in_turn_set xs i v w at in
      let a : ℕ = tickets x.stage in let b : ℕ = tickets v.stage in let c : ℕ = tickets w.stage in
      let old : ℕ = in_turn xs in let new : ℕ = in_turn (set xs i w) in
      let e : new + b ≡ old + c = h in let goal : a + new + b ≡ a + old + c = omega arith in goal

  pub in_turn_push : (vs : List (SeatView L F)) (w : SeatView L F) →
      in_turn (vs ++ w ∷ []) ≡ in_turn vs + tickets w.stage
  in_turn_push [] w = let c : ℕ = tickets w.stage in let goal : c + 0 ≡ 0 + c = omega arith in goal
  in_turn_push (x ∷ xs) w = let h = in_turn_push xs w in let a : ℕ = tickets x.stage in
      let c : ℕ = tickets w.stage in let old : ℕ = in_turn xs in
      let new : ℕ = in_turn (xs ++ w ∷ []) in
      let e : new ≡ old + c = h in let goal : a + new ≡ a + old + c = omega arith in goal

  -- each seat has one ticket at most
  pub in_turn_few : (vs : List (SeatView L F)) → in_turn vs ≤ length vs
  in_turn_few [] = omega arith
  in_turn_few (x ∷ xs) = let h = in_turn_few xs in let a : ℕ = tickets x.stage in
      let n : ℕ = in_turn xs in let m : ℕ = length xs in let one : a ≤ 1 = at_most_one x.stage in
      let e : n ≤ m = h in let goal : a + n ≤ suc m = omega arith in goal

  -- a seat that was joined isn't one that lives
  pub spent_else : (vs : List (SeatView L F)) (i k : ℕ) (v : SeatView L F) →
      get_elem? vs i ≡ some v →
      IsLive v.stage → get_elem? vs k ≡ some spent → k ≢ i
  spent_else vs i k v at live gone e =
      let same : v ≡ spent =
      some-injective v spent (sym at ∙ ap (λ j. get_elem? vs j) (sym e) ∙ gone) in
      subst (λ (u : SeatView L F). IsLive u.stage) same live

  -- nobody was served before a step of a seat that wasn't
  pub nobody_before : (vs : List (SeatView L F)) (i : ℕ) (v w : SeatView L F) →
      get_elem? vs i ≡ some v →
      (IsServed v.stage → ⊥) → NobodyServed (set vs i w) → NobodyServed vs
  nobody_before vs i v w at mine none j u there = dite (ℕ_discrete j i)
      (λ e. subst (λ (x : SeatView L F). IsServed x.stage → ⊥)
      (some-injective v u (sym at ∙ ap (λ k. get_elem? vs k) (sym e) ∙ there)) mine)
      (λ ne. none j u (set_else vs i j w ne ∙ there))

pub within : {A : Type 0} → (xs : List A) (i : ℕ) (a : A) → get_elem? xs i ≡ some a → i < length xs
within [] i a at = absurd (some-ne-none a (sym at))
within (x ∷ xs) zero a at = omega arith
within (x ∷ xs) (suc i) a at = let h = within xs i a at in let n : ℕ = length xs in
    let e : i < n = h in let goal : suc i < suc n = omega arith in goal
