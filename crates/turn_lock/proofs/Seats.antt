-- What a pass tells of its seat.
use Rattle.std.proofs.Common.{◌≡◌, ℕ, ◌+◌, List, [], ◌∷◌, ◌++◌, map, refl, sym, ap, ◌∙◌, arith}
use Rattle.std.proofs.lemmas.List.FromFn.{map-range_with_len_more}
use Rattle.std.specs.Prelude.{Option, Some, None}
use Rattle.std.specs.Option.{unwrap_or}
use Rattle.turn_lock.specs.declared.view.Stage.{Stage}
use Rattle.turn_lock.specs.declared.view.Stage.TheVariants.{Spent, Idle, Waits, Served}
use Rattle.turn_lock.specs.Seats.{found_of, pass_of, known_of, IsBetweenSteps}
use Rattle.turn_lock.specs.declared.view.PassKnowledge.{PassKnowledge}
use Rattle.turn_lock.specs.declared.view.SeatView.{SeatView}
use Rattle.turn_lock.specs.Passes.{TableId, PassValue, newcomer, newcomers}
use Rattle.turn_lock.specs.Turn.{fresh}

module _ {T L : Type 0} (held : List (ℕ × Option T)) where
  pub at_rest : (st : Stage L) → found_of st ≡ None → IsBetweenSteps st held →
      (st ≡ Idle) × (held ≡ [])
  at_rest Spent none between = absurd between
  at_rest Idle none between = (refl, between)
  at_rest (Waits k) none between = absurd between
  at_rest (Served k found) none between = absurd cc

  pub in_turn : (st : Stage L) (found : List L) → found_of st ≡ Some found →
      IsBetweenSteps st held → (ticket : ℕ) × (st ≡ Served ticket found) × (held ≡ (0, None) ∷ [])
  in_turn Spent found some between = absurd between
  in_turn Idle found some between = absurd cc
  in_turn (Waits k) found some between = absurd between
  in_turn (Served k found') found some between =
      (k, ap (λ ls. Served k ls) (ap (λ (o : Option (List L)). unwrap_or o found) some), between)

-- one pass more
pub one_more : {L F : Type 0} (id : TableId) (fixed : F) (n m : ℕ) (dealt : List (PassValue L F))
    (pass : PassValue L F) → dealt ≡ newcomers id fixed n → pass ≡ newcomer id fixed n → m ≡ n + 1 →
    dealt ++ pass ∷ [] ≡ newcomers id fixed m
one_more id fixed n m dealt pass same is more =
    ap (λ ps. ps ++ pass ∷ []) same ∙ ap (λ p. newcomers id fixed n ++ p ∷ []) is
    ∙ sym (map-range_with_len_more (newcomer id fixed) 0 n n (omega arith))
    ∙ ap (newcomers id fixed) (sym more)

-- the pass of a seat that is new, but for the right to make others
pub newcomer_is : {L F : Type 0} (id id' : TableId) (v : SeatView L F) (n m : ℕ) (f : Option F)
    (fixed : F) → id ≡ id' → v ≡ fresh n m f → f ≡ Some fixed → pass_of id v ≡ newcomer id' fixed n
newcomer_is id id' v n m f fixed same is known = ap (λ i. pass_of i v) same ∙ ap (pass_of id') is
    ∙ ap (λ o. pass_of id' (fresh n m o)) known

append_between : {X : Type 0} (xs : List X) (y : X) (ys : List X) →
    xs ++ y ∷ ys ≡ (xs ++ y ∷ []) ++ ys
append_between [] y ys = refl
append_between (x ∷ xs) y ys = ap (λ zs. x ∷ zs) (append_between xs y ys)

-- the first of the passes is the seat that the others are joined to
pub joined_first : {L F : Type 0} (id : TableId) (v : SeatView L F) (all : List (PassValue L F))
    (first : PassValue L F) (others : List (PassValue L F)) → all ≡ first ∷ others →
    pass_of id v ≡ first → v.heard ≡ []
    → map known_of all ≡ v.known ∷ (v.heard ++ map known_of others)
joined_first id v all first others is same none =
    ap (map known_of) is ∙ ap (λ p. known_of p ∷ map known_of others) (sym same)
    ∙ ap (λ ks. v.known ∷ (ks ++ map known_of others)) (sym none)

-- one pass more is joined
pub joined_more : {L F : Type 0} (id : TableId) (known : PassKnowledge L F)
    (heard : List (PassKnowledge L F))
    (w : SeatView L F) (items : List (PassValue L F)) (next : PassValue L F)
    (others : List (PassValue L F)) → items ≡ next ∷ others → pass_of id w ≡ next
    → w.heard ≡ [] →
    known ∷ (heard ++ map known_of items) ≡ known ∷
    ((heard ++ w.known ∷ w.heard) ++ map known_of others)
joined_more id known heard w items next others is same none =
    ap (λ ks. known ∷ ks)
    (ap (λ ps. heard ++ map known_of ps) is ∙ ap (λ p. heard ++ known_of p ∷ map known_of others)
    (sym same) ∙ append_between heard w.known (map known_of others)
    ∙ ap (λ ks. (heard ++ w.known ∷ ks) ++ map known_of others) (sym none))
