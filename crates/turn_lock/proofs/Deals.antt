-- A new table keeps the rule, and so does each seat that is made.
use Rattle.std.proofs.Common.{◌≡◌, ◌≢◌, ◌⊎◌, ℕ, zero, suc, ◌+◌, ◌^◌, ◌<◌, ◌≤◌, List, [], ◌∷◌, ◌++◌}
use Rattle.std.proofs.Common.{length, set, refl, sym, ap, ◌∙◌, subst, inl, inr, ⊎_elim, arith}
use Rattle.std.proofs.Common.{length-set, length-append}
use Rattle.std.specs.Prelude.{Option, Some}
use Rattle.std.specs.List.{All, Contains, slice_index_or}
use Rattle.std.proofs.lemmas.List.Elements.{All-nil, All-weaker}
use mathlib.Core.Option.{some, some-injective, some-ne-none}
use lib.ListN.{get_elem?}
use Rattle.atomic_table.specs.Table.{State, opening, Splits}
use Rattle.atomic_table.proofs.Lists.{at_set, set_else, at_longer}
use Rattle.turn_lock.specs.declared.view.PassKnowledge.{PassKnowledge}
use Rattle.turn_lock.specs.declared.view.SeatView.{SeatView}
use Rattle.turn_lock.specs.declared.view.Stage.{Stage}
use Rattle.turn_lock.specs.declared.view.Stage.TheVariants.{Idle}
use Rattle.turn_lock.specs.Turn.{IsLive, tickets, spent, fresh, in_turn, IsSo, Fits, IsKept}
use Rattle.turn_lock.specs.Steps.{first_part, next_seat}
use Rattle.turn_lock.proofs.Lines.{own_none}
use Rattle.turn_lock.proofs.Views.{in_turn_set, in_turn_push, spent_else, nobody_before}
use Rattle.turn_lock.proofs.Views.{idle_unserved}

pub none_among : {X : Type 0} (x : X) → Contains [] x → ⊥
none_among x c = let k : ℕ = c.0 in let below : k < 0 = c.1 in let e : ⊥ = omega arith in e

at_push : {A : Type 0} (xs : List A) (a b : A) (j : ℕ) → get_elem? (xs ++ a ∷ []) j ≡ some b →
    (get_elem? xs j ≡ some b) ⊎ ((j ≡ length xs) × (a ≡ b))
at_push [] a b zero e = inr (refl, some-injective a b e)
at_push [] a b (suc j) e = absurd (some-ne-none b (sym e))
at_push (x ∷ xs) a b zero e = inl e
at_push (x ∷ xs) a b (suc j) e = ⊎_elim (λ h. inl h) (λ h. inr (ap suc h.0, h.1))
    (at_push xs a b j e)

module _ {T L F : Type 0} (lines : T → List L) (fixed : T → F) (author : L → ℕ) (kept : F)
    (most : ℕ) where
  abbrev St : Type 0
  St = State (Option T) (SeatView L F)

  abbrev Kept : St → Type 0
  Kept s = IsKept lines fixed author kept most s

  -- a new seat knows nothing, which is so
  fresh_fits : (log : List L) (drawn passed : ℕ) (holder : ℕ → ℕ) (views : List (SeatView L F))
      (seat : ℕ) (f : Option F) → f ≡ Some kept → seat + 1 ≡ length views →
      All (λ line. author line < seat) log
      → Fits author kept log drawn passed holder seat views seat (fresh seat (seat + 1) f)
  fresh_fits log drawn passed holder views seat f same long below = record {
    stands = tt;
    makes = λ _. (refl, long);
    knows = λ _. (
      refl,
      record {
        fixed_is = same;
        seen_begins = (log, refl);
        mine_is = own_none author log seat (λ k d here e. let lt = below k d here in
            let a : ℕ = author (slice_index_or log k d) in let lt' : a < seat = lt in
            let e' : a ≡ seat = e in let no : ⊥ = omega arith in no);
      },
    );
    heard = λ k among. absurd (none_among k among);
  }

  pub begins : (x : T) → lines x ≡ [] → fixed x ≡ kept → 0 < most → most < 2 ^ 32 →
      Kept (opening (0 ∷ 0 ∷ []) (Some x ∷ []) (fresh 0 1 (Some kept)))
  begins x none same some_pass small = record {
    log = [];
    drawn = 0;
    passed = 0;
    holder = λ k. 0;
    maker = 0;
    words = refl;
    counted = refl;
    few = let e : 1 ≤ most = omega arith in e;
    small = small;
    each = one;
    home = λ _. (x, refl, none, same);
    authors = All-nil (λ line. author line < 1);
  }
    where
      one : (seat : ℕ) (v : SeatView L F) → get_elem? (fresh 0 1 (Some kept) ∷ []) seat ≡ some v →
          Fits author kept [] 0 0 (λ k. 0) 0 (fresh 0 1 (Some kept) ∷ []) seat v
      one zero v e =
          subst (λ (u : SeatView L F).
          Fits author kept [] 0 0 (λ k. 0) 0 (fresh 0 1 (Some kept) ∷ []) 0 u)
          (some-injective _ _ e)
          (fresh_fits [] 0 0 (λ k. 0) (fresh 0 1 (Some kept) ∷ []) 0 (Some kept) refl refl
          (All-nil (λ line. author line < 0)))
      one (suc seat) v e = absurd (some-ne-none v (sym e))

  pub splits : (id : ℕ) (v : SeatView L F) → v.stage ≡ Idle → 0 < v.made → v.made < most →
      Splits (λ s. Kept s) id v (first_part v) (next_seat v)
  splits id v idle some_made room s r at =
      let w : SeatView L F = first_part v in
      let new : SeatView L F = next_seat v in
      let halves : List (SeatView L F) = set s.views id w in
      let views : List (SeatView L F) = halves ++ new ∷ [] in
      let live : IsLive v.stage = subst (λ (st : Stage L). IsLive st) (sym idle) tt in
      let mine = r.each id v at in
      let own = mine.knows live in
      let makes = mine.makes some_made in
      let n : ℕ = length s.views in let made : ℕ = v.made in
      let same : made ≡ n = makes.1 in
      let halves_long : length halves ≡ n = length-set s.views id w in
      let long : length views ≡ n + 1 = length-append halves (new ∷ [])
      ∙ ap (λ (k : ℕ). k + 1) halves_long in
      let there : (k : ℕ) (u : SeatView L F) → k ≢ id → get_elem? s.views k ≡ some u →
      get_elem? views k ≡ some u
      = λ k u ne e. at_longer halves (new ∷ []) k u (set_else s.views id k w ne ∙ e) in
      let heard : (b : SeatView L F) (j : ℕ) → get_elem? s.views j ≡ some b →
      (k : PassKnowledge L F) →
      Contains b.heard k → IsSo author kept r.log k × (get_elem? views k.number ≡ some spent)
      = λ b j e k among. let h = (r.each j b e).heard k among in
      (h.0, there k.number spent (spent_else s.views id k.number v at live h.1) h.1) in
      let d : ℕ = r.drawn in let p : ℕ = r.passed in let c : ℕ = in_turn s.views in
      let c' : ℕ = in_turn halves in let c'' : ℕ = in_turn views in
      let t : ℕ = tickets v.stage in
      let halved : c' + t ≡ c + t = in_turn_set s.views id v w at in
      let pushed : c'' ≡ c' + 0 = in_turn_push halves new in
      let counted : d ≡ p + c = r.counted in
      record {
        log = r.log;
        drawn = d;
        passed = p;
        holder = r.holder;
        maker = made;
        words = r.words;
        counted = let e : d ≡ p + c'' = omega arith in e;
        few = let e : length views ≤ most = subst (λ (k : ℕ). k ≤ most) (sym long)
            (let g : n + 1 ≤ most = omega arith in g) in e;
        small = r.small;
        each = λ j u e. ⊎_elim
            (λ (e' : get_elem? halves j ≡ some u). ⊎_elim
            (λ (x : (j ≡ id) × (w ≡ u)). subst
            (λ (y : ℕ × SeatView L F). Fits author kept r.log d p r.holder made views y.0 y.1)
            (λ k. (sym x.0 k, x.1 k))
            record {
              stands = mine.stands;
              makes = λ none. absurd (let no : ⊥ = omega arith in no);
              knows = mine.knows;
              heard = heard v id at;
            })
            (λ (x : (j ≢ id) × (get_elem? s.views j ≡ some u)). let o = r.each j u x.1 in
            record {
              stands = o.stands;
              makes = λ some. absurd (x.0 ((o.makes some).0 ∙ sym makes.0));
              knows = o.knows;
              heard = heard u j x.1;
            })
            (at_set s.views id j w u e'))
            (λ (x : (j ≡ length halves) × (new ≡ u)). subst
            (λ (y : ℕ × SeatView L F). Fits author kept r.log d p r.holder made views y.0 y.1)
            (λ k. (sym (x.0 ∙ halves_long ∙ sym same) k, x.1 k))
            (fresh_fits r.log d p r.holder views made v.known.fixed own.1.fixed_is
            (let l : ℕ = length views in let l' : l ≡ n + 1 = long in
            let g : made + 1 ≡ l = omega arith in g)
            (subst (λ (k : ℕ). All (λ line. author line < k) r.log) (sym same) r.authors)))
            (at_push halves new u j e);
        home = λ none. r.home (nobody_before s.views id v w at (idle_unserved v.stage idle)
            (λ j u e. none j u (at_longer halves (new ∷ []) j u e)));
        authors = All-weaker (λ line. author line < n) (λ line. author line < length views)
            (λ line lt. let a : ℕ = author line in let lt' : a < n = lt in
            subst (λ (k : ℕ). a < k) (sym long) (let g : a < n + 1 = omega arith in g)) r.log
            r.authors;
      }

  pub begins_as : (x : T) (slots : List (Option T)) → slots ≡ Some x ∷ [] → lines x ≡ [] →
      fixed x ≡ kept → 0 < most → most < 2 ^ 32 →
      Kept (opening (0 ∷ 0 ∷ []) slots (fresh 0 1 (Some kept)))
  begins_as x slots is none same some_pass small =
      subst (λ (xs : List (Option T)). Kept (opening (0 ∷ 0 ∷ []) xs (fresh 0 1 (Some kept))))
      (sym is) (begins x none same some_pass small)
