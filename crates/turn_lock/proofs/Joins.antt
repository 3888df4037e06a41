-- A seat that another is joined to keeps the rule, and what is known where all were joined.
use Rattle.std.proofs.Common.{◌≡◌, ◌≢◌, ℕ, ◌+◌, ◌<◌, ◌≤◌, List, [], ◌∷◌, map, length, set, sym, ap}
use Rattle.std.proofs.Common.{◌∙◌, subst, inl, inr, ⊎_elim, arith, length-set}
use Rattle.std.specs.Prelude.{Option, Some}
use Rattle.std.specs.List.{All, Contains}
use Rattle.std.specs.Option.{unwrap_or}
use Rattle.std.proofs.lemmas.List.Elements.{All-nil, All-cons, All-head, All-tail, All-weaker}
use Rattle.std.proofs.lemmas.List.Elements.{All-contains_itself, Contains-append_cases}
use mathlib.Core.Option.{some, some-injective}
use lib.ListN.{get_elem?}
use Rattle.atomic_table.specs.Table.{State, Joins, Final, Seen}
use Rattle.atomic_table.proofs.Lists.{at_set, set_here, set_else}
use Rattle.rpq_base.proofs.Members.{cons_members}
use Rattle.turn_lock.specs.declared.view.PassKnowledge.{PassKnowledge}
use Rattle.turn_lock.specs.declared.view.SeatView.{SeatView}
use Rattle.turn_lock.specs.declared.view.Stage.{Stage}
use Rattle.turn_lock.specs.declared.view.Stage.TheVariants.{Idle}
use Rattle.turn_lock.specs.Passes.{PassValue, AreAll, Knows}
use Rattle.turn_lock.specs.Seats.{known_of}
use Rattle.turn_lock.specs.Turn.{IsLive, IsServed, tickets, spent, in_turn, NobodyServed, IsSo}
use Rattle.turn_lock.specs.Turn.{Fits, IsKept}
use Rattle.turn_lock.specs.Steps.{with_other}
use Rattle.turn_lock.proofs.Views.{in_turn_set, spent_else, nobody_before, idle_unserved, within}
use Rattle.turn_lock.proofs.Deals.{none_among}

among_map : {X Y : Type 0} (f : X → Y) (xs : List X) (x : X) → Contains xs x →
    Contains (map f xs) (f x)
among_map f [] x c = absurd (none_among x c)
among_map f (y ∷ ys) x c = ⊎_elim
    (λ (e : y ≡ x). (cons_members (f y) (map f ys) (f x)).1 (inl (ap f e)))
    (λ (c' : Contains ys x). (cons_members (f y) (map f ys) (f x)).1 (inr (among_map f ys x c')))
    ((cons_members y ys x).0 c)

all_before : {X Y : Type 0} (P : Y → Type 0) (f : X → Y) (xs : List X) → All P (map f xs) →
    All (λ x. P (f x)) xs
all_before P f [] all = All-nil (λ x. P (f x))
all_before P f (x ∷ xs) all = All-cons (λ y. P (f y)) x xs (All-head P (f x) (map f xs) all)
    (all_before P f xs (All-tail P (f x) (map f xs) all))

module _ {T L F : Type 0} (lines : T → List L) (fixed : T → F) (author : L → ℕ) (kept : F)
    (most : ℕ) where
  abbrev St : Type 0
  St = State (Option T) (SeatView L F)

  abbrev Kept : St → Type 0
  Kept s = IsKept lines fixed author kept most s

  pub joins : (id : ℕ) (v : SeatView L F) (other : ℕ) (w : SeatView L F) → v.stage ≡ Idle →
      w.stage ≡ Idle →
      Joins (λ s. Kept s) id v other w (with_other v w) spent
  joins id v other w idle idle' s r at apart there' =
      let both : SeatView L F = with_other v w in
      let first : List (SeatView L F) = set s.views id both in
      let views : List (SeatView L F) = set first other spent in
      let there : get_elem? s.views other ≡ some w = sym (set_else s.views id other both apart)
      ∙ there' in
      let live : IsLive v.stage = subst (λ (st : Stage L). IsLive st) (sym idle) tt in
      let live' : IsLive w.stage = subst (λ (st : Stage L). IsLive st) (sym idle') tt in
      let mine = r.each id v at in
      let theirs = r.each other w there in
      let their = theirs.knows live' in
      let long : length views ≡ length s.views = length-set first other spent
      ∙ length-set s.views id both in
      let here : get_elem? views other ≡ some spent =
      set_here first other spent
      (subst (λ (k : ℕ). other < k) (sym (length-set s.views id both))
      (within s.views other w there)) in
      let still : (k : ℕ) → get_elem? s.views k ≡ some spent → get_elem? views k ≡ some spent
      = λ k gone. set_else first other k spent (spent_else s.views other k w there live' gone)
      ∙ (set_else s.views id k both (spent_else s.views id k v at live gone) ∙ gone) in
      let heard : (b : SeatView L F) (j : ℕ) → get_elem? s.views j ≡ some b →
      (k : PassKnowledge L F) →
      Contains b.heard k → IsSo author kept r.log k × (get_elem? views k.number ≡ some spent)
      = λ b j e k among. let h = (r.each j b e).heard k among in (h.0, still k.number h.1) in
      let d : ℕ = r.drawn in let p : ℕ = r.passed in let c : ℕ = in_turn s.views in
      let c' : ℕ = in_turn first in let c'' : ℕ = in_turn views in
      let t : ℕ = tickets v.stage in let t' : ℕ = tickets w.stage in
      let zero' : t' ≡ 0 = ap (λ (st : Stage L). tickets st) idle' in
      let once : c' + t ≡ c + t = in_turn_set s.views id v both at in
      let twice : c'' + t' ≡ c' + 0 = in_turn_set first other w spent there' in
      let counted : d ≡ p + c = r.counted in
      record {
        log = r.log;
        drawn = d;
        passed = p;
        holder = r.holder;
        maker = r.maker;
        words = r.words;
        counted = let e : d ≡ p + c'' = omega arith in e;
        few = subst (λ (k : ℕ). k ≤ most) (sym long) r.few;
        small = r.small;
        each = λ j u e. ⊎_elim
            (λ (x : (j ≡ other) × (spent ≡ u)). subst
            (λ (u' : SeatView L F). Fits author kept r.log d p r.holder r.maker views j u') x.1
            record {
              stands = tt;
              makes = λ none. absurd (let no : ⊥ = omega arith in
                  no);
              knows = λ dead. absurd dead;
              heard = λ k among. absurd (none_among k among);
            })
            (λ (x : (j ≢ other) × (get_elem? first j ≡ some u)). ⊎_elim
            (λ (y : (j ≡ id) × (both ≡ u)). subst
            (λ (z : ℕ × SeatView L F). Fits author kept r.log d p r.holder r.maker views z.0 z.1)
            (λ k. (sym y.0 k, y.1 k))
            record {
              stands = mine.stands;
              makes = λ none. absurd (let no : ⊥ = omega arith in no);
              knows = mine.knows;
              heard = λ k among. ⊎_elim
                  (λ (own : Contains v.heard k). heard v id at k own)
                  (λ (new : Contains (w.known ∷ w.heard) k). ⊎_elim
                  (λ (same : w.known ≡ k).
                  subst (λ (k' : PassKnowledge L F). IsSo author kept r.log k'
                  × (get_elem? views k'.number ≡ some spent)) same
                  (their.1, ap (λ (n : ℕ). get_elem? views n) their.0 ∙ here))
                  (λ (old : Contains w.heard k). heard w other there k old)
                  ((cons_members w.known w.heard k).0 new))
                  (Contains-append_cases v.heard (w.known ∷ w.heard) k among);
            })
            (λ (y : (j ≢ id) × (get_elem? s.views j ≡ some u)). let o = r.each j u y.1 in
            record {
              stands = o.stands;
              makes = λ some. let m = o.makes some in (m.0, m.1 ∙ sym long);
              knows = o.knows;
              heard = heard u j y.1;
            })
            (at_set s.views id j both u x.1))
            (at_set first other j spent u e);
        home = λ none. r.home (nobody_before s.views id v both at (idle_unserved v.stage idle)
            (nobody_before first other w spent there' (idle_unserved w.stage idle') none));
        authors = subst (λ (k : ℕ). All (λ line. author line < k) r.log) (sym long) r.authors;
      }

  -- once the seats of all passes were joined to one, the value is at home, and what each of them
  -- knew is so
  pub ended : (s : St) (r : Kept s) (id : ℕ) (v : SeatView L F) → get_elem? s.views id ≡ some v →
      v.stage ≡ Idle → (passes : List (PassValue L F)) → map known_of passes ≡ v.known ∷ v.heard →
      AreAll most passes
      → (x : T) × (get_elem? s.homes 0 ≡ some (some (Some x)))
      × All (Knows author (fixed x) (lines x)) passes × All (λ line. author line < most)
      (lines x)
  ended s r id v at idle passes joined all =
      let live : IsLive v.stage = subst (λ (st : Stage L). IsLive st) (sym idle) tt in
      let mine = r.each id v at in
      let own = mine.knows live in
      let n : ℕ = length s.views in
      let few : n ≤ most = r.few in
      let nobody : NobodyServed s.views = λ j u there.
      let below : j < n = within s.views j u there in
      let found = all j (let e : j < most = omega arith in e) in
      let k : PassKnowledge L F = known_of found.0 in
      ⊎_elim
      (λ (same : v.known ≡ k).
      let e : id ≡ j = sym own.0 ∙ ap (λ (k' : PassKnowledge L F). k'.number) same ∙ found.2 in
      subst (λ (u' : SeatView L F). IsServed u'.stage → ⊥)
      (some-injective v u (sym at ∙ ap (λ i. get_elem? s.views i) e ∙ there))
      (idle_unserved v.stage idle))
      (λ (among : Contains v.heard k).
      let gone = (mine.heard k among).1 in
      subst (λ (u' : SeatView L F). IsServed u'.stage → ⊥)
      (some-injective spent u (sym gone ∙ ap (λ i. get_elem? s.views i) found.2 ∙ there))
      (λ no. no))
      ((cons_members v.known v.heard k).0
      (subst (λ (ks : List (PassKnowledge L F)). Contains ks k) joined
      (among_map known_of passes found.0 found.1))) in
      let h = r.home nobody in
      let x : T = h.0 in
      let so : All (λ k. IsSo author kept r.log k) (v.known ∷ v.heard) =
      All-cons (λ k. IsSo author kept r.log k) v.known v.heard own.1
      (All-weaker (Contains v.heard) (λ k. IsSo author kept r.log k)
      (λ k among. (mine.heard k among).0) v.heard (All-contains_itself v.heard)) in
      let so' : All (λ k. IsSo author (fixed x) (lines x) k) (map known_of passes) =
      subst (λ (z : F × List L). All (λ k. IsSo author z.0 z.1 k) (map known_of passes))
      (λ i. (sym h.3 i, sym h.2 i))
      (subst (λ (ks : List (PassKnowledge L F)). All (λ k. IsSo author kept r.log k) ks)
      (sym joined) so) in
      let authors : All (λ line. author line < most) r.log = All-weaker (λ line. author line < n)
      (λ line. author line < most)
      (λ line lt. let a : ℕ = author line in let lt' : a < n = lt in
      let g : a < most = omega arith in g) r.log r.authors in (
        x,
        h.1,
        all_before (λ k. IsSo author (fixed x) (lines x) k) known_of passes so',
        subst (λ (ls : List L). All (λ line. author line < most) ls) (sym h.2) authors,
      )

  -- the same of a table that was closed with the seat
  pub closes : (id : ℕ) (v : SeatView L F) (words : List ℕ) (slots : List (Option T)) →
      Final (Seen (λ s. Kept s) id v) words slots → v.stage ≡ Idle →
      (passes : List (PassValue L F)) → map known_of passes ≡ v.known ∷ v.heard
      → (count : ℕ) → most ≡ count → AreAll count passes → (taken : Option T) →
      get_elem? slots 0 ≡ some taken
      → (x : T) × (taken ≡ Some x) × All (Knows author (fixed x) (lines x)) passes
      × All (λ line. author line < count) (lines x)
  closes id v words slots final idle passes joined count same all taken at =
      let e = ended final.0 final.1.0 id v final.1.1 idle passes joined
      (subst (λ (n : ℕ). AreAll n passes) (sym same) all) in (
        e.0,
        some-injective taken (Some e.0) (sym at ∙ final.4 0 (Some e.0) e.1),
        e.2,
        subst (λ (n : ℕ). All (λ line. author line < n) (lines e.0)) same e.3,
      )

  -- and of the value that was then taken
  pub closed : (passes : List (PassValue L F)) (count : ℕ) (taken : Option T) (value : T) →
      taken ≡ Some value →
      (x : T) × (taken ≡ Some x) × All (Knows author (fixed x) (lines x)) passes
      × All (λ line. author line < count) (lines x)
      → All (Knows author (fixed value) (lines value)) passes × All (λ line. author line < count)
      (lines value)
  closed passes count taken value is end =
      subst (λ (y : T). All (Knows author (fixed y) (lines y)) passes
      × All (λ line. author line < count) (lines y))
      (ap (λ (o : Option T). unwrap_or o value) (sym end.1 ∙ is)) (end.2, end.3)
