-- Each step of a seat keeps the rule, and tells what `specs/Steps` says.
use Rattle.std.proofs.Common.{◌≡◌, ◌≢◌, ℕ, ◌+◌, ◌^◌, ◌%◌, ◌<◌, ◌≤◌, eqb, cond, List, [], ◌∷◌, ◌++◌}
use Rattle.std.proofs.Common.{length, set, drop, refl, sym, ap, ◌∙◌, subst, ⊎_elim, arith}
use Rattle.std.proofs.Common.{length-set, eq-eqb, ne_eqb}
use Rattle.std.specs.Prelude.{Option, Some}
use Rattle.std.specs.List.{All, Contains, slice_index}
use Rattle.std.specs.Option.{unwrap_or}
use Rattle.std.proofs.lemmas.List.{append-nil}
use Rattle.std.proofs.lemmas.List.Elements.{All-append, All-nil, All-weaker}
use mathlib.Core.Option.{some, none, some-injective}
use mathlib.Core.Logic.{dite}
use native.Mathlib.Decide.{ℕ_discrete}
use lib.ListN.{get_elem?}
use Rattle.atomic_table.specs.Table.{State, Me, Act, keeps, takes, gives, homes_after}
use Rattle.atomic_table.specs.Table.{carried_after, Valid, Allows}
use Rattle.atomic_table.proofs.Lists.{at_set, set_here, set_else, set_again, one_turn}
use Rattle.turn_lock.specs.declared.view.PassKnowledge.{PassKnowledge}
use Rattle.turn_lock.specs.declared.view.SeatView.{SeatView}
use Rattle.turn_lock.specs.declared.view.Stage.{Stage}
use Rattle.turn_lock.specs.declared.view.Stage.TheVariants.{Spent, Idle, Waits, Served}
use Rattle.turn_lock.specs.Lines.{Adds, Agrees}
use Rattle.turn_lock.specs.Turn.{IsLive, IsServed, tickets, spent, in_turn, NobodyServed, Stands}
use Rattle.turn_lock.specs.Turn.{IsSo, Fits, IsKept}
use Rattle.turn_lock.specs.Steps.{staged, returned, Draws, LooksAt, GivesBack}
use Rattle.turn_lock.proofs.Lines.{agrees_more, agrees_learned}
use Rattle.turn_lock.proofs.Views.{in_turn_set, in_turn_few, spent_else, nobody_before}
use Rattle.turn_lock.proofs.Views.{other_unserved, waits_unserved, idle_unserved, within}

module _ {T L F : Type 0} (lines : T → List L) (fixed : T → F) (author : L → ℕ) (kept : F)
    (most : ℕ) where
  abbrev St : Type 0
  St = State (Option T) (SeatView L F)

  abbrev Kept : St → Type 0
  Kept s = IsKept lines fixed author kept most s

  -- how a live seat's view may change, so that each seat still fits
  turned : (s : St) (r : Kept s) (i : ℕ) (v : SeatView L F) → get_elem? s.views i ≡ some v →
      IsLive v.stage
      → (st : Stage L) (known : PassKnowledge L F) (added : List L) (drawn passed : ℕ)
      (holder : ℕ → ℕ)
      → All (λ line. author line ≡ i) added
      → (known.number ≡ i) × IsSo author kept (r.log ++ added) known
      → Stands (r.log ++ added) drawn passed holder i st
      → ((j : ℕ) (st' : Stage L) → j ≢ i → Stands r.log r.drawn r.passed r.holder j st' →
      Stands (r.log ++ added) drawn passed holder j st')
      → (j : ℕ) (u : SeatView L F) →
      get_elem? (set s.views i record {
        stage = st;
        made = v.made;
        known = known;
        heard = v.heard;
      }) j ≡ some u
      → Fits author kept (r.log ++ added) drawn passed holder r.maker
      (set s.views i record { stage = st; made = v.made; known = known; heard = v.heard }) j u
  turned s r i v at live st known added drawn passed holder all knows stands others j u there =
      let w : SeatView L F = record { stage = st; made = v.made; known = known; heard = v.heard } in
      let views : List (SeatView L F) = set s.views i w in
      let long : length views ≡ length s.views = length-set s.views i w in
      let so : (k : PassKnowledge L F) → k.number ≢ i → IsSo author kept r.log k →
      IsSo author kept (r.log ++ added) k
      = λ k ne a. agrees_more author kept r.log added i k.number k.seen k.mine k.fixed all ne a in
      let heard : (b : SeatView L F) (n : ℕ) → get_elem? s.views n ≡ some b →
      (k : PassKnowledge L F) →
      Contains b.heard k →
      IsSo author kept (r.log ++ added) k × (get_elem? views k.number ≡ some spent)
      = λ b n there' k among. let h = (r.each n b there').heard k among in
      let ne = spent_else s.views i k.number v at live h.1 in
      (so k ne h.0, set_else s.views i k.number w ne ∙ h.1) in
      ⊎_elim
      (λ (x : (j ≡ i) × (w ≡ u)). subst
      (λ (y : ℕ × SeatView L F). Fits author kept (r.log ++ added) drawn passed holder r.maker views
      y.0 y.1) (λ n. (sym x.0 n, x.1 n))
      record {
        stands = stands;
        makes = λ some_made. let m = (r.each i v at).makes some_made in (m.0, m.1 ∙ sym long);
        knows = λ _. knows;
        heard = heard v i at;
      })
      (λ (x : (j ≢ i) × (get_elem? s.views j ≡ some u)). let o = r.each j u x.1 in
      record {
        stands = others j u.stage x.0 o.stands;
        makes = λ some_made. let m = o.makes some_made in (m.0, m.1 ∙ sym long);
        knows = λ lives. let k = o.knows lives in (k.0, so u.known (λ e. x.0 (sym k.0 ∙ e)) k.1);
        heard = heard u j x.1;
      })
      (at_set s.views i j w u there)

  -- whatever the words are, the seat has a new view and an act that keep the rule
  abbrev Goes : St → ℕ → ℕ → Me (Option T) (SeatView L F) → (ℕ → ℕ) →
      (ℕ → Me (Option T) (SeatView L F) → Type 0) → List ℕ → Type 0
  Goes s i id m f then ws = (w : SeatView L F) × (a : Act (Option T)) × Valid s.homes m.1 a
      × Kept record {
        words = set ws i (f (slice_index ws i));
        homes = homes_after s.homes m.1 a;
        views = set s.views id w;
      }
      × then (slice_index ws i) (w, carried_after m.1 a)

  -- the seats that keep their stage while another draws a ticket
  still_stands : (log : List L) (drawn passed : ℕ) (holder : ℕ → ℕ) (i j : ℕ) (st : Stage L) →
      Stands log drawn passed holder j st
      → Stands (log ++ []) (drawn + 1) passed (λ k. cond (eqb k drawn) i (holder k)) j st
  still_stands log drawn passed holder i j Spent s = s
  still_stands log drawn passed holder i j Idle s = s
  still_stands log drawn passed holder i j (Waits k) s =
      let below : k < drawn = s.1 in (
        s.0,
        omega arith,
        ap (λ b. cond b i (holder k)) (ne_eqb k drawn (λ e. omega arith))
            ∙ s.2,
      )
  still_stands log drawn passed holder i j (Served k found) s =
      let below : k < drawn = s.1 in (
        s.0,
        omega arith,
        ap (λ b. cond b i (holder k)) (ne_eqb k drawn (λ e. omega arith))
            ∙ s.2,
        s.3 ∙ sym (append-nil log),
      )

  live_if : (st st' : Stage L) → st ≡ st' → IsLive st' → IsLive st
  live_if st st' is live = subst (λ (x : Stage L). IsLive x) (sym is) live

  pub draws : (slots id : ℕ) (m : Me (Option T) (SeatView L F)) → m.0.stage ≡ Idle →
      Allows (λ s. Kept s) slots id m 0 (λ n. (n + 1) % 2 ^ 64) (Draws m)
  draws slots id m idle s r long at _ =
      let v : SeatView L F = m.0 in
      let w : SeatView L F = staged (Waits r.drawn) v in
      let live : IsLive v.stage = live_if v.stage Idle idle tt in
      let own = (r.each id v at).knows live in
      let none : tickets v.stage ≡ 0 = ap (λ (st : Stage L). tickets st) idle in
      let count = in_turn_set s.views id v w at in
      let few = in_turn_few s.views in
      let d : ℕ = r.drawn in let p : ℕ = r.passed in let c : ℕ = in_turn s.views in
      let c' : ℕ = in_turn (set s.views id w) in
      let counted : d ≡ p + c = r.counted in
      let more : c' + 0 ≡ c + 1 = subst (λ (z : ℕ). c' + z ≡ c + 1) none count in
      let views' : length (set s.views id w) ≡ length s.views = length-set s.views id w in
      let kept' : Kept record {
        words = (d % 2 ^ 64 + 1) % 2 ^ 64 ∷ p % 2 ^ 64 ∷ [];
        homes = s.homes;
        views = set s.views id w;
      } = record {
        log = r.log ++ [];
        drawn = d + 1;
        passed = p;
        holder = λ k. cond (eqb k d) id (r.holder k);
        maker = r.maker;
        words = ap (λ (n : ℕ). n ∷ p % 2 ^ 64 ∷ [])
            (let e : (d % 2 ^ 64 + 1) % 2 ^ 64 ≡ (d + 1) % 2 ^ 64 = omega arith in e);
        counted = let e : d + 1 ≡ p + c' = omega arith in e;
        few = subst (λ (n : ℕ). n ≤ most) (sym views') r.few;
        small = r.small;
        each = turned s r id v at live (Waits d) v.known [] (d + 1) p
            (λ k. cond (eqb k d) id (r.holder k)) (All-nil (λ line. author line ≡ id)) (
              own.0,
              subst (λ (l : List L). IsSo author kept l v.known) (sym (append-nil r.log))
                  own.1,
            ) (
              let le : p ≤ d = omega arith in
                  le,
              omega arith,
              ap (λ b. cond b id (r.holder d)) (eq-eqb d d refl),
            )
            (λ j st ne stands. still_stands r.log d p r.holder id j st stands);
        home = λ none'. let h =
            r.home (nobody_before s.views id v w at (idle_unserved v.stage idle) none') in
            (h.0, h.1, h.2 ∙ sym (append-nil r.log), h.3);
        authors = subst (λ (l : List L). All (λ line. author line < length (set s.views id w)) l)
            (sym (append-nil r.log)) (subst (λ (n : ℕ). All (λ line. author line < n) r.log)
            (sym views') r.authors);
      } in
      subst (Goes s 0 id m (λ n. (n + 1) % 2 ^ 64) (Draws m)) (sym r.words)
      (w, keeps, tt, kept', (d, refl, refl))

  -- few tickets are drawn whose turn has not ended
  near : (s : St) (r : Kept s) → r.drawn < r.passed + 2 ^ 64
  near s r =
      let d : ℕ = r.drawn in let p : ℕ = r.passed in let c : ℕ = in_turn s.views in
      let n : ℕ = length s.views in
      let counted : d ≡ p + c = r.counted in let few : c ≤ n = in_turn_few s.views in
      let most' : n ≤ most = r.few in let small : most < 2 ^ 32 = r.small in
      let e : d < p + 2 ^ 64 = omega arith in e

  stays : (s : St) (r : Kept s) (id : ℕ) (v : SeatView L F) → get_elem? s.views id ≡ some v →
      Kept record {
        words = r.drawn % 2 ^ 64 ∷ r.passed % 2 ^ 64 ∷ [];
        homes = s.homes;
        views = set s.views id v;
      }
  stays s r id v at =
      subst (λ (z : List ℕ × List (SeatView L F)). Kept record {
        words = z.0;
        homes = s.homes;
        views = z.1;
      }) (λ n. (r.words n, sym (set_again s.views id v at) n)) r

  -- the one whose ticket is served takes the value
  lifted : (s : St) (r : Kept s) (id : ℕ) (m : Me (Option T) (SeatView L F)) (ticket : ℕ) →
      get_elem? s.views id ≡ some m.0 → m.0.stage ≡ Waits ticket →
      r.passed % 2 ^ 64 ≡ ticket % 2 ^ 64
      → Goes s 1 id m (λ n. n) (LooksAt lines fixed author (Waits ticket) m)
      (r.drawn % 2 ^ 64 ∷ r.passed % 2 ^ 64 ∷ [])
  lifted s r id m ticket at waits hit =
      let v : SeatView L F = m.0 in
      let d : ℕ = r.drawn in let p : ℕ = r.passed in
      let live : IsLive v.stage = live_if v.stage (Waits ticket) waits tt in
      let own = (r.each id v at).knows live in
      let stands : Stands r.log d p r.holder id (Waits ticket) =
      subst (λ (st : Stage L). Stands r.log d p r.holder id st) waits (r.each id v at).stands in
      let below : ticket < d = stands.1 in
      let within' : d < p + 2 ^ 64 = near s r in
      let same : p ≡ ticket = one_turn p ticket (2 ^ 64) stands.0
      (let e : ticket < p + 2 ^ 64 = omega arith in e) hit in
      let mine : r.holder p ≡ id = ap r.holder same ∙ stands.2 in
      let nobody : NobodyServed s.views = λ j u there. dite (ℕ_discrete j id)
      (λ e. subst (λ (x : SeatView L F). IsServed x.stage → ⊥)
      (some-injective v u (sym at ∙ ap (λ k. get_elem? s.views k) (sym e) ∙ there))
      (waits_unserved v.stage ticket waits))
      (λ ne. other_unserved r.log d p r.holder id j u.stage mine ne (r.each j u there).stands) in
      let h = r.home nobody in
      let x : T = h.0 in
      let w : SeatView L F = staged (Served ticket (lines x)) v in
      let count = in_turn_set s.views id v w at in
      let c : ℕ = in_turn s.views in let c' : ℕ = in_turn (set s.views id w) in
      let one : tickets v.stage ≡ 1 = ap (λ (st : Stage L). tickets st) waits in
      let more : c' + 1 ≡ c + 1 = subst (λ (z : ℕ). c' + z ≡ c + 1) one count in
      let counted : d ≡ p + c = r.counted in
      let views' : length (set s.views id w) ≡ length s.views = length-set s.views id w in
      let nil = sym (append-nil r.log) in
      let kept' : Kept record {
        words = d % 2 ^ 64 ∷ p % 2 ^ 64 ∷ [];
        homes = set s.homes 0 none;
        views = set s.views id w;
      } = record {
        log = r.log ++ [];
        drawn = d;
        passed = p;
        holder = r.holder;
        maker = r.maker;
        words = refl;
        counted = let e : d ≡ p + c' = omega arith in e;
        few = subst (λ (n : ℕ). n ≤ most) (sym views') r.few;
        small = r.small;
        each = turned s r id v at live (Served ticket (lines x)) v.known [] d p r.holder
            (All-nil (λ line. author line ≡ id))
            (own.0, subst (λ (l : List L). IsSo author kept l v.known) nil own.1)
            (sym same, below, stands.2, h.2 ∙ nil)
            (λ j st ne stands'. subst (λ (l : List L). Stands l d p r.holder j st) nil stands');
        home = λ none'. absurd (none' id w (set_here s.views id w (within s.views id v at)) tt);
        authors = subst (λ (l : List L). All (λ line. author line < length (set s.views id w)) l)
            nil (subst (λ (n : ℕ). All (λ line. author line < n) r.log) (sym views') r.authors);
      } in
      let so : IsSo author (fixed x) (lines x) v.known =
      subst (λ (z : F × List L). IsSo author z.0 z.1 v.known) (λ n. (sym h.3 n, sym h.2 n))
      own.1 in
      (w, takes 0 (Some x), h.1, kept', ((λ _. (x, refl, so)), λ miss. absurd (miss hit)))

  pub looks : (slots id : ℕ) (m : Me (Option T) (SeatView L F)) (ticket : ℕ) →
      m.0.stage ≡ Waits ticket →
      Allows (λ s. Kept s) slots id m 1 (λ n. n) (LooksAt lines fixed author m.0.stage m)
  looks slots id m ticket waits s r long at _ =
      subst (λ (st : Stage L). Goes s 1 id m (λ n. n) (LooksAt lines fixed author st m) s.words)
      (sym waits)
      (subst (Goes s 1 id m (λ n. n) (LooksAt lines fixed author (Waits ticket) m)) (sym r.words)
      (dite (ℕ_discrete (r.passed % 2 ^ 64) (ticket % 2 ^ 64))
      (lifted s r id m ticket at waits)
      (λ miss. (m.0, keeps, tt, stays s r id m.0 at, ((λ hit. absurd (miss hit)), λ _. refl)))))

  -- the seats that keep their stage while another's turn ends
  passes_on : (log log' : List L) (drawn passed : ℕ) (holder : ℕ → ℕ) (i j : ℕ) (st : Stage L) →
      holder passed ≡ i → j ≢ i → Stands log drawn passed holder j st →
      Stands log' drawn (passed + 1) holder j st
  passes_on log log' drawn passed holder i j Spent mine other s = s
  passes_on log log' drawn passed holder i j Idle mine other s = s
  passes_on log log' drawn passed holder i j (Waits k) mine other s =
      let le : passed ≤ k = s.0 in
      let ne : k ≢ passed = λ e. other (sym s.2 ∙ ap holder e ∙ mine) in
      (let g : passed + 1 ≤ k = omega arith in g, s.1, s.2)
  passes_on log log' drawn passed holder i j (Served k found) mine other s =
      absurd (other (sym s.2 ∙ ap holder s.0 ∙ mine))

  pub gives_back : (slots id : ℕ) (v : SeatView L F) (x : T) (ticket : ℕ) (found : List L) →
      0 < slots →
      v.stage ≡ Served ticket found → Some (fixed x) ≡ v.known.fixed →
      Adds author v.known.number found (lines x)
      → Allows (λ s. Kept s) slots id (v, (0, Some x) ∷ []) 1 (λ n. (n + 1) % 2 ^ 64)
      (λ _. GivesBack lines v.stage ((0, Some x) ∷ []) (v, (0, Some x) ∷ []))
  gives_back slots id v x ticket found some_slot served same_fixed adds s r long at _ =
      let m : Me (Option T) (SeatView L F) = (v, (0, Some x) ∷ []) in
      let d : ℕ = r.drawn in let p : ℕ = r.passed in
      let live : IsLive v.stage = live_if v.stage (Served ticket found) served tt in
      let own = (r.each id v at).knows live in
      let stands : Stands r.log d p r.holder id (Served ticket found) =
      subst (λ (st : Stage L). Stands r.log d p r.holder id st) served
      (r.each id v at).stands in
      let mine : r.holder p ≡ id = ap r.holder (sym stands.0) ∙ stands.2 in
      let added : List L = adds.0 in
      let all : All (λ line. author line ≡ id) added =
      subst (λ (n : ℕ). All (λ line. author line ≡ n) added) own.0 adds.2 in
      let all_is : lines x ≡ r.log ++ added = adds.1 ∙ ap (λ ls. ls ++ added) stands.3 in
      let w : SeatView L F = returned found (lines x) v in
      let learned : IsSo author kept (r.log ++ added) w.known =
      subst (λ (z : List L × List L). Agrees author kept (r.log ++ added) v.known.number z.0
      (v.known.mine ++ drop (length z.1) z.0) v.known.fixed)
      (λ n. (sym all_is n, sym stands.3 n))
      (agrees_learned author kept r.log added v.known.number v.known.seen v.known.mine v.known.fixed
      adds.2 own.1) in
      let count = in_turn_set s.views id v w at in
      let c : ℕ = in_turn s.views in let c' : ℕ = in_turn (set s.views id w) in
      let one : tickets v.stage ≡ 1 = ap (λ (st : Stage L). tickets st) served in
      let less : c' + 1 ≡ c + 0 = subst (λ (z : ℕ). c' + z ≡ c + 0) one count in
      let counted : d ≡ p + c = r.counted in
      let views' : length (set s.views id w) ≡ length s.views = length-set s.views id w in
      let here : id < length s.views = within s.views id v at in
      let n : ℕ = length s.views in
      let homes' : 0 < length s.homes = subst (λ (k : ℕ). 0 < k) (sym long) some_slot in
      let kept' : Kept record {
        words = d % 2 ^ 64 ∷ (p % 2 ^ 64 + 1) % 2 ^ 64 ∷ [];
        homes = set s.homes 0 (some (Some x));
        views = set s.views id w;
      } = record {
        log = r.log ++ added;
        drawn = d;
        passed = p + 1;
        holder = r.holder;
        maker = r.maker;
        words = ap (λ (k : ℕ). d % 2 ^ 64 ∷ k ∷ [])
            (let e : (p % 2 ^ 64 + 1) % 2 ^ 64 ≡ (p + 1) % 2 ^ 64 = omega arith in e);
        counted = let e : d ≡ p + 1 + c' = omega arith in e;
        few = subst (λ (k : ℕ). k ≤ most) (sym views') r.few;
        small = r.small;
        each = turned s r id v at live Idle w.known added d (p + 1) r.holder all (own.0, learned) tt
            (λ j st ne stands'. passes_on r.log (r.log ++ added) d p r.holder id j st mine ne
            stands');
        home = λ _. (
          x,
          set_here s.homes 0 (some (Some x)) homes',
          all_is,
          ap (λ (o : Option F). unwrap_or o (fixed x)) (same_fixed ∙ own.1.fixed_is),
        );
        authors = subst (λ (k : ℕ). All (λ line. author line < k) (r.log ++ added)) (sym views')
            (All-append (λ line. author line < n) r.log added r.authors
            (All-weaker (λ line. author line ≡ id) (λ line. author line < n)
            (λ line e. subst (λ (k : ℕ). k < n) (sym e) here) added all));
      } in
      subst (λ (st : Stage L). Goes s 1 id m (λ k. (k + 1) % 2 ^ 64)
      (λ _. GivesBack lines st ((0, Some x) ∷ []) m) s.words) (sym served)
      (subst (Goes s 1 id m (λ k. (k + 1) % 2 ^ 64)
      (λ _. GivesBack lines (Served ticket found) ((0, Some x) ∷ []) m)) (sym r.words)
      (w, gives, tt, kept', refl))

  pub gives_back_as : (slots id : ℕ) (m : Me (Option T) (SeatView L F)) (v : SeatView L F) (x : T)
      (ticket : ℕ) (found : List L) → m ≡ (v, (0, Some x) ∷ []) → slots ≡ 1 →
      v.stage ≡ Served ticket found → Some (fixed x) ≡ v.known.fixed
      → Adds author v.known.number found (lines x) →
      Allows (λ s. Kept s) slots id m 1 (λ n. (n + 1) % 2 ^ 64)
      (λ _. GivesBack lines m.0.stage m.1 m)
  gives_back_as slots id m v x ticket found is one served same_fixed adds =
      subst (λ (m' : Me (Option T) (SeatView L F)). Allows (λ s. Kept s) slots id m' 1
      (λ n. (n + 1) % 2 ^ 64) (λ _. GivesBack lines m'.0.stage m'.1 m')) (sym is)
      (gives_back slots id v x ticket found (let e : slots ≡ 1 = one in
      omega arith) served same_fixed adds)
