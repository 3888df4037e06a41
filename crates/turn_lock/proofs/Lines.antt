-- The lines of one pass, and what a pass knows of them, as lines are added.
use Rattle.std.proofs.Common.{◌≡◌, ◌≢◌, ℕ, eqb, List, [], ◌∷◌, ◌++◌, length, drop, cond, refl, sym}
use Rattle.std.proofs.Common.{ap, ◌∙◌, subst, eq-eqb, ne_eqb}
use Rattle.std.specs.Prelude.{Option}
use Rattle.std.specs.List.{All}
use Rattle.std.proofs.lemmas.List.{append-nil}
use Rattle.std.proofs.lemmas.List.Elements.{All-head, All-tail, filter-append}
use Rattle.std.proofs.Math.Seq.{drop-append_seam}
use Rattle.turn_lock.specs.Lines.{own, Agrees}

module _ {L : Type 0} (author : L → ℕ) where
  -- lines of one pass are its own
  pub own_all : (added : List L) (n : ℕ) → All (λ line. author line ≡ n) added →
      own author n added ≡ added
  own_all [] n all = refl
  own_all (x ∷ xs) n all = subst (λ b. cond b (x ∷ own author n xs) (own author n xs) ≡ x ∷ xs)
      (sym (eq-eqb (author x) n (All-head (λ line. author line ≡ n) x xs all)))
      (ap (λ ys. x ∷ ys) (own_all xs n (All-tail (λ line. author line ≡ n) x xs all)))

  -- and no other pass has any of them
  pub own_none : (lines : List L) (n : ℕ) → All (λ line. author line ≢ n) lines →
      own author n lines ≡ []
  own_none [] n all = refl
  own_none (x ∷ xs) n all = subst (λ b. cond b (x ∷ own author n xs) (own author n xs) ≡ [])
      (sym (ne_eqb (author x) n (All-head (λ line. author line ≢ n) x xs all)))
      (own_none xs n (All-tail (λ line. author line ≢ n) x xs all))

  pub agrees_more : {F : Type 0} (kept : F) (log added : List L) (by n : ℕ) (seen mine : List L)
      (fixed : Option F) → All (λ line. author line ≡ by) added → n ≢ by
      → Agrees author kept log n seen mine fixed →
      Agrees author kept (log ++ added) n seen mine fixed
  agrees_more kept log added by n seen mine fixed all other a = record {
    fixed_is = a.fixed_is;
    seen_begins = (
      a.seen_begins.0 ++ added,
      ap (λ ls. ls ++ added) a.seen_begins.1
          ∙ append_three seen a.seen_begins.0 added,
    );
    mine_is = filter-append (λ line. eqb (author line) n) log added
        ∙ ap (λ ls. own author n log ++ ls)
        (own_none added n (λ k d within e. other (sym e ∙ all k d within)))
        ∙ append-nil (own author n log) ∙ a.mine_is;
  }
    where
      append_three : (xs ys zs : List L) → (xs ++ ys) ++ zs ≡ xs ++ (ys ++ zs)
      append_three [] ys zs = refl
      append_three (x ∷ xs) ys zs = ap (λ ls. x ∷ ls) (append_three xs ys zs)

  -- after a turn that found the log and added some lines
  pub agrees_learned : {F : Type 0} (kept : F) (log added : List L) (n : ℕ) (seen mine : List L)
      (fixed : Option F) → All (λ line. author line ≡ n) added
      → Agrees author kept log n seen mine fixed →
      Agrees author kept (log ++ added) n (log ++ added)
      (mine ++ drop (length log) (log ++ added)) fixed
  agrees_learned kept log added n seen mine fixed all a = record {
    fixed_is = a.fixed_is;
    seen_begins = ([], sym (append-nil (log ++ added)));
    mine_is = filter-append (λ line. eqb (author line) n) log added
        ∙ ap (λ ls. own author n log ++ ls) (own_all added n all)
        ∙ ap (λ ls. ls ++ added) a.mine_is
        ∙ ap (λ ls. mine ++ ls) (sym (drop-append_seam log added));
  }
