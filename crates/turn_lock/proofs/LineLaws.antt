-- The laws of lines.
use Rattle.std.proofs.Common.{◌≡◌, ◌⊎◌, ℕ, zero, suc, ◌+◌, ◌<◌, cond, List, [], ◌∷◌, ◌++◌, map}
use Rattle.std.proofs.Common.{length, ltb, lt-ltb, le-ltb, Bool, refl, sym, ap, ◌∙◌, subst, inl}
use Rattle.std.proofs.Common.{inr, ⊎_elim, arith, eq-eqb, ne_eqb}
use Rattle.std.specs.Prelude.{sum}
use Rattle.std.specs.List.{All, range_with_len}
use Rattle.std.proofs.lemmas.List.Elements.{All-head, All-tail}
use Rattle.std.proofs.lemmas.List.FromFn.{sum_by-map-range_with_len_more}
use mathlib.Core.Logic.{dite}
use native.Mathlib.Decide.{ℕ_discrete, dec_le}
use Rattle.turn_lock.specs.Lines.{StartsWith, own}
use Rattle.turn_lock.specs.Laws.{SeenIsInOrder, OwnLinesAreAll}

cons_head : {L : Type 0} (x y : L) (xs ys : List L) → x ∷ xs ≡ y ∷ ys → x ≡ y
cons_head x y xs ys e = cc

cons_tail : {L : Type 0} (x y : L) (xs ys : List L) → x ∷ xs ≡ y ∷ ys → xs ≡ ys
cons_tail x y xs ys e = cc

in_order : {L : Type 0} (seen other rest rest' : List L) → seen ++ rest ≡ other ++ rest' →
    StartsWith seen other ⊎ StartsWith other seen
in_order [] other rest rest' e = inr (other, refl)
in_order (x ∷ xs) [] rest rest' e = inl (x ∷ xs, refl)
in_order (x ∷ xs) (y ∷ ys) rest rest' e =
    let same = cons_head x y (xs ++ rest) (ys ++ rest') e in
    ⊎_elim
    (λ (s : StartsWith xs ys). inl (s.0, ap (λ z. z ∷ xs) same ∙ ap (λ zs. y ∷ zs) s.1))
    (λ (s : StartsWith ys xs). inr (s.0, ap (λ z. z ∷ ys) (sym same) ∙ ap (λ zs. x ∷ zs) s.1))
    (in_order xs ys rest rest' (cons_tail x y (xs ++ rest) (ys ++ rest') e))

pub seen_is_in_order : (L : Type 0) → SeenIsInOrder L
seen_is_in_order L lines seen other a b = in_order seen other a.0 b.0 (sym a.1 ∙ b.1)

module _ {L : Type 0} (author : L → ℕ) where
  -- how many lines are by passes below n
  abbrev below : ℕ → List L → ℕ
  below n [] = 0
  below n (x ∷ xs) = cond (ltb (author x) n) (suc (below n xs)) (below n xs)

  below_none : (lines : List L) → below 0 lines ≡ 0
  below_none [] = refl
  below_none (x ∷ xs) = subst (λ b. cond b (suc (below 0 xs)) (below 0 xs) ≡ 0)
      (sym (le-ltb (author x) 0 (omega arith))) (below_none xs)

  below_all : (n : ℕ) (lines : List L) → All (λ line. author line < n) lines →
      below n lines ≡ length lines
  below_all n [] all = refl
  below_all n (x ∷ xs) all = subst (λ b. cond b (suc (below n xs)) (below n xs) ≡ suc (length xs))
      (sym (lt-ltb (author x) n (All-head (λ line. author line < n) x xs all)))
      (ap suc (below_all n xs (All-tail (λ line. author line < n) x xs all)))

  below_more : (n : ℕ) (lines : List L) →
      below (n + 1) lines ≡ below n lines + length (own author n lines)
  below_more n [] = let e : 0 ≡ 0 + 0 = omega arith in e
  below_more n (x ∷ xs) =
      let a : ℕ = author x in
      let new : ℕ = below (n + 1) xs in let old : ℕ = below n xs in
      let mine : List L = own author n xs in let m : ℕ = length mine in
      let more : new ≡ old + m = below_more n xs in
      let G : Bool × Bool × Bool →
      Type 0 = λ t. cond t.0 (suc new) new ≡ cond t.1 (suc old) old + length
      (cond t.2 (x ∷ mine) mine) in
      dite (ℕ_discrete a n)
      (λ e. subst G
      (λ i. (
        sym (lt-ltb a (n + 1) (omega arith)) i,
        sym (le-ltb a n (omega arith)) i,
        sym (eq-eqb a n e) i,
      ))
      (let g : suc new ≡ old + suc m = omega arith in g))
      (λ ne. dite (dec_le a n)
      (λ le. subst G
      (λ i. (
        sym (lt-ltb a (n + 1) (omega arith)) i,
        sym (lt-ltb a n (omega arith)) i,
        sym (ne_eqb a n ne) i,
      )) (let g : suc new ≡ suc old + m = omega arith in g))
      (λ nle. subst G
      (λ i. (
        sym (le-ltb a (n + 1) (omega arith)) i,
        sym (le-ltb a n (omega arith)) i,
        sym (ne_eqb a n ne) i,
      )) (let g : new ≡ old + m = omega arith in g)))

  counted : (n : ℕ) (lines : List L) →
      sum (map (λ k. length (own author k lines)) (range_with_len 0 n)) ≡ below n lines
  counted zero lines = sym (below_none lines)
  counted (suc n) lines =
      let next : n + 1 ≡ suc n = omega arith in
      subst (λ (m : ℕ). sum (map (λ k. length (own author k lines)) (range_with_len 0 m)) ≡ below m
      lines) next
      (sum_by-map-range_with_len_more (λ (z : ℕ). z) (λ k. length (own author k lines)) 0 n n
      (omega arith) ∙ ap (λ (z : ℕ). z + length (own author n lines)) (counted n lines)
      ∙ sym (below_more n lines))

  pub own_lines_are_all : OwnLinesAreAll author
  own_lines_are_all count lines all = counted count lines ∙ below_all count lines all
