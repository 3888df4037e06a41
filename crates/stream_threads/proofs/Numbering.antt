-- Lists side by side, and passes in their order.
use Rattle.std.proofs.Common.{◌≡◌, ℕ, zero, suc, ◌+◌, ◌<◌, List, [], ◌∷◌, ◌++◌, length, get_or}
use Rattle.std.proofs.Common.{refl, sym, ap, subst, ◌∙◌, arith, append_assoc, length-append}
use Rattle.std.specs.List.{All, range_with_len}
use Rattle.std.proofs.lemmas.List.Elements.{All-map}
use Rattle.std.proofs.lemmas.List.FromFn.{length-map-range_with_len, map-range_with_len_more}
use Rattle.turn_lock.specs.Passes.{PassValue, AreAll}
use Rattle.history_model.specs.declared.line.Line.{Line}
use Rattle.history_model.specs.declared.line.CallAct.TheVariants.{EndStream}
use Rattle.history_model.specs.Lines.{IsStream}
use Rattle.history_model.specs.World.{Terms}
use Rattle.rpq_base.proofs.Members.{none_in}
use Rattle.stream_history.specs.History.{HistoryValue, IsPassOf}
use Rattle.stream_history.proofs.AllPasses.{all_by_place}
use Rattle.stream_threads.specs.Numbered.{AllNumbered}
use Rattle.stream_threads.specs.Streams.{IsNewPass}
use Rattle.stream_threads.specs.Started.{new_pass, new_passes}

abbrev pub Each : Type 0
Each = PassValue Line Terms

-- one more at the end of both
pub numbered_push : {A B : Type 0} (R : ℕ → A → B → Type 0) (from : ℕ) (xs : List A) (ys : List B)
    (x : A) (y : B) → AllNumbered R from xs ys → R (from + length xs) x y →
    AllNumbered R from (xs ++ x ∷ []) (ys ++ y ∷ [])
numbered_push R from [] [] x y all r = (subst (λ n. R n x y) (omega arith) r, tt)
numbered_push R from [] (w ∷ ys) x y all r = absurd all
numbered_push R from (v ∷ xs) [] x y all r = absurd all
numbered_push R from (v ∷ xs) (w ∷ ys) x y all r = (
  all.0,
  numbered_push R (from + 1) xs ys x y all.1 (subst (λ n. R n x y) (omega arith) r),
)

-- R leads to the second list, and K on from it
pub numbered_then : {A B C : Type 0} (R : ℕ → A → B → Type 0) (K : ℕ → B → C → Type 0)
    (Q : ℕ → A → C → Type 0) →
    ((n m : ℕ) (x : A) (y : B) (z : C) → R n x y → K m y z → Q n x z) →
    (from other : ℕ) (xs : List A) (ys : List B) (zs : List C) → AllNumbered R from xs ys →
    AllNumbered K other ys zs → AllNumbered Q from xs zs
numbered_then R K Q then from other [] [] [] r k = tt
numbered_then R K Q then from other [] [] (z ∷ zs) r k = absurd k
numbered_then R K Q then from other [] (y ∷ ys) zs r k = absurd r
numbered_then R K Q then from other (x ∷ xs) [] zs r k = absurd r
numbered_then R K Q then from other (x ∷ xs) (y ∷ ys) [] r k = absurd k
numbered_then R K Q then from other (x ∷ xs) (y ∷ ys) (z ∷ zs) r k = (
  then from other x y z r.0 k.0,
  numbered_then R K Q then (from + 1) (other + 1) xs ys zs r.1 k.1,
)

pub numbered_length : {A B : Type 0} (R : ℕ → A → B → Type 0) (from : ℕ) (xs : List A)
    (ys : List B) → AllNumbered R from xs ys → length xs ≡ length ys
numbered_length R from [] [] all = refl
numbered_length R from [] (y ∷ ys) all = absurd all
numbered_length R from (x ∷ xs) [] all = absurd all
numbered_length R from (x ∷ xs) (y ∷ ys) all = ap suc (numbered_length R (from + 1) xs ys all.1)

-- what was yielded and what is left are all
pub yields_more : {A : Type 0} (done rest after whole : List A) (x : A) → done ++ rest ≡ whole →
    rest ≡ x ∷ after → (done ++ x ∷ []) ++ after ≡ whole
yields_more done rest after whole x was step =
    append_assoc done (x ∷ []) after ∙ (ap (λ l. done ++ l) (sym step) ∙ was)

-- ---- new passes

pub new_length : (history : HistoryValue) (from n : ℕ) → length (new_passes history from n) ≡ n
new_length history from n = length-map-range_with_len (new_pass history) from n

-- the next of the new passes, and the passes after it
pub next_new : (history : HistoryValue) (from n m : ℕ) (items rest : List Each) (pass : Each) →
    items ≡ new_passes history from n → items ≡ pass ∷ rest → n ≡ m + 1 →
    (pass ≡ new_pass history from) × (rest ≡ new_passes history (from + 1) m)
next_new history from n m items rest pass are begins more =
    let counted : n ≡ suc m = omega (arith, more) in
    let whole : pass ∷ rest ≡ new_pass history from ∷ new_passes history (from + 1) m =
    sym begins ∙ (are ∙ ap (new_passes history from) counted) in
    (cc whole, cc whole)

-- ---- passes in the order of their numbers

-- the first has this number, and each the number after that of the one before
abbrev pub AreInOrder : ℕ → List Each → Type 0
AreInOrder from [] = Unit {0}
AreInOrder from (pass ∷ rest) = (pass.number ≡ from) × AreInOrder (from + 1) rest

at_place : (from : ℕ) (passes : List Each) (i : ℕ) (d : Each) → AreInOrder from passes →
    i < length passes → (get_or passes i d).number ≡ from + i
at_place from [] i d are below = absurd (let no : ⊥ = omega (arith, below) in no)
at_place from (pass ∷ rest) zero d are below = omega (arith, are.0)
at_place from (pass ∷ rest) (suc i) d are below =
    omega (arith, at_place (from + 1) rest i d are.1 (omega (arith, below)))

pub all_in_order : (count : ℕ) (passes : List Each) → count ≡ length passes →
    AreInOrder 0 passes → AreAll count passes
all_in_order count passes many are =
    all_by_place count passes many (λ i d below. omega (arith, at_place 0 passes i d are below))

pub order_append : (from : ℕ) (first then : List Each) → AreInOrder from first →
    AreInOrder (from + length first) then → AreInOrder from (first ++ then)
order_append from [] then are more = subst (λ n. AreInOrder n then) (omega arith) more
order_append from (pass ∷ rest) then are more = (
  are.0,
  order_append (from + 1) rest then are.1 (subst (λ n. AreInOrder n then) (omega arith) more),
)

-- a new pass of a stream
pub new_is : (history : HistoryValue) (number : ℕ) → IsPassOf history (new_pass history number)
new_is history number = record { rest = (refl, refl); terms = refl }

-- new passes are passes of their history
pub new_are : (history : HistoryValue) (from n : ℕ) → All (IsPassOf history) (new_passes history from n)
new_are history from n =
    All-map (IsPassOf history) (new_pass history) (range_with_len from n)
    (λ i d below. new_is history (get_or (range_with_len from n) i d))

pub new_is_open : (history : HistoryValue) (number : ℕ) → IsStream history.terms.streams number →
    IsNewPass history (new_pass history number)
new_is_open history number is = record {
  is_open = record {
    is = new_is history number;
    is_stream = is;
    goes_on = λ ended. none_in (record { by = number; act = EndStream }) ended;
  };
  none = refl;
}

pub snoc_same : {A : Type 0} (xs ys : List A) (a b : A) → xs ++ a ∷ [] ≡ ys ++ b ∷ [] →
    (xs ≡ ys) × (a ≡ b)
snoc_same [] [] a b e = (refl, cc)
snoc_same [] (y ∷ ys) a b e =
    absurd (let no : ⊥ = omega (arith, ap length e, length-append ys (b ∷ [])) in no)
snoc_same (x ∷ xs) [] a b e =
    absurd (let no : ⊥ = omega (arith, ap length e, length-append xs (a ∷ [])) in no)
snoc_same (x ∷ xs) (y ∷ ys) a b e =
    let rest : xs ++ a ∷ [] ≡ ys ++ b ∷ [] = cc in
    let r = snoc_same xs ys a b rest in
    let first : x ≡ y = cc in
    (cc (first, r.0), r.1)

-- the last of the new passes, and those before it
pub last_new : (history : HistoryValue) (from n m : ℕ) (old new : List Each) (pass : Each) →
    old ≡ new_passes history from m → m ≡ n + 1 → old ≡ new ++ pass ∷ [] →
    (new ≡ new_passes history from n) × (pass ≡ new_pass history (from + n))
last_new history from n m old new pass are more ends =
    snoc_same new (new_passes history from n) pass (new_pass history (from + n))
    (sym ends ∙ (are ∙ (ap (new_passes history from) more
    ∙ map-range_with_len_more (new_pass history) from n (from + n) refl)))
