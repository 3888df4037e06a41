-- Sessions with their passes, and what their workers gave.
use Rattle.std.proofs.Common.{◌≡◌, ◌≢◌, ℕ, zero, suc, ◌+◌, ◌<◌, Bool, true, false, nat_lt, List}
use Rattle.std.proofs.Common.{[], ◌∷◌, ◌++◌, length, map, get_or, refl, sym, ap, subst, ◌∙◌, arith}
use Rattle.std.proofs.Common.{length-append}
use Rattle.std.proofs.lemmas.List.{get_or_append_left, get_or_push, get_or_default, map-append}
use Rattle.turn_lock.specs.Passes.{PassValue}
use Rattle.history_model.specs.declared.line.Line.{Line}
use Rattle.history_model.specs.World.{Terms}
use Rattle.stream_history.specs.History.{HistoryValue}
use Rattle.ask_text.specs.declared.ask.Ask.{Ask}
use Rattle.stream_threads.specs.declared.session_work.SessionWork.{SessionWork}
use Rattle.stream_threads.specs.Numbered.{AllNumbered}
use Rattle.stream_threads.specs.Started.{new_pass}
use Rattle.stream_threads.specs.Sessions.{HasReplied}
use Rattle.stream_threads.specs.Readers.{IsNewWork, AreNewWorks, HaveReplied}

-- ---- sessions that begin

abbrev IsNewAt : HistoryValue → ℕ → SessionWork → Type 0
IsNewAt history i work = IsNewWork history work × (work.number ≡ i + 1)

new_at : (history : HistoryValue) (works : List SessionWork) (one d : SessionWork) (i : ℕ) →
    AreNewWorks history works → IsNewAt history (length works) one → i < length works + 1 →
    (b : Bool) → nat_lt i (length works) ≡ b → IsNewAt history i (get_or (works ++ one ∷ []) i d)
new_at history works one d i were is within true below =
    let here : i < length works = grind (arith, below) in
    subst (IsNewAt history i) (sym (get_or_append_left works (one ∷ []) d i here)) (were i d here)
new_at history works one d i were is within false below =
    let last : length works ≡ i = grind (arith, below, within) in
    subst (IsNewAt history i) (sym (get_or_push works one d i last))
    (subst (λ (n : ℕ). IsNewAt history n one) last is)

-- one session more
pub new_more : (history : HistoryValue) (works after : List SessionWork) (one : SessionWork) →
    AreNewWorks history works → after ≡ works ++ one ∷ [] → IsNewWork history one →
    one.number ≡ length works + 1 → AreNewWorks history after
new_more history works after one were ends is numbered i d below =
    let many : length after ≡ length works + 1 =
    omega (arith, ap length ends, length-append works (one ∷ [])) in
    subst (λ (all : List SessionWork). IsNewAt history i (get_or all i d)) (sym ends)
    (new_at history works one d i were (is, numbered) (omega (arith, below, many))
    (nat_lt i (length works)) refl)

-- and what it asks
pub asks_more : (works after : List SessionWork) (one : SessionWork) (yielded : List (List Ask))
    (asks : List Ask) → map (λ (work : SessionWork). work.asks.items) works ≡ yielded →
    after ≡ works ++ one ∷ [] → one.asks.items ≡ asks →
    map (λ (work : SessionWork). work.asks.items) after ≡ yielded ++ asks ∷ []
asks_more works after one yielded asks were ends is =
    let f : SessionWork → List Ask = λ work. work.asks.items in
    ap (map f) ends
    ∙ (map-append f works (one ∷ []) ∙ (ap (λ (l : List (List Ask)). l ++ f one ∷ []) were
    ∙ ap (λ (own : List Ask). yielded ++ own ∷ []) is))

-- ---- what the workers gave, by places and side by side

pub by_place : {A B : Type 0} (R : ℕ → A → B → Type 0) (from : ℕ) (xs : List A) (ys : List B) →
    length ys ≡ length xs →
    ((i : ℕ) (a : A) (b : B) → i < length xs → R (from + i) (get_or xs i a) (get_or ys i b)) →
    AllNumbered R from xs ys
by_place R from [] [] many each = tt
by_place R from [] (y ∷ ys) many each = absurd (let no : ⊥ = omega (arith, many) in no)
by_place R from (x ∷ xs) [] many each = absurd (let no : ⊥ = omega (arith, many) in no)
by_place R from (x ∷ xs) (y ∷ ys) many each = (
  subst (λ (n : ℕ). R n x y) (omega arith) (each zero x y (omega arith)),
  by_place R (from + 1) xs ys (omega (arith, many)) (λ i a b below.
      subst (λ (n : ℕ). R n (get_or xs i a) (get_or ys i b)) (omega arith)
      (each (suc i) a b (omega (arith, below)))),
)

pub of_map : {A B C : Type 0} (f : A → B) (R : ℕ → B → C → Type 0) (from : ℕ) (xs : List A)
    (ys : List C) → AllNumbered (λ n x y. R n (f x) y) from xs ys →
    AllNumbered R from (map f xs) ys
of_map f R from [] [] all = tt
of_map f R from [] (y ∷ ys) all = absurd all
of_map f R from (x ∷ xs) [] all = absurd all
of_map f R from (x ∷ xs) (y ∷ ys) all = (all.0, of_map f R (from + 1) xs ys all.1)

module _ (history : HistoryValue) (works after : List SessionWork)
    (new : AreNewWorks history works) (many : length after ≡ length works)
    (each : (i : ℕ) (d : SessionWork) → i < length works →
    HasReplied history (get_or works i d).pass (get_or works i d).asks.items (get_or after i d)) where
  abbrev Has : ℕ → SessionWork → SessionWork → Type 0
  Has number work one = HasReplied history (new_pass history number) work.asks.items one

  has : (i : ℕ) (d : SessionWork) → i < length works →
      Has (1 + history.terms.streams + i) (get_or works i d) (get_or after i d)
  has i d below =
      let work = get_or works i d in
      let is = new i d below in
      let number : history.terms.streams + work.number ≡ 1 + history.terms.streams + i =
      omega (arith, is.1) in
      subst (λ (pass : PassValue Line Terms). HasReplied history pass work.asks.items
      (get_or after i d)) (is.0.pass ∙ ap (new_pass history) number) (each i d below)

  at_each : (i : ℕ) (a b : SessionWork) → i < length works →
      Has (1 + history.terms.streams + i) (get_or works i a) (get_or after i b)
  at_each i a b below =
      let within : i < length after = omega (arith, below, many) in
      subst (λ (one : SessionWork). Has (1 + history.terms.streams + i) (get_or works i a) one)
      (get_or_default after i a b within) (has i a below)

  pub have_replied : HaveReplied history (1 + history.terms.streams)
      (map (λ (work : SessionWork). work.asks.items) works) after
  have_replied =
      of_map (λ (work : SessionWork). work.asks.items)
      (λ number (asks : List Ask) (one : SessionWork).
      HasReplied history (new_pass history number) asks one) (1 + history.terms.streams) works after
      (by_place Has (1 + history.terms.streams) works after many at_each)

-- ---- asks that aren't all answered

pub not_all : {A : Type 0} (done : List A) (rest whole : List A) → done ++ rest ≡ whole →
    0 < length rest → done ≢ whole
not_all done rest whole cut some same =
    absurd (let no : ⊥ =
    omega (arith, ap length cut, length-append done rest, ap length same, some) in no)
