-- What was seen, and what came after it.
use Rattle.std.proofs.Common.{◌≡◌, ℕ, zero, suc, ◌+◌, ◌<◌, ◌≤◌, List, [], ◌∷◌, ◌++◌, length, take}
use Rattle.std.proofs.Common.{drop, refl, sym, ap, subst, ◌∙◌, arith, append_assoc, length-append}
use Rattle.std.proofs.lemmas.List.{take-append-le, length-take, length-drop}
use Rattle.std.proofs.Math.Seq.{take-add}
use Rattle.std.specs.Prelude.{Contains}
use Rattle.std.proofs.lemmas.List.{map-append}
use Rattle.std.proofs.lemmas.List.Elements.{Contains-append_left}
use Rattle.turn_lock.specs.Passes.{PassValue}
use Rattle.history_model.specs.declared.line.Call.{Call}
use Rattle.history_model.specs.World.{Terms}
use Rattle.stream_history.specs.History.{HistoryValue, HasAdded}
use Rattle.turn_lock.specs.Lines.{StartsWith}
use Rattle.history_model.specs.declared.line.Line.{Line}
use Rattle.history_model.specs.Lines.{calls, entries}
use Rattle.history_model.specs.Legal.{IsLegal}
use Rattle.history_model.specs.LegalLaws.{FrontsAreLegal, IsFront}
use Rattle.stream_history.proofs.Turns.{first_entries}

pub starts_then : {A : Type 0} (lines middle front : List A) → StartsWith lines middle →
    StartsWith middle front → StartsWith lines front
starts_then lines middle front later first = (
  first.0 ++ later.0,
  later.1 ∙ (ap (λ l. l ++ later.0) first.1 ∙ append_assoc front first.0 later.0),
)

module _ (lines seen : List Line) (starts : StartsWith lines seen) where
  pub entries_grow : length (entries seen) ≤ length (entries lines)
  entries_grow =
      let more = first_entries lines seen starts in
      omega (arith, ap length more.1, length-append (entries seen) more.0)

  -- the first entries stay
  pub same_front : (n : ℕ) → n ≤ length (entries seen) →
      take n (entries lines) ≡ take n (entries seen)
  same_front n there =
      let more = first_entries lines seen starts in
      ap (take n) more.1 ∙ take-append-le n (entries seen) more.0 there

  pub is_front : FrontsAreLegal → (streams cap : ℕ) → IsLegal streams cap lines →
      IsFront streams cap seen lines
  is_front law streams cap legal =
      let parts : lines ≡ seen ++ starts.0 = starts.1 in
      subst (λ (all : List Line). IsFront streams cap seen all) (sym parts)
      (law streams cap seen starts.0
      (subst (λ (all : List Line). IsLegal streams cap all) parts legal))

-- a call that was seen is there
pub still_there : (lines seen : List Line) (call : Call) → StartsWith lines seen →
    Contains (calls seen) call → Contains (calls lines) call
still_there lines seen call starts has =
    subst (λ (all : List Call). Contains all call)
    (sym (ap calls starts.1 ∙ map-append (λ (each : Line). each.call) seen starts.0))
    (Contains-append_left (calls seen) (calls starts.0) call has)

-- what was seen before a line was added was seen after it
pub added_starts : (history : HistoryValue) (before after : PassValue Line Terms) (line : Line) →
    HasAdded history before line after → StartsWith after.seen before.seen
added_starts history before after line added =
    starts_then after.seen added.found before.seen (line ∷ [], added.ends) added.begins

-- some of the entries after a front
take_own : {A : Type 0} (m : ℕ) (xs : List A) → take (length (take m xs)) xs ≡ take m xs
take_own zero xs = refl
take_own (suc m) [] = refl
take_own (suc m) (x ∷ xs) = ap (λ l. x ∷ l) (take_own m xs)

-- a front, and some of what comes after it
pub take_part : {A : Type 0} (n m : ℕ) (xs part : List A) → part ≡ take m (drop n xs) →
    take (n + length part) xs ≡ take n xs ++ part
take_part n m xs part is =
    take-add n (length part) xs
    ∙ ap (λ l. take n xs ++ l)
    (ap (λ l. take (length l) (drop n xs)) is ∙ (take_own m (drop n xs) ∙ sym is))

pub part_fits : {A : Type 0} (n m : ℕ) (xs part : List A) → part ≡ take m (drop n xs) →
    n ≤ length xs → n + length part ≤ length xs
part_fits n m xs part is there =
    omega (arith, ap length is ∙ length-take m (drop n xs), length-drop n xs)

-- nothing comes after a front
pub none_after : {A : Type 0} (n m : ℕ) (xs part : List A) → part ≡ take m (drop n xs) → 0 < m →
    length part ≡ 0 → n ≤ length xs → n ≡ length xs
none_after n m xs part is some none there =
    omega (arith, sym none ∙ (ap length is ∙ length-take m (drop n xs)), length-drop n xs)
