-- Reading a text line by line.
use Rattle.std.proofs.Common.{◌≡◌, ℕ, ◌+◌, Result, Ok, Err, List, [], ◌∷◌, ◌++◌, length, map}
use Rattle.std.proofs.Common.{refl, sym, ap, subst, ◌∙◌, length-append}
use Rattle.std.specs.Prelude.{IfErr}
use Rattle.std.specs.Result.{IsErrAnd, result_map_both}
use Rattle.std.proofs.lemmas.List.{append_assoc, append-nil}
use Rattle.text_parts.specs.Lines.{raw_lines, without_return, lines}
use Rattle.text_parts.specs.Reading.{◌>>=◌, reached, with_number, StopsAt}

-- outcomes that are told apart
pub same_ok : {A F : Type 0} (a b : A) → ◌≡◌ {A = Result A F} (Ok a) (Ok b) → a ≡ b
same_ok a b e = cc

pub same_err : {A F : Type 0} (a b : F) → ◌≡◌ {A = Result A F} (Err a) (Err b) → a ≡ b
same_err a b e = cc

pub ok_no_err : {A F : Type 0} (a : A) (fault : F) → ◌≡◌ {A = Result A F} (Ok a) (Err fault) → ⊥
ok_no_err a fault e = absurd cc

-- what holds of an error that is handed on
pub err_out : {T E : Type 0} (result : Result T E) (fault : E) (Q : E → Type 0) →
    IsErrAnd result (λ handed. handed ≡ fault) → Q fault → IfErr result Q
err_out (Ok x) fault Q hands q = tt
err_out (Err e) fault Q hands q = subst Q (sym hands) q

-- ---- steps, turned round

pub bind_ok : {A B F : Type 0} (first : Result A F) (next : A → Result B F) (found : B) → (first >>= next) ≡ Ok found →
    (given : A) × (first ≡ Ok given) × (next given ≡ Ok found)
bind_ok (Ok given) next found e = (given, refl, e)
bind_ok (Err fault) next found e = absurd cc

-- a step that can't fail behind one with a fault
pub mapped_err : {A B F : Type 0} (first : Result A F) (give : A → B) (fault : F) → (first >>= λ x. Ok (give x)) ≡ Err fault →
    first ≡ Err fault
mapped_err {A} {B} {F} (Ok given) give fault e = absurd cc
mapped_err {A} {B} {F} (Err other) give fault e = ap (λ (f : F). Err f) (same_err other fault e)

-- what tells no number, by the step with the number
pub taken : {P K F : Type 0} (fault_at : ℕ → K → F) (after : P → List ℕ → Result P K) (number : ℕ) (before next : P) (line : List ℕ) →
    with_number fault_at after number before line ≡ Ok next → after before line ≡ Ok next
taken {P} {K} {F} fault_at after number before next line e = by (after before line) e
  where
    by : (outcome : Result P K) → result_map_both (λ (n : P). n) (fault_at number) outcome ≡ Ok next → outcome ≡ Ok next
    by (Ok found) e = ap (λ (n : P). Ok n) (same_ok found next e)
    by (Err kind) e = absurd (ok_no_err next (fault_at number kind) (sym e))

pub refused : {P K F : Type 0} (fault_at : ℕ → K → F) (after : P → List ℕ → Result P K) (number : ℕ) (before : P) (line : List ℕ) (fault : F) →
    with_number fault_at after number before line ≡ Err fault → (kind : K) × (after before line ≡ Err kind) × (fault_at number kind ≡ fault)
refused {P} {K} {F} fault_at after number before line fault e = by (after before line) refl e
  where
    by : (outcome : Result P K) → after before line ≡ outcome → result_map_both (λ (n : P). n) (fault_at number) outcome ≡ Err fault →
        (kind : K) × (after before line ≡ Err kind) × (fault_at number kind ≡ fault)
    by (Ok found) is e = absurd (ok_no_err found fault e)
    by (Err kind) is e = (kind, is, same_err (fault_at number kind) fault e)

-- ---- one step of a loop

module _ {P F : Type 0} (step : ℕ → P → List ℕ → Result P F) where
  -- by what the first line gives
  pub from_first : (count : ℕ) (before : P) (line : List ℕ) (rest : List (List ℕ)) (outcome : Result P F) →
      step (count + 1) before line ≡ outcome →
      reached step count before (line ∷ rest) ≡ (outcome >>= λ next. reached step (count + 1) next rest)
  unfolding reached
  from_first count before line rest outcome e = ap (λ (first : Result P F). first >>= λ next. reached step (count + 1) next rest) e

  pub from_none : (count : ℕ) (before : P) → reached step count before [] ≡ Ok before
  unfolding reached
  from_none count before = refl

  -- the first line of a text, and the others
  first_line : (text line after : List ℕ) (before : P) (count : ℕ) (whole : Result P F) →
      reached step count before (lines text) ≡ whole → raw_lines text ≡ line ∷ raw_lines after →
      reached step count before (without_return line ∷ lines after) ≡ whole
  first_line text line after before count whole so_far first =
      sym (ap (λ (raw : List (List ℕ)). reached step count before (map without_return raw)) first) ∙ so_far

  -- one line more
  pub turn : (text line after : List ℕ) (before next : P) (count : ℕ) (whole : Result P F) →
      reached step count before (lines text) ≡ whole → raw_lines text ≡ line ∷ raw_lines after →
      step (count + 1) before (without_return line) ≡ Ok next →
      reached step (count + 1) next (lines after) ≡ whole
  turn text line after before next count whole so_far first e =
      sym (from_first count before (without_return line) (lines after) (Ok next) e)
      ∙ first_line text line after before count whole so_far first

  -- a line with a fault
  pub stop : (text line after : List ℕ) (before : P) (count : ℕ) (fault : F) (whole : Result P F) →
      reached step count before (lines text) ≡ whole → raw_lines text ≡ line ∷ raw_lines after →
      step (count + 1) before (without_return line) ≡ Err fault → whole ≡ Err fault
  stop text line after before count fault whole so_far first e =
      sym (first_line text line after before count whole so_far first)
      ∙ from_first count before (without_return line) (lines after) (Err fault) e

  -- no line more
  pub end : (text : List ℕ) (before : P) (count : ℕ) (whole : Result P F) →
      reached step count before (lines text) ≡ whole → raw_lines text ≡ [] → whole ≡ Ok before
  end text before count whole so_far none =
      sym so_far
      ∙ (ap (λ (raw : List (List ℕ)). reached step count before (map without_return raw)) none
      ∙ from_none count before)

  -- ---- what each line keeps

  module _ (Holds : List (List ℕ) → P → Type 0) (kept : (front : List (List ℕ)) (line : List ℕ) (before next : P) →
      Holds front before → step (length front + 1) before line ≡ Ok next → Holds (front ++ line ∷ []) next) where
    -- how all lines end
    data Ends (all : List (List ℕ)) (outcome : Result P F) : Type 0 where
      good : (found : P) → outcome ≡ Ok found → Holds all found → Ends all outcome
      bad : (fault : F) → outcome ≡ Err fault → StopsAt step Holds all fault → Ends all outcome

    ends : (rest front : List (List ℕ)) (before : P) → Holds front before →
        Ends (front ++ rest) (reached step (length front) before rest)
    ends [] front before holds =
        good before (from_none (length front) before)
        (subst (λ (all : List (List ℕ)). Holds all before) (sym (append-nil front)) holds)
    ends (line ∷ rest) front before holds =
        by (step (length front + 1) before line) refl (λ next held. ends rest (front ++ line ∷ []) next held)
      where
        one_longer : length (front ++ line ∷ []) ≡ length front + 1
        one_longer = length-append front (line ∷ [])

        by : (outcome : Result P F) → step (length front + 1) before line ≡ outcome →
            ((next : P) → Holds (front ++ line ∷ []) next →
            Ends ((front ++ line ∷ []) ++ rest) (reached step (length (front ++ line ∷ [])) next rest)) →
            Ends (front ++ line ∷ rest) (reached step (length front) before (line ∷ rest))
        by (Ok next) e later =
            subst (Ends (front ++ line ∷ rest)) (sym (from_first (length front) before line rest (Ok next) e))
            (subst (λ (n : ℕ). Ends (front ++ line ∷ rest) (reached step n next rest)) one_longer
            (subst (λ (all : List (List ℕ)). Ends all (reached step (length (front ++ line ∷ [])) next rest)) (append_assoc front (line ∷ []) rest)
            (later next (kept front line before next holds e))))
        by (Err fault) e later =
            bad fault (from_first (length front) before line rest (Err fault) e) (record {
              front = front;
              line = line;
              rest = rest;
              before = before;
              split = refl;
              good = holds;
              fails = e;
            })

    -- what holds before the first line holds behind the last one
    pub holds_at_end : (all : List (List ℕ)) (start found : P) → Holds [] start →
        reached step 0 start all ≡ Ok found → Holds all found
    holds_at_end all start found first e = by (ends all [] start first)
      where
        by : Ends all (reached step 0 start all) → Holds all found
        by (good other is holds) = subst (Holds all) (same_ok other found (sym is ∙ e)) holds
        by (bad fault is stops) = absurd (ok_no_err found fault (sym e ∙ is))

    -- and up to the first fault
    pub stops_at : (all : List (List ℕ)) (start : P) (fault : F) → Holds [] start →
        reached step 0 start all ≡ Err fault → StopsAt step Holds all fault
    stops_at all start fault first e = by (ends all [] start first)
      where
        by : Ends all (reached step 0 start all) → StopsAt step Holds all fault
        by (good found is holds) = absurd (ok_no_err found fault (sym is ∙ e))
        by (bad other is stops) = subst (StopsAt step Holds all) (same_err other fault (sym is ∙ e)) stops
