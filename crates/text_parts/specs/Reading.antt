-- Texts that are read line by line.
use Rattle.std.specs.Prelude.{◌≡◌, ℕ, ◌+◌, List, [], ◌∷◌, ◌++◌, length, Result, Ok, Err}
use Rattle.std.specs.Result.{result_map_both}

-- a step and the next one, which takes what the first gave; the first fault ends the reading
infixl 10 ◌>>=◌
abbrev pub ◌>>=◌ : {A B F : Type 0} → Result A F → (A → Result B F) → Result B F
(Ok x) >>= next = next x
(Err fault) >>= next = Err fault

-- what is reached by these lines behind so many others that reached this: each line takes a step,
-- which knows the line's number, from 1
unfoldable pub reached : {P F : Type 0} → (ℕ → P → List ℕ → Result P F) → ℕ → P →
    List (List ℕ) → Result P F
reached step count before [] = Ok before
reached step count before (line ∷ rest) =
    step (count + 1) before line >>= λ next. reached step (count + 1) next rest

-- the step of a line from what tells no number: its fault is told with the line's number
abbrev pub with_number : {P K F : Type 0} → (ℕ → K → F) → (P → List ℕ → Result P K) →
    ℕ → P → List ℕ → Result P F
with_number fault_at after number before line =
    result_map_both (λ next. next) (fault_at number) (after before line)

-- the fault is that of a line; the lines in front of it have none, and reach what holds of them
pub record StopsAt {P F : Type 0} (step : ℕ → P → List ℕ → Result P F)
    (Holds : List (List ℕ) → P → Type 0) (all : List (List ℕ)) (fault : F) : Type 0 where
  pub front : List (List ℕ)
  pub line : List ℕ
  pub rest : List (List ℕ)
  pub before : P
  pub split : all ≡ front ++ line ∷ rest
  pub good : Holds front before
  pub fails : step (length front + 1) before line ≡ Err fault
