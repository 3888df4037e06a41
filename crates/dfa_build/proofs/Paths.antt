-- Paths of a first, a next and a last test: nonempty traces that begin in first, go on by next and end in last; and the empty one where it is taken.
use Rattle.std.proofs.Common.{◌≡◌, ℕ, Bool, true, List, [], ◌∷◌, ◌++◌, sym, subst}
use Rattle.std.proofs.lemmas.List.{append-nil}

-- the trace goes on from the position by next, and ends in last
abbrev pub Runs : (ℕ → ℕ → Bool) → (ℕ → Bool) → ℕ → List ℕ → Type 0
Runs next last p [] = last p ≡ true
Runs next last p (q ∷ trace) = (next p q ≡ true) × Runs next last q trace

abbrev pub IsPath : Bool → (ℕ → Bool) → (ℕ → ℕ → Bool) → (ℕ → Bool) → List ℕ → Type 0
IsPath nullable first next last [] = nullable ≡ true
IsPath nullable first next last (p ∷ trace) = (first p ≡ true) × Runs next last p trace

-- every position that passes the one test passes the other
abbrev pub Widens : (ℕ → Bool) → (ℕ → Bool) → Type 0
Widens small large = (p : ℕ) → small p ≡ true → large p ≡ true

abbrev pub WidensNext : (ℕ → ℕ → Bool) → (ℕ → ℕ → Bool) → Type 0
WidensNext small large = (p q : ℕ) → small p q ≡ true → large p q ≡ true

pub runs_wider : (small large : ℕ → ℕ → Bool) (end' end : ℕ → Bool) → WidensNext small large → Widens end' end → (trace : List ℕ) (p : ℕ) →
    Runs small end' p trace → Runs large end p trace
runs_wider small large end' end steps ends [] p h = ends p h
runs_wider small large end' end steps ends (q ∷ trace) p h = (steps p q h.0, runs_wider small large end' end steps ends trace q h.1)

-- two runs, with a step from each last position of the one to the beginning of the other
pub runs_joined : (small large : ℕ → ℕ → Bool) (end' end : ℕ → Bool) → WidensNext small large → (q : ℕ) →
    ((p : ℕ) → end' p ≡ true → large p q ≡ true) → (rest : List ℕ) → Runs large end q rest → (trace : List ℕ) (p : ℕ) →
    Runs small end' p trace → Runs large end p (trace ++ q ∷ rest)
runs_joined small large end' end steps q step rest after [] p h = (step p h, after)
runs_joined small large end' end steps q step rest after (r ∷ trace) p h = (steps p r h.0, runs_joined small large end' end steps q step rest after trace r h.1)

pub runs_append_nil : (next : ℕ → ℕ → Bool) (last : ℕ → Bool) (p : ℕ) (trace : List ℕ) → Runs next last p trace → Runs next last p (trace ++ [])
runs_append_nil next last p trace h = subst (λ (t : List ℕ). Runs next last p t) (sym (append-nil trace)) h

-- the last position of a run, and two neighbours in it
pub runs_end : (next : ℕ → ℕ → Bool) (last : ℕ → Bool) (front : List ℕ) (p q : ℕ) → Runs next last p (front ++ q ∷ []) → last q ≡ true
runs_end next last [] p q h = h.1
runs_end next last (r ∷ front) p q h = runs_end next last front r q h.1

pub runs_neighbours : (next : ℕ → ℕ → Bool) (last : ℕ → Bool) (front : List ℕ) (p q r : ℕ) (rest : List ℕ) →
    Runs next last p (front ++ q ∷ r ∷ rest) → next q r ≡ true
runs_neighbours next last [] p q r rest h = h.1.0
runs_neighbours next last (s ∷ front) p q r rest h = runs_neighbours next last front s q r rest h.1
