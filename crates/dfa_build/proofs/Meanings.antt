-- Each first, last and next position stands so in some word of the marked expression, and no other does.
use Rattle.std.proofs.Common.{◌≡◌, ◌≢◌, ℕ, ◌+◌, true, ◌&&◌, ◌||◌, ◌↔◌, inl, inr, List, [], ◌∷◌, ◌++◌, refl, sym, ap, ◌∙◌, append_assoc}
use Rattle.std.proofs.lemmas.Bool.{eqb-true, or_cases, and_parts, false≢true}
use Rattle.std.proofs.lemmas.List.{append-nil}
use Rattle.std.proofs.lemmas.List.Elements.{All-nil, All-cons}
use Rattle.path_syntax.specs.Expression.{Expression, Atom, Seq, Alt, Star, Plus, Opt}
use Rattle.path_syntax.specs.Size.{atoms}
use Rattle.path_syntax.specs.Laws.{is_nullable}
use Rattle.dfa_build.specs.Construction.{is_first, is_last, is_next}
use Rattle.dfa_build.specs.Marked.{IsRepeatedTrace, InMarked, BeginsAWord, EndsAWord, AreNeighbours}
use Rattle.dfa_build.proofs.Paths.{runs_end, runs_neighbours}
use Rattle.dfa_build.proofs.Local.{marked_is_local, local_is_marked}

-- no word of the body, one, and two
repeated_none : (body : Expression) (from : ℕ) → IsRepeatedTrace (InMarked body from) []
repeated_none body from = record { parts = []; joined = refl; nonempty = All-nil (λ (part : List ℕ). part ≢ []); within = All-nil (InMarked body from) }

repeated_one : (body : Expression) (from : ℕ) (part : List ℕ) → part ≢ [] → InMarked body from part → IsRepeatedTrace (InMarked body from) part
repeated_one body from part some h =
    record {
      parts = part ∷ [];
      joined = sym (append-nil part);
      nonempty = All-cons (λ (t : List ℕ). t ≢ []) part [] some (All-nil (λ (t : List ℕ). t ≢ []));
      within = All-cons (InMarked body from) part [] h (All-nil (InMarked body from));
    }

repeated_two : (body : Expression) (from : ℕ) (part next : List ℕ) → part ≢ [] → next ≢ [] → InMarked body from part →
    InMarked body from next → IsRepeatedTrace (InMarked body from) (part ++ next)
unfolding repeated_one
repeated_two body from part next some more h k =
    let rest = repeated_one body from next more k in
    record {
      parts = part ∷ next ∷ [];
      joined = ap (λ (t : List ℕ). part ++ t) rest.joined;
      nonempty = All-cons (λ (t : List ℕ). t ≢ []) part (next ∷ []) some rest.nonempty;
      within = All-cons (InMarked body from) part (next ∷ []) h rest.within;
    }

once : (body : Expression) (from : ℕ) (trace : List ℕ) → InMarked body from trace → InMarked (Plus body) from trace
once body from trace h = record { front = trace; rest = []; split = sym (append-nil trace); left = h; right = repeated_none body from }

append_nonempty : (front : List ℕ) (p : ℕ) (rest : List ℕ) → front ++ p ∷ rest ≢ []
append_nonempty [] p rest none = cc
append_nonempty (q ∷ front) p rest none = cc

-- the marked expression has a word
some_word : (e : Expression) (from : ℕ) → (trace : List ℕ) × InMarked e from trace
some_word (Atom label) from = (from ∷ [], refl)
some_word (Seq left right) from =
    let a = some_word left from in
    let b = some_word right (from + atoms left) in
    (a.0 ++ b.0, record { front = a.0; rest = b.0; split = refl; left = a.1; right = b.1 })
some_word (Alt left right) from = let a = some_word left from in (a.0, inl a.1)
some_word (Star body) from = ([], repeated_none body from)
some_word (Plus body) from = let a = some_word body from in (a.0, once body from a.0 a.1)
some_word (Opt body) from = ([], inl refl)

begins : (e : Expression) (from p : ℕ) → is_first e from p ≡ true → (rest : List ℕ) × InMarked e from (p ∷ rest)
begins (Atom label) from p h = ([], ap (λ (q : ℕ). q ∷ []) (eqb-true p from h))
begins (Seq left right) from p h =
    let middle = from + atoms left in
    elim (or_cases (is_first left from p) (is_nullable left && is_first right middle p) h) [
      | inl l ↦ (let a = begins left from p l in
          let b = some_word right middle in
          (a.0 ++ b.0, record { front = p ∷ a.0; rest = b.0; split = refl; left = a.1; right = b.1 }))
      | inr r ↦ (let both = and_parts (is_nullable left) (is_first right middle p) r in
          let b = begins right middle p both.1 in
          (b.0, record { front = []; rest = p ∷ b.0; split = refl; left = local_is_marked left from [] both.0; right = b.1 }))
    ]
begins (Alt left right) from p h =
    let middle = from + atoms left in
    elim (or_cases (is_first left from p) (is_first right middle p) h) [
      | inl l ↦ (let a = begins left from p l in (a.0, inl a.1))
      | inr r ↦ (let b = begins right middle p r in (b.0, inr b.1))
    ]
begins (Star body) from p h = let a = begins body from p h in (a.0, repeated_one body from (p ∷ a.0) (append_nonempty [] p a.0) a.1)
begins (Plus body) from p h = let a = begins body from p h in (a.0, once body from (p ∷ a.0) a.1)
begins (Opt body) from p h = let a = begins body from p h in (a.0, inr a.1)

ends : (e : Expression) (from p : ℕ) → is_last e from p ≡ true → (front : List ℕ) × InMarked e from (front ++ p ∷ [])
ends (Atom label) from p h = ([], ap (λ (q : ℕ). q ∷ []) (eqb-true p from h))
ends (Seq left right) from p h =
    let middle = from + atoms left in
    elim (or_cases (is_last right middle p) (is_nullable right && is_last left from p) h) [
      | inl r ↦ (let a = some_word left from in
          let b = ends right middle p r in
          (a.0 ++ b.0, record { front = a.0; rest = b.0 ++ p ∷ []; split = append_assoc a.0 b.0 (p ∷ []); left = a.1; right = b.1 }))
      | inr l ↦ (let both = and_parts (is_nullable right) (is_last left from p) l in
          let a = ends left from p both.1 in
          (a.0, record { front = a.0 ++ p ∷ []; rest = []; split = sym (append-nil (a.0 ++ p ∷ [])); left = a.1; right = local_is_marked right middle [] both.0 }))
    ]
ends (Alt left right) from p h =
    let middle = from + atoms left in
    elim (or_cases (is_last left from p) (is_last right middle p) h) [
      | inl l ↦ (let a = ends left from p l in (a.0, inl a.1))
      | inr r ↦ (let b = ends right middle p r in (b.0, inr b.1))
    ]
ends (Star body) from p h = let a = ends body from p h in (a.0, repeated_one body from (a.0 ++ p ∷ []) (append_nonempty a.0 p []) a.1)
ends (Plus body) from p h = let a = ends body from p h in (a.0, once body from (a.0 ++ p ∷ []) a.1)
ends (Opt body) from p h = let a = ends body from p h in (a.0, inr a.1)

-- a word in which the one position stands right before the other
record HasNeighbours (e : Expression) (from p q : ℕ) : Type 0 where
  front : List ℕ
  rest : List ℕ
  marked : InMarked e from (front ++ p ∷ q ∷ rest)

-- the cut between the two
cut_between : (front : List ℕ) (p q : ℕ) (rest : List ℕ) → front ++ p ∷ q ∷ rest ≡ (front ++ p ∷ []) ++ q ∷ rest
cut_between front p q rest = sym (append_assoc front (p ∷ []) (q ∷ rest))

neighbours_around : (body : Expression) (from p q : ℕ) → is_last body from p && is_first body from q ≡ true → HasNeighbours (Star body) from p q
neighbours_around body from p q h =
    let both = and_parts (is_last body from p) (is_first body from q) h in
    let a = ends body from p both.0 in
    let b = begins body from q both.1 in
    let two = repeated_two body from (a.0 ++ p ∷ []) (q ∷ b.0) (append_nonempty a.0 p []) (append_nonempty [] q b.0) a.1 b.1 in
    record { front = a.0; rest = b.0; marked = record { parts = two.parts; joined = cut_between a.0 p q b.0 ∙ two.joined; nonempty = two.nonempty; within = two.within } }

plus_around : (body : Expression) (from p q : ℕ) → is_last body from p && is_first body from q ≡ true → HasNeighbours (Plus body) from p q
plus_around body from p q h =
    let both = and_parts (is_last body from p) (is_first body from q) h in
    let a = ends body from p both.0 in
    let b = begins body from q both.1 in
    record {
      front = a.0;
      rest = b.0;
      marked = record {
        front = a.0 ++ p ∷ [];
        rest = q ∷ b.0;
        split = cut_between a.0 p q b.0;
        left = a.1;
        right = repeated_one body from (q ∷ b.0) (append_nonempty [] q b.0) b.1;
      };
    }

neighbours : (e : Expression) (from p q : ℕ) → is_next e from p q ≡ true → HasNeighbours e from p q
neighbours (Atom label) from p q h = absurd (false≢true h)
neighbours (Seq left right) from p q h =
    let middle = from + atoms left in
    elim (or_cases (is_next left from p q || is_next right middle p q) (is_last left from p && is_first right middle q) h) [
      | inl within ↦ elim (or_cases (is_next left from p q) (is_next right middle p q) within) [
        | inl l ↦ (let a = neighbours left from p q l in
            let b = some_word right middle in
            record {
              front = a.front;
              rest = a.rest ++ b.0;
              marked = record { front = a.front ++ p ∷ q ∷ a.rest; rest = b.0; split = sym (append_assoc a.front (p ∷ q ∷ a.rest) b.0); left = a.marked; right = b.1 };
            })
        | inr r ↦ (let a = some_word left from in
            let b = neighbours right middle p q r in
            record {
              front = a.0 ++ b.front;
              rest = b.rest;
              marked = record { front = a.0; rest = b.front ++ p ∷ q ∷ b.rest; split = append_assoc a.0 b.front (p ∷ q ∷ b.rest); left = a.1; right = b.marked };
            })
      ]
      | inr over ↦ (let both = and_parts (is_last left from p) (is_first right middle q) over in
          let a = ends left from p both.0 in
          let b = begins right middle q both.1 in
          record {
            front = a.0;
            rest = b.0;
            marked = record { front = a.0 ++ p ∷ []; rest = q ∷ b.0; split = cut_between a.0 p q b.0; left = a.1; right = b.1 };
          })
    ]
neighbours (Alt left right) from p q h =
    let middle = from + atoms left in
    elim (or_cases (is_next left from p q) (is_next right middle p q) h) [
      | inl l ↦ (let a = neighbours left from p q l in record { front = a.front; rest = a.rest; marked = inl a.marked })
      | inr r ↦ (let b = neighbours right middle p q r in record { front = b.front; rest = b.rest; marked = inr b.marked })
    ]
neighbours (Star body) from p q h =
    elim (or_cases (is_next body from p q) (is_last body from p && is_first body from q) h) [
      | inl within ↦ (let a = neighbours body from p q within in
          record { front = a.front; rest = a.rest; marked = repeated_one body from (a.front ++ p ∷ q ∷ a.rest) (append_nonempty a.front p (q ∷ a.rest)) a.marked })
      | inr over ↦ neighbours_around body from p q over
    ]
neighbours (Plus body) from p q h =
    elim (or_cases (is_next body from p q) (is_last body from p && is_first body from q) h) [
      | inl within ↦ (let a = neighbours body from p q within in
          record { front = a.front; rest = a.rest; marked = once body from (a.front ++ p ∷ q ∷ a.rest) a.marked })
      | inr over ↦ plus_around body from p q over
    ]
neighbours (Opt body) from p q h = let a = neighbours body from p q h in record { front = a.front; rest = a.rest; marked = inr a.marked }

-- the end of a path, and neighbours in it
path_end : (e : Expression) (front : List ℕ) (p : ℕ) → InMarked e 0 (front ++ p ∷ []) → is_last e 0 p ≡ true
path_end e [] p h = (marked_is_local e 0 (p ∷ []) h).1
path_end e (q ∷ front) p h = runs_end (is_next e 0) (is_last e 0) front q p (marked_is_local e 0 (q ∷ (front ++ p ∷ [])) h).1

path_neighbours : (e : Expression) (front : List ℕ) (p q : ℕ) (rest : List ℕ) → InMarked e 0 (front ++ p ∷ q ∷ rest) → is_next e 0 p q ≡ true
path_neighbours e [] p q rest h = (marked_is_local e 0 (p ∷ q ∷ rest) h).1.0
path_neighbours e (r ∷ front) p q rest h = runs_neighbours (is_next e 0) (is_last e 0) front r p q rest (marked_is_local e 0 (r ∷ (front ++ p ∷ q ∷ rest)) h).1

pub first_means : (e : Expression) (p : ℕ) → (is_first e 0 p ≡ true) ↔ BeginsAWord e p
first_means e p = (begins e 0 p, λ h. (marked_is_local e 0 (p ∷ h.0) h.1).0)

pub last_means : (e : Expression) (p : ℕ) → (is_last e 0 p ≡ true) ↔ EndsAWord e p
last_means e p = (ends e 0 p, λ h. path_end e h.0 p h.1)

pub next_means : (e : Expression) (p q : ℕ) → (is_next e 0 p q ≡ true) ↔ AreNeighbours e p q
next_means e p q = (λ h. let found = neighbours e 0 p q h in (found.front, found.rest, found.marked), λ h. path_neighbours e h.0 p q h.1 h.2)
