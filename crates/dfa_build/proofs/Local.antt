-- The language of a marked expression is local: its words are the paths of first, next and last positions.
use Rattle.std.proofs.Common.{◌≡◌, ◌≢◌, ℕ, ◌+◌, Bool, ◌&&◌, ◌||◌, inl, inr, List, [], ◌∷◌, ◌++◌, All, flat_map, refl, sym, ap, subst, arith}
use Rattle.std.proofs.lemmas.Bool.{eqb-true, eq-eqb, or_cases, or_left, or_right, and_parts, and_from, false≢true}
use Rattle.std.proofs.lemmas.List.Elements.{All-nil, All-cons, All-head, All-tail, All-weaker}
use Rattle.path_syntax.specs.Expression.{Expression, Atom, Seq, Alt, Star, Plus, Opt}
use Rattle.path_syntax.specs.Size.{atoms}
use Rattle.path_syntax.specs.Laws.{is_nullable}
use Rattle.dfa_build.specs.Construction.{is_first, is_last, is_next}
use Rattle.dfa_build.specs.Marked.{InMarked}
use Rattle.dfa_build.proofs.Paths.{Runs, IsPath, runs_wider, runs_joined, runs_append_nil}
use Rattle.dfa_build.proofs.Ranges.{InRange, first_range, last_range, next_range}

-- the trace is a path of the expression's positions
abbrev pub IsLocal : Expression → ℕ → List ℕ → Type 0
IsLocal e from trace = IsPath (is_nullable e) (is_first e from) (is_next e from) (is_last e from) trace

-- the runs of the expression's positions
abbrev pub RunsIn : Expression → ℕ → ℕ → List ℕ → Type 0
RunsIn e from p trace = Runs (is_next e from) (is_last e from) p trace

-- a word of a sequence is a path
seq_path : (left right : Expression) (from : ℕ) (front rest : List ℕ) → IsLocal left from front → IsLocal right (from + atoms left) rest →
    IsLocal (Seq left right) from (front ++ rest)
seq_path left right from [] [] a b = and_from (is_nullable left) (is_nullable right) a b
seq_path left right from [] (q ∷ rest) a b =
    let middle = from + atoms left in (
      or_right (is_first left from q) (is_nullable left && is_first right middle q) (and_from (is_nullable left) (is_first right middle q) a b.0),
      runs_wider (is_next right middle) (is_next (Seq left right) from) (is_last right middle) (is_last (Seq left right) from)
          (λ x y h. or_left (is_next left from x y || is_next right middle x y) (is_last left from x && is_first right middle y) (or_right (is_next left from x y) (is_next right middle x y) h))
          (λ x h. or_left (is_last right middle x) (is_nullable right && is_last left from x) h)
          rest q b.1,
    )
seq_path left right from (p ∷ front) [] a b =
    let middle = from + atoms left in (
      or_left (is_first left from p) (is_nullable left && is_first right middle p) a.0,
      runs_append_nil (is_next (Seq left right) from) (is_last (Seq left right) from) p front
          (runs_wider (is_next left from) (is_next (Seq left right) from) (is_last left from) (is_last (Seq left right) from)
          (λ x y h. or_left (is_next left from x y || is_next right middle x y) (is_last left from x && is_first right middle y) (or_left (is_next left from x y) (is_next right middle x y) h))
          (λ x h. or_right (is_last right middle x) (is_nullable right && is_last left from x) (and_from (is_nullable right) (is_last left from x) b h))
          front p a.1),
    )
seq_path left right from (p ∷ front) (q ∷ rest) a b =
    let middle = from + atoms left in (
      or_left (is_first left from p) (is_nullable left && is_first right middle p) a.0,
      runs_joined (is_next left from) (is_next (Seq left right) from) (is_last left from) (is_last (Seq left right) from)
          (λ x y h. or_left (is_next left from x y || is_next right middle x y) (is_last left from x && is_first right middle y) (or_left (is_next left from x y) (is_next right middle x y) h))
          q (λ x h. or_right (is_next left from x q || is_next right middle x q) (is_last left from x && is_first right middle q) (and_from (is_last left from x) (is_first right middle q) h b.0))
          rest
          (runs_wider (is_next right middle) (is_next (Seq left right) from) (is_last right middle) (is_last (Seq left right) from)
          (λ x y h. or_left (is_next left from x y || is_next right middle x y) (is_last left from x && is_first right middle y) (or_right (is_next left from x y) (is_next right middle x y) h))
          (λ x h. or_left (is_last right middle x) (is_nullable right && is_last left from x) h)
          rest q b.1)
          front p a.1,
    )

-- a word of one side is a path
alt_left_path : (left right : Expression) (from : ℕ) (trace : List ℕ) → IsLocal left from trace → IsLocal (Alt left right) from trace
alt_left_path left right from [] a = or_left (is_nullable left) (is_nullable right) a
alt_left_path left right from (p ∷ trace) a =
    let middle = from + atoms left in (
      or_left (is_first left from p) (is_first right middle p) a.0,
      runs_wider (is_next left from) (is_next (Alt left right) from) (is_last left from) (is_last (Alt left right) from)
          (λ x y h. or_left (is_next left from x y) (is_next right middle x y) h)
          (λ x h. or_left (is_last left from x) (is_last right middle x) h)
          trace p a.1,
    )

alt_right_path : (left right : Expression) (from : ℕ) (trace : List ℕ) → IsLocal right (from + atoms left) trace → IsLocal (Alt left right) from trace
alt_right_path left right from [] b = or_right (is_nullable left) (is_nullable right) b
alt_right_path left right from (p ∷ trace) b =
    let middle = from + atoms left in (
      or_right (is_first left from p) (is_first right middle p) b.0,
      runs_wider (is_next right middle) (is_next (Alt left right) from) (is_last right middle) (is_last (Alt left right) from)
          (λ x y h. or_right (is_next left from x y) (is_next right middle x y) h)
          (λ x h. or_right (is_last left from x) (is_last right middle x) h)
          trace p b.1,
    )

-- a word of the body with a path of its repetitions behind it, with any answer on the empty one
abbrev IsRepeatedPath : Bool → Expression → ℕ → List ℕ → Type 0
IsRepeatedPath nullable body from trace = IsPath nullable (is_first (Star body) from) (is_next (Star body) from) (is_last (Star body) from) trace

star_more : (body : Expression) (from : ℕ) (front rest : List ℕ) → IsLocal body from front → IsLocal (Star body) from rest →
    IsRepeatedPath (is_nullable body) body from (front ++ rest)
star_more body from [] [] a b = a
star_more body from [] (q ∷ rest) a b = b
star_more body from (p ∷ front) [] a b = (
  a.0,
  runs_append_nil (is_next (Star body) from) (is_last body from) p front
      (runs_wider (is_next body from) (is_next (Star body) from) (is_last body from) (is_last body from)
      (λ x y h. or_left (is_next body from x y) (is_last body from x && is_first body from y) h)
      (λ x h. h)
      front p a.1),
)
star_more body from (p ∷ front) (q ∷ rest) a b = (
  a.0,
  runs_joined (is_next body from) (is_next (Star body) from) (is_last body from) (is_last body from)
      (λ x y h. or_left (is_next body from x y) (is_last body from x && is_first body from y) h)
      q (λ x h. or_right (is_next body from x q) (is_last body from x && is_first body from q) (and_from (is_last body from x) (is_first body from q) h b.0))
      rest b.1 front p a.1,
)

-- the star takes the empty trace
as_star : (nullable : Bool) (body : Expression) (from : ℕ) (trace : List ℕ) → IsRepeatedPath nullable body from trace → IsLocal (Star body) from trace
as_star nullable body from [] h = refl
as_star nullable body from (p ∷ trace) h = h

star_path : (body : Expression) (from : ℕ) (parts : List (List ℕ)) → ((part : List ℕ) → InMarked body from part → IsLocal body from part) →
    All (InMarked body from) parts → IsLocal (Star body) from (flat_map (λ part. part) parts)
star_path body from [] local within = refl
star_path body from (part ∷ parts) local within =
    let rest = flat_map (λ (p : List ℕ). p) parts in
    as_star (is_nullable body) body from (part ++ rest)
    (star_more body from part rest (local part (All-head (InMarked body from) part parts within)) (star_path body from parts local (All-tail (InMarked body from) part parts within)))

opt_path : (body : Expression) (from : ℕ) (trace : List ℕ) → IsLocal body from trace → IsLocal (Opt body) from trace
opt_path body from [] h = refl
opt_path body from (p ∷ trace) h = h

-- every word of the marked expression is a path
pub marked_is_local : (e : Expression) (from : ℕ) (trace : List ℕ) → InMarked e from trace → IsLocal e from trace
marked_is_local (Atom label) from trace h = subst (λ (t : List ℕ). IsLocal (Atom label) from t) (sym h) (eq-eqb from from refl, eq-eqb from from refl)
marked_is_local (Seq left right) from trace h =
    subst (λ (t : List ℕ). IsLocal (Seq left right) from t) (sym h.split)
    (seq_path left right from h.front h.rest (marked_is_local left from h.front h.left) (marked_is_local right (from + atoms left) h.rest h.right))
marked_is_local (Alt left right) from trace h =
    elim h [
      | inl a ↦ alt_left_path left right from trace (marked_is_local left from trace a)
      | inr b ↦ alt_right_path left right from trace (marked_is_local right (from + atoms left) trace b)
    ]
marked_is_local (Star body) from trace h =
    subst (λ (t : List ℕ). IsLocal (Star body) from t) (sym h.joined)
    (star_path body from h.parts (λ part. marked_is_local body from part) h.within)
marked_is_local (Plus body) from trace h =
    let rest = subst (λ (t : List ℕ). IsLocal (Star body) from t) (sym h.right.joined) (star_path body from h.right.parts (λ part. marked_is_local body from part) h.right.within) in
    subst (λ (t : List ℕ). IsLocal (Plus body) from t) (sym h.split)
    (star_more body from h.front h.rest (marked_is_local body from h.front h.left) rest)
marked_is_local (Opt body) from trace h =
    elim h [
      | inl e ↦ subst (λ (t : List ℕ). IsLocal (Opt body) from t) (sym e) refl
      | inr b ↦ opt_path body from trace (marked_is_local body from trace b)
    ]

-- runs that begin in the positions of one side stay there
alt_stays_left : (left right : Expression) (from : ℕ) (trace : List ℕ) (p : ℕ) → InRange left from p →
    RunsIn (Alt left right) from p trace → RunsIn left from p trace
alt_stays_left left right from [] p range h =
    elim (or_cases (is_last left from p) (is_last right (from + atoms left) p) h) [
      | inl l ↦ l
      | inr r ↦ (let other = last_range right (from + atoms left) p r in absurd (omega arith))
    ]
alt_stays_left left right from (q ∷ trace) p range h =
    let middle = from + atoms left in
    elim (or_cases (is_next left from p q) (is_next right middle p q) h.0) [
      | inl l ↦ (l, alt_stays_left left right from trace q (next_range left from p q l).after h.1)
      | inr r ↦ (let other = (next_range right middle p q r).before in absurd (omega arith))
    ]

alt_stays_right : (left right : Expression) (from : ℕ) (trace : List ℕ) (p : ℕ) → InRange right (from + atoms left) p →
    RunsIn (Alt left right) from p trace → RunsIn right (from + atoms left) p trace
alt_stays_right left right from [] p range h =
    elim (or_cases (is_last left from p) (is_last right (from + atoms left) p) h) [
      | inl l ↦ (let other = last_range left from p l in absurd (omega arith))
      | inr r ↦ r
    ]
alt_stays_right left right from (q ∷ trace) p range h =
    let middle = from + atoms left in
    elim (or_cases (is_next left from p q) (is_next right middle p q) h.0) [
      | inl l ↦ (let other = (next_range left from p q l).before in absurd (omega arith))
      | inr r ↦ (r, alt_stays_right left right from trace q (next_range right middle p q r).after h.1)
    ]

-- in a sequence a run that begins on the right stays there
seq_stays_right : (left right : Expression) (from : ℕ) (trace : List ℕ) (p : ℕ) → InRange right (from + atoms left) p →
    RunsIn (Seq left right) from p trace → RunsIn right (from + atoms left) p trace
seq_stays_right left right from [] p range h =
    elim (or_cases (is_last right (from + atoms left) p) (is_nullable right && is_last left from p) h) [
      | inl r ↦ r
      | inr l ↦ (let other = last_range left from p (and_parts (is_nullable right) (is_last left from p) l).1 in absurd (omega arith))
    ]
seq_stays_right left right from (q ∷ trace) p range h =
    let middle = from + atoms left in
    elim (or_cases (is_next left from p q || is_next right middle p q) (is_last left from p && is_first right middle q) h.0) [
      | inl within ↦ elim (or_cases (is_next left from p q) (is_next right middle p q) within) [
        | inl l ↦ (let other = (next_range left from p q l).before in absurd (omega arith))
        | inr r ↦ (r, seq_stays_right left right from trace q (next_range right middle p q r).after h.1)
      ]
      | inr over ↦ (let other = last_range left from p (and_parts (is_last left from p) (is_first right middle q) over).0 in absurd (omega arith))
    ]

-- a run of a sequence that begins on the left goes on there, and then is a path on the right
record SplitsRun (left right : Expression) (from p : ℕ) (trace : List ℕ) : Type 0 where
  front : List ℕ
  rest : List ℕ
  split : trace ≡ front ++ rest
  on_left : RunsIn left from p front
  on_right : IsLocal right (from + atoms left) rest

seq_splits : (left right : Expression) (from : ℕ) (trace : List ℕ) (p : ℕ) → InRange left from p → RunsIn (Seq left right) from p trace →
    SplitsRun left right from p trace
seq_splits left right from [] p range h =
    elim (or_cases (is_last right (from + atoms left) p) (is_nullable right && is_last left from p) h) [
      | inl r ↦ (let other = last_range right (from + atoms left) p r in absurd (omega arith))
      | inr l ↦ (let parts = and_parts (is_nullable right) (is_last left from p) l in record { front = []; rest = []; split = refl; on_left = parts.1; on_right = parts.0 })
    ]
seq_splits left right from (q ∷ trace) p range h =
    let middle = from + atoms left in
    elim (or_cases (is_next left from p q || is_next right middle p q) (is_last left from p && is_first right middle q) h.0) [
      | inl within ↦ elim (or_cases (is_next left from p q) (is_next right middle p q) within) [
        | inl l ↦ (let after = seq_splits left right from trace q (next_range left from p q l).after h.1 in
            record { front = q ∷ after.front; rest = after.rest; split = ap (λ (t : List ℕ). q ∷ t) after.split; on_left = (l, after.on_left); on_right = after.on_right })
        | inr r ↦ (let other = (next_range right middle p q r).before in absurd (omega arith))
      ]
      | inr over ↦ (let parts = and_parts (is_last left from p) (is_first right middle q) over in
          record { front = []; rest = q ∷ trace; split = refl; on_left = parts.0; on_right = (parts.1, seq_stays_right left right from trace q (first_range right middle q parts.1) h.1) })
    ]

-- a run of a star goes on in the body, and then is one path of the body after another
record CutsRun (body : Expression) (from p : ℕ) (trace : List ℕ) : Type 0 where
  front : List ℕ
  parts : List (List ℕ)
  split : trace ≡ front ++ flat_map (λ part. part) parts
  first : RunsIn body from p front
  nonempty : All (λ part. part ≢ []) parts
  within : All (IsLocal body from) parts

star_cuts : (body : Expression) (from : ℕ) (trace : List ℕ) (p : ℕ) → RunsIn (Star body) from p trace → CutsRun body from p trace
star_cuts body from [] p h =
    record { front = []; parts = []; split = refl; first = h; nonempty = All-nil (λ (part : List ℕ). part ≢ []); within = All-nil (IsLocal body from) }
star_cuts body from (q ∷ trace) p h =
    let after = star_cuts body from trace q h.1 in
    elim (or_cases (is_next body from p q) (is_last body from p && is_first body from q) h.0) [
      | inl within ↦ record {
        front = q ∷ after.front;
        parts = after.parts;
        split = ap (λ (t : List ℕ). q ∷ t) after.split;
        first = (within, after.first);
        nonempty = after.nonempty;
        within = after.within;
      }
      | inr over ↦ (let ends = and_parts (is_last body from p) (is_first body from q) over in
          record {
            front = [];
            parts = (q ∷ after.front) ∷ after.parts;
            split = ap (λ (t : List ℕ). q ∷ t) after.split;
            first = ends.0;
            nonempty = All-cons (λ (part : List ℕ). part ≢ []) (q ∷ after.front) after.parts (λ e. cc) after.nonempty;
            within = All-cons (IsLocal body from) (q ∷ after.front) after.parts (ends.1, after.first) after.within;
          })
    ]

-- every path is a word of the marked expression
pub local_is_marked : (e : Expression) (from : ℕ) (trace : List ℕ) → IsLocal e from trace → InMarked e from trace
local_is_marked (Atom label) from [] h = absurd (false≢true h)
local_is_marked (Atom label) from (p ∷ []) h = ap (λ (q : ℕ). q ∷ []) (eqb-true p from h.0)
local_is_marked (Atom label) from (p ∷ q ∷ trace) h = absurd (false≢true h.1.0)
local_is_marked (Seq left right) from [] h =
    let both = and_parts (is_nullable left) (is_nullable right) h in
    record { front = []; rest = []; split = refl; left = local_is_marked left from [] both.0; right = local_is_marked right (from + atoms left) [] both.1 }
local_is_marked (Seq left right) from (p ∷ trace) h =
    let middle = from + atoms left in
    elim (or_cases (is_first left from p) (is_nullable left && is_first right middle p) h.0) [
      | inl l ↦ (let cut = seq_splits left right from trace p (first_range left from p l) h.1 in
          record {
            front = p ∷ cut.front;
            rest = cut.rest;
            split = ap (λ (t : List ℕ). p ∷ t) cut.split;
            left = local_is_marked left from (p ∷ cut.front) (l, cut.on_left);
            right = local_is_marked right middle cut.rest cut.on_right;
          })
      | inr r ↦ (let parts = and_parts (is_nullable left) (is_first right middle p) r in
          record {
            front = [];
            rest = p ∷ trace;
            split = refl;
            left = local_is_marked left from [] parts.0;
            right = local_is_marked right middle (p ∷ trace) (parts.1, seq_stays_right left right from trace p (first_range right middle p parts.1) h.1);
          })
    ]
local_is_marked (Alt left right) from [] h =
    elim (or_cases (is_nullable left) (is_nullable right) h) [
      | inl l ↦ inl (local_is_marked left from [] l)
      | inr r ↦ inr (local_is_marked right (from + atoms left) [] r)
    ]
local_is_marked (Alt left right) from (p ∷ trace) h =
    let middle = from + atoms left in
    elim (or_cases (is_first left from p) (is_first right middle p) h.0) [
      | inl l ↦ inl (local_is_marked left from (p ∷ trace) (l, alt_stays_left left right from trace p (first_range left from p l) h.1))
      | inr r ↦ inr (local_is_marked right middle (p ∷ trace) (r, alt_stays_right left right from trace p (first_range right middle p r) h.1))
    ]
local_is_marked (Star body) from [] h =
    record { parts = []; joined = refl; nonempty = All-nil (λ (part : List ℕ). part ≢ []); within = All-nil (InMarked body from) }
local_is_marked (Star body) from (p ∷ trace) h =
    let cut = star_cuts body from trace p h.1 in
    let within = All-weaker (IsLocal body from) (InMarked body from) (λ part. local_is_marked body from part) cut.parts cut.within in
    record {
      parts = (p ∷ cut.front) ∷ cut.parts;
      joined = ap (λ (t : List ℕ). p ∷ t) cut.split;
      nonempty = All-cons (λ (part : List ℕ). part ≢ []) (p ∷ cut.front) cut.parts (λ e. cc) cut.nonempty;
      within = All-cons (InMarked body from) (p ∷ cut.front) cut.parts (local_is_marked body from (p ∷ cut.front) (h.0, cut.first)) within;
    }
local_is_marked (Plus body) from [] h =
    record {
      front = [];
      rest = [];
      split = refl;
      left = local_is_marked body from [] h;
      right = record { parts = []; joined = refl; nonempty = All-nil (λ (part : List ℕ). part ≢ []); within = All-nil (InMarked body from) };
    }
local_is_marked (Plus body) from (p ∷ trace) h =
    let cut = star_cuts body from trace p h.1 in
    let within = All-weaker (IsLocal body from) (InMarked body from) (λ part. local_is_marked body from part) cut.parts cut.within in
    record {
      front = p ∷ cut.front;
      rest = flat_map (λ part. part) cut.parts;
      split = ap (λ (t : List ℕ). p ∷ t) cut.split;
      left = local_is_marked body from (p ∷ cut.front) (h.0, cut.first);
      right = record { parts = cut.parts; joined = refl; nonempty = cut.nonempty; within = within };
    }
local_is_marked (Opt body) from [] h = inl refl
local_is_marked (Opt body) from (p ∷ trace) h = inr (local_is_marked body from (p ∷ trace) h)
