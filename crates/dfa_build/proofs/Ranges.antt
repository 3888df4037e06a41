-- The positions of an expression whose positions are numbered from `from` are those from `from` on, as many as it has atoms.
use Rattle.std.proofs.Common.{◌≡◌, ℕ, ◌+◌, ◌<◌, ◌≤◌, true, ◌&&◌, ◌||◌, inl, inr, refl, arith}
use Rattle.std.proofs.lemmas.Bool.{eqb-true, or_cases, and_parts, false≢true}
use Rattle.path_syntax.specs.Expression.{Expression, Atom, Seq, Alt, Star, Plus, Opt}
use Rattle.path_syntax.specs.Size.{atoms}
use Rattle.path_syntax.specs.Laws.{is_nullable}
use Rattle.dfa_build.specs.Construction.{is_first, is_last, is_next}

pub record InRange (e : Expression) (from p : ℕ) : Type 0 where
  pub low : from ≤ p
  pub high : p < from + atoms e

pub in_left : (left right e : Expression) (from p : ℕ) → atoms e ≡ atoms left + atoms right → InRange left from p → InRange e from p
in_left left right e from p size h = record { low = h.low; high = omega arith }

pub in_right : (left right e : Expression) (from p : ℕ) → atoms e ≡ atoms left + atoms right → InRange right (from + atoms left) p → InRange e from p
in_right left right e from p size h = record { low = omega arith; high = omega arith }

pub first_range : (e : Expression) (from p : ℕ) → is_first e from p ≡ true → InRange e from p
first_range (Atom label) from p h = let same = eqb-true p from h in record { low = omega arith; high = omega arith }
first_range (Seq left right) from p h =
    elim (or_cases (is_first left from p) (is_nullable left && is_first right (from + atoms left) p) h) [
      | inl l ↦ in_left left right (Seq left right) from p refl (first_range left from p l)
      | inr r ↦ in_right left right (Seq left right) from p refl (first_range right (from + atoms left) p (and_parts (is_nullable left) (is_first right (from + atoms left) p) r).1)
    ]
first_range (Alt left right) from p h =
    elim (or_cases (is_first left from p) (is_first right (from + atoms left) p) h) [
      | inl l ↦ in_left left right (Alt left right) from p refl (first_range left from p l)
      | inr r ↦ in_right left right (Alt left right) from p refl (first_range right (from + atoms left) p r)
    ]
first_range (Star body) from p h = let r = first_range body from p h in record { low = r.low; high = r.high }
first_range (Plus body) from p h = let r = first_range body from p h in record { low = r.low; high = r.high }
first_range (Opt body) from p h = let r = first_range body from p h in record { low = r.low; high = r.high }

pub last_range : (e : Expression) (from p : ℕ) → is_last e from p ≡ true → InRange e from p
last_range (Atom label) from p h = let same = eqb-true p from h in record { low = omega arith; high = omega arith }
last_range (Seq left right) from p h =
    elim (or_cases (is_last right (from + atoms left) p) (is_nullable right && is_last left from p) h) [
      | inl r ↦ in_right left right (Seq left right) from p refl (last_range right (from + atoms left) p r)
      | inr l ↦ in_left left right (Seq left right) from p refl (last_range left from p (and_parts (is_nullable right) (is_last left from p) l).1)
    ]
last_range (Alt left right) from p h =
    elim (or_cases (is_last left from p) (is_last right (from + atoms left) p) h) [
      | inl l ↦ in_left left right (Alt left right) from p refl (last_range left from p l)
      | inr r ↦ in_right left right (Alt left right) from p refl (last_range right (from + atoms left) p r)
    ]
last_range (Star body) from p h = let r = last_range body from p h in record { low = r.low; high = r.high }
last_range (Plus body) from p h = let r = last_range body from p h in record { low = r.low; high = r.high }
last_range (Opt body) from p h = let r = last_range body from p h in record { low = r.low; high = r.high }

pub record BothInRange (e : Expression) (from p q : ℕ) : Type 0 where
  pub before : InRange e from p
  pub after : InRange e from q

both_left : (left right e : Expression) (from p q : ℕ) → atoms e ≡ atoms left + atoms right → BothInRange left from p q → BothInRange e from p q
both_left left right e from p q size h = record { before = in_left left right e from p size h.before; after = in_left left right e from q size h.after }

both_right : (left right e : Expression) (from p q : ℕ) → atoms e ≡ atoms left + atoms right → BothInRange right (from + atoms left) p q →
    BothInRange e from p q
both_right left right e from p q size h = record { before = in_right left right e from p size h.before; after = in_right left right e from q size h.after }

-- a step from a last to a first position of one body
around : (body : Expression) (from p q : ℕ) → is_last body from p && is_first body from q ≡ true → BothInRange body from p q
around body from p q h =
    let parts = and_parts (is_last body from p) (is_first body from q) h in
    record { before = last_range body from p parts.0; after = first_range body from q parts.1 }

-- a body of the same positions
same_range : (body e : Expression) (from p q : ℕ) → atoms e ≡ atoms body → BothInRange body from p q → BothInRange e from p q
same_range body e from p q size h =
    record {
      before = record { low = h.before.low; high = omega arith };
      after = record { low = h.after.low; high = omega arith };
    }

pub next_range : (e : Expression) (from p q : ℕ) → is_next e from p q ≡ true → BothInRange e from p q
next_range (Atom label) from p q h = absurd (false≢true h)
next_range (Seq left right) from p q h =
    let middle = from + atoms left in
    elim (or_cases (is_next left from p q || is_next right middle p q) (is_last left from p && is_first right middle q) h) [
      | inl within ↦ elim (or_cases (is_next left from p q) (is_next right middle p q) within) [
        | inl l ↦ both_left left right (Seq left right) from p q refl (next_range left from p q l)
        | inr r ↦ both_right left right (Seq left right) from p q refl (next_range right middle p q r)
      ]
      | inr over ↦ (let parts = and_parts (is_last left from p) (is_first right middle q) over in
          record {
            before = in_left left right (Seq left right) from p refl (last_range left from p parts.0);
            after = in_right left right (Seq left right) from q refl (first_range right middle q parts.1);
          })
    ]
next_range (Alt left right) from p q h =
    let middle = from + atoms left in
    elim (or_cases (is_next left from p q) (is_next right middle p q) h) [
      | inl l ↦ both_left left right (Alt left right) from p q refl (next_range left from p q l)
      | inr r ↦ both_right left right (Alt left right) from p q refl (next_range right middle p q r)
    ]
next_range (Star body) from p q h =
    elim (or_cases (is_next body from p q) (is_last body from p && is_first body from q) h) [
      | inl within ↦ same_range body (Star body) from p q refl (next_range body from p q within)
      | inr over ↦ same_range body (Star body) from p q refl (around body from p q over)
    ]
next_range (Plus body) from p q h =
    elim (or_cases (is_next body from p q) (is_last body from p && is_first body from q) h) [
      | inl within ↦ same_range body (Plus body) from p q refl (next_range body from p q within)
      | inr over ↦ same_range body (Plus body) from p q refl (around body from p q over)
    ]
next_range (Opt body) from p q h = same_range body (Opt body) from p q refl (next_range body from p q h)
