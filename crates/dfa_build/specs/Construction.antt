-- What the construction computes for an expression whose positions are numbered from `from`:
-- Glushkov's equations. No public contract cites this file.
use Rattle.std.specs.Prelude.{◌≡◌, ℕ, ◌+◌, Bool, false, ◌==◌, ◌&&◌, ◌||◌, map}
use Rattle.std.specs.List.{range_with_len}
use Rattle.path_syntax.specs.Expression.{Expression, Atom, Seq, Alt, Star, Plus, Opt}
use Rattle.path_syntax.specs.Laws.{is_nullable}
use Rattle.path_syntax.specs.Size.{atoms}
use Rattle.dfa_build.specs.declared.construction.Ends.{Ends}
use Rattle.dfa_build.specs.PositionSet.{has, numbers}
use Rattle.dfa_build.specs.Positions.{PositionsValue}
use Rattle.dfa_build.specs.Marked.{labels_of}

-- whether the position is a first one
abbrev pub is_first : Expression → ℕ → ℕ → Bool
is_first (Atom label) from p = p == from
is_first (Seq left right) from p =
    is_first left from p || (is_nullable left && is_first right (from + atoms left) p)
is_first (Alt left right) from p =
    is_first left from p || is_first right (from + atoms left) p
is_first (Star body) from p = is_first body from p
is_first (Plus body) from p = is_first body from p
is_first (Opt body) from p = is_first body from p

-- whether the position is a last one
abbrev pub is_last : Expression → ℕ → ℕ → Bool
is_last (Atom label) from p = p == from
is_last (Seq left right) from p =
    is_last right (from + atoms left) p || (is_nullable right && is_last left from p)
is_last (Alt left right) from p = is_last left from p || is_last right (from + atoms left) p
is_last (Star body) from p = is_last body from p
is_last (Plus body) from p = is_last body from p
is_last (Opt body) from p = is_last body from p

-- whether the position q follows the position p
abbrev pub is_next : Expression → ℕ → ℕ → ℕ → Bool
is_next (Atom label) from p q = false
is_next (Seq left right) from p q =
    (is_next left from p q || is_next right (from + atoms left) p q)
    || (is_last left from p && is_first right (from + atoms left) q)
is_next (Alt left right) from p q =
    is_next left from p q || is_next right (from + atoms left) p q
is_next (Star body) from p q =
    is_next body from p q || (is_last body from p && is_first body from q)
is_next (Plus body) from p q =
    is_next body from p q || (is_last body from p && is_first body from q)
is_next (Opt body) from p q = is_next body from p q

-- the first and last positions of the expression, whether it has the empty word, and the number
-- after those of its positions
pub record AreEnds (e : Expression) (from : ℕ) (ends : Ends) : Type 0 where
  pub first : (p : ℕ) → has ends.first p ≡ is_first e from p
  pub last : (p : ℕ) → has ends.last p ≡ is_last e from p
  pub nullable : ends.nullable ≡ is_nullable e
  pub next : ends.next ≡ from + atoms e

-- the record that the equations give
pub record IsConstructed (e : Expression) (positions : PositionsValue) : Type 0 where
  pub labels : positions.atoms ≡ labels_of e
  pub first : positions.first ≡ numbers (is_first e 0)
  pub last : positions.last ≡ numbers (is_last e 0)
  pub follow : positions.follow ≡ map (λ p. numbers (is_next e 0 p)) (range_with_len 0 (atoms e))
