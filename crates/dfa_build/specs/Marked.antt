-- The marked expression: each atom replaced by its position. Its words are traces.
use Rattle.std.specs.Prelude.{◌≡◌, ◌≢◌, ℕ, ◌+◌, List, [], ◌∷◌, ◌++◌, ◌⊎◌, ◌↔◌, All, Contains}
use Rattle.std.specs.List.{flat_map}
use Rattle.rpq_base.specs.declared.data.Label.{Label}
use Rattle.path_syntax.specs.Expression.{Expression, Atom, Seq, Alt, Star, Plus, Opt}
use Rattle.path_syntax.specs.Size.{atoms}
use Rattle.dfa_build.specs.Positions.{PositionsValue, next_of, spelled}

-- the labels of the atoms, from left to right
abbrev pub labels_of : Expression → List Label
labels_of (Atom label) = label ∷ []
labels_of (Seq left right) = labels_of left ++ labels_of right
labels_of (Alt left right) = labels_of left ++ labels_of right
labels_of (Star body) = labels_of body
labels_of (Plus body) = labels_of body
labels_of (Opt body) = labels_of body

-- a set of traces
abbrev pub Traces : Type 1
Traces = List ℕ → Type 0

-- the traces that are one of the first set followed by one of the second
pub record IsJoinedTrace (first second : Traces) (trace : List ℕ) : Type 0 where
  pub front : List ℕ
  pub rest : List ℕ
  pub split : trace ≡ front ++ rest
  pub left : first front
  pub right : second rest

-- the traces that are any number of nonempty traces of the set, one after another
pub record IsRepeatedTrace (traces : Traces) (trace : List ℕ) : Type 0 where
  pub parts : List (List ℕ)
  pub joined : trace ≡ flat_map (λ part. part) parts
  pub nonempty : All (λ part. part ≢ []) parts
  pub within : All traces parts

-- the trace is a word of the marked expression whose positions are numbered from `from`
abbrev pub InMarked : Expression → ℕ → List ℕ → Type 0
InMarked (Atom label) from trace = trace ≡ from ∷ []
InMarked (Seq left right) from trace =
    IsJoinedTrace (InMarked left from) (InMarked right (from + atoms left)) trace
InMarked (Alt left right) from trace =
    InMarked left from trace ⊎ InMarked right (from + atoms left) trace
InMarked (Star body) from trace = IsRepeatedTrace (InMarked body from) trace
InMarked (Plus body) from trace =
    IsJoinedTrace (InMarked body from) (IsRepeatedTrace (InMarked body from)) trace
InMarked (Opt body) from trace = (trace ≡ []) ⊎ InMarked body from trace

-- some word of the marked expression begins with the position
abbrev pub BeginsAWord : Expression → ℕ → Type 0
BeginsAWord e p = (rest : List ℕ) × InMarked e 0 (p ∷ rest)

-- some word of it ends with the position
abbrev pub EndsAWord : Expression → ℕ → Type 0
EndsAWord e p = (front : List ℕ) × InMarked e 0 (front ++ p ∷ [])

-- in some word of it the second position stands right after the first
abbrev pub AreNeighbours : Expression → ℕ → ℕ → Type 0
AreNeighbours e p q = (front : List ℕ) × (rest : List ℕ) × InMarked e 0 (front ++ p ∷ q ∷ rest)

-- a word of the marked expression spells the word
abbrev pub IsSpelledByMarked : Expression → List Label → Type 0
IsSpelledByMarked e word =
    (trace : List ℕ) × InMarked e 0 trace × (word ≡ spelled (labels_of e) trace)

-- the labels are those of the atoms; the lists have the positions where a word may begin and end,
-- and for each position those that may stand right after it
pub record ArePositionsOf (e : Expression) (positions : PositionsValue) : Type 0 where
  pub labels : positions.atoms ≡ labels_of e
  pub first : (p : ℕ) → Contains positions.first p ↔ BeginsAWord e p
  pub last : (p : ℕ) → Contains positions.last p ↔ EndsAWord e p
  pub follow : (p q : ℕ) → Contains (next_of positions p) q ↔ AreNeighbours e p q
