-- What forests are meant to be, as laws.
use Rattle.std.specs.Prelude.{◌≡◌, ◌≢◌, ℕ, ◌<◌, Contains, Option, None, Some}
use Rattle.edge_store.specs.declared.edge.EdgeId.{EdgeId}
use Rattle.edge_store.specs.Edges.{value_of}
use Rattle.dfa_table.specs.DfaValue.{step_of}
use Rattle.tree_insert.specs.Best.{IsBest}
use Rattle.source_tree.specs.declared.change.Change.TheVariants.{Raise, Remove, Expire}
use Rattle.delta_forest.specs.Changes.{Applies}
use Rattle.delta_forest.specs.Forest.{ForestValue, IsEnd, IsIndexed, kept}

-- what an indexed forest keeps for a root, a vertex and a state is the best of its store
abbrev pub KeptIsBest : Type 0
KeptIsBest = (forest : ForestValue) → IsIndexed forest → (root vertex state : ℕ) →
    IsBest (value_of forest.store) (step_of forest.dfa) root vertex state
    (kept forest root vertex state)

-- a root and a vertex have one end, or none
abbrev pub EndsAreOne : Type 0
EndsAreOne = (forest : ForestValue) (root vertex : ℕ) (one other : Option ℕ) →
    IsEnd forest root vertex one → IsEnd forest root vertex other → one ≡ other

-- each root and vertex have one, or none
abbrev pub EachHasAnEnd : Type 0
EachHasAnEnd = (forest : ForestValue) (root vertex : ℕ) →
    (end : Option ℕ) × IsEnd forest root vertex end

-- ---- trees that a change doesn't touch

-- nothing is kept for the root and the vertex, with any state
abbrev pub NeverReaches : ForestValue → ℕ → ℕ → Type 0
NeverReaches forest root vertex = (state : ℕ) → kept forest root vertex state ≡ None

-- each value that is kept for the root is greater than the number
abbrev pub AllLaterThan : ForestValue → ℕ → ℕ → Type 0
AllLaterThan forest root now = (vertex state value : ℕ) →
    kept forest root vertex state ≡ Some value → now < value

-- a raised edge that doesn't leave the root, nor a vertex that its tree reaches, doesn't touch the
-- tree
abbrev pub RaiseElsewhereTouchesNot : Type 0
RaiseElsewhereTouchesNot = (edge : EdgeId) (value : ℕ) (old new : ForestValue) (root : ℕ) →
    Applies (Raise edge value) old new → root ≢ edge.from → NeverReaches new root edge.from →
    Contains new.touched root → ⊥

-- nor does the removal of an edge that left neither the root nor a vertex that its tree reached
abbrev pub RemovalElsewhereTouchesNot : Type 0
RemovalElsewhereTouchesNot = (edge : EdgeId) (old new : ForestValue) (root : ℕ) →
    Applies (Remove edge) old new → root ≢ edge.from → NeverReaches old root edge.from →
    Contains new.touched root → ⊥

-- nor does an expiry before any of its values has come
abbrev pub EarlyExpiryTouchesNot : Type 0
EarlyExpiryTouchesNot = (now : ℕ) (old new : ForestValue) (root : ℕ) →
    Applies (Expire now) old new → AllLaterThan old root now → Contains new.touched root → ⊥
