-- The trees of some sources, each found by its root.
use Rattle.std.specs.Prelude.{◌≡◌, ◌==◌, ℕ, cond, List, map, find, Contains, Option, Some}
use Rattle.std.specs.List.{IsDistinct}
use Rattle.source_tree.specs.declared.change.Change.{Change}
use Rattle.source_tree.specs.Ends.{SourceValue}
use Rattle.source_tree.specs.Product.{ProductValue}
use Rattle.source_tree.specs.Taking.{HasTaken, IsReady}

-- the roots of these sources
abbrev pub roots_of : List SourceValue → List ℕ
roots_of sources = map (λ (each : SourceValue). each.tree.root) sources

-- the source with this root, or none where there is none
abbrev pub source_in : List SourceValue → ℕ → Option SourceValue
source_in sources root = find (λ (each : SourceValue). each.tree.root == root) sources

-- each root is that of one source at most
abbrev pub AreApart : List SourceValue → Type 0
AreApart sources = IsDistinct (λ (first second : ℕ). first == second) (roots_of sources)

-- the root has this source now, or none, and each other root the one that it had
abbrev pub GivesSource : List SourceValue → List SourceValue → ℕ → Option SourceValue → Type 0
GivesSource old new root source =
    (each : ℕ) → source_in new each ≡ cond (root == each) source (source_in old each)

-- the sources of these roots can take the change
abbrev pub AreReady : Change → ProductValue → List ℕ → List SourceValue → Type 0
AreReady change product roots sources =
    (root : ℕ) (source : SourceValue) → Contains roots root →
    source_in sources root ≡ Some source → IsReady change product source

-- the sources of these roots took the change, and all others are as they were
pub record HaveTaken (change : Change) (product : ProductValue) (roots : List ℕ)
    (old new : List SourceValue) : Type 0 where
  pub taken : (root : ℕ) (before after : SourceValue) → Contains roots root →
      source_in old root ≡ Some before → source_in new root ≡ Some after →
      HasTaken change product before after
  pub others : (root : ℕ) → (Contains roots root → ⊥) →
      source_in new root ≡ source_in old root
