-- What a change does to a part of the sources; no public contract cites these.
use Rattle.std.specs.Prelude.{◌≡◌, ℕ, ◌+◌, ◌<◌, false, List, length, All, Contains, slice_index_or}
use Rattle.source_tree.specs.declared.change.Change.{Change}
use Rattle.source_tree.specs.Ends.{SourceValue}
use Rattle.source_tree.specs.Product.{ProductValue}
use Rattle.source_tree.specs.Taking.{HasTaken, IsReady}

-- the source has the same root; where it is chosen it took the change unless it is broken, and else
-- it is as it was
pub record TriesIf (chosen : Type 0) (change : Change) (product : ProductValue)
    (before after : SourceValue) : Type 0 where
  pub root : after.tree.root ≡ before.tree.root
  pub taken : chosen → after.broken ≡ false → HasTaken change product before after
  pub other : (chosen → ⊥) → after ≡ before

-- the part begins at this place: its chosen sources can take the change
abbrev pub CanTry : List ℕ → ℕ → Change → ProductValue → List SourceValue → Type 0
CanTry chosen start change product part = (offset : ℕ) (d : SourceValue) →
    offset < length part → Contains chosen (start + offset) →
    IsReady change product (slice_index_or part offset d)

-- the part begins at this place: its chosen sources tried to take the change, and all others are
-- as they were
abbrev pub Tries : List ℕ → ℕ → Change → ProductValue → List SourceValue → List SourceValue →
    Type 0
Tries chosen start change product old new = (offset : ℕ) (d : SourceValue) →
    offset < length old → TriesIf (Contains chosen (start + offset)) change product
    (slice_index_or old offset d) (slice_index_or new offset d)

-- the part begins at `start`: its source at this place can take the change, where it is in the part
abbrev pub CanTryOne : ℕ → ℕ → Change → ProductValue → List SourceValue → Type 0
CanTryOne place start change product part = (offset : ℕ) (d : SourceValue) →
    offset < length part → place ≡ start + offset →
    IsReady change product (slice_index_or part offset d)

-- the part begins at `start`: its source at this place tried to take the change, and all others are
-- as they were
abbrev pub TriesOne : ℕ → ℕ → Change → ProductValue → List SourceValue → List SourceValue →
    Type 0
TriesOne place start change product old new = (offset : ℕ) (d : SourceValue) →
    offset < length old → TriesIf (place ≡ start + offset) change product
    (slice_index_or old offset d) (slice_index_or new offset d)

-- none of the chosen sources is broken
abbrev pub AreSound : List ℕ → List SourceValue → Type 0
AreSound chosen sources = All (λ place. (d : SourceValue) →
    (slice_index_or sources place d).broken ≡ false) chosen
