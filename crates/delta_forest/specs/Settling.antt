-- What follows in an index after its sources took a change. No public contract cites this file.
use Rattle.std.specs.Prelude.{◌≡◌, ◌≢◌, ◌↔◌, ℕ, Bool, true, false, nat_lt, List, [], ◌∷◌, ◌++◌, cond, length, filter, flat_map, Contains, IsTrue, None, Some}
use Rattle.std.specs.Option.{option_map, unwrap_or}
use Rattle.delta_tree.specs.declared.node.NodeId.{NodeId}
use Rattle.delta_tree.specs.Nodes.{IsTree}
use Rattle.edge_store.specs.Edges.{IsEmpty}
use Rattle.dfa_table.specs.DfaValue.{DfaValue}
use Rattle.source_tree.specs.declared.change.Change.{Change}
use Rattle.source_tree.specs.declared.change.Change.TheVariants.{Raise, Remove, Expire}
use Rattle.source_tree.specs.declared.change.EndChange.{EndChange}
use Rattle.source_tree.specs.Ends.{SourceValue}
use Rattle.source_tree.specs.Taking.{is_raise}
use Rattle.source_index.specs.Dues.{due_of}
use Rattle.source_index.specs.Holders.{HoldersValue, Holds}
use Rattle.source_table.specs.Sources.{AreApart, source_in}
use Rattle.delta_forest.specs.Forest.{ForestValue}
use Rattle.source_tree.specs.Product.{AreFinals}
use Rattle.delta_forest.specs.Keeping.{IsDueFor, IsKept, forest_with}
use Rattle.delta_forest.specs.declared.index.Index.{Index}
use Rattle.delta_forest.specs.declared.index.Findings.{Findings}
use Rattle.delta_forest.specs.declared.index.ForestState.{ForestState}

-- the root is held at all places of the list, or at none of them, and elsewhere as before
pub record HoldsAnew (old new : HoldersValue) (root : ℕ) (held : Bool) (ids : List NodeId)
    : Type 0 where
  pub listed : (id : NodeId) → Contains ids id → Holds new id root ↔ IsTrue held
  pub unlisted : (id : NodeId) → (Contains ids id → ⊥) → Holds new id root ↔ Holds old id root
  pub others : (id : NodeId) (each : ℕ) → each ≢ root → Holds new id each ↔ Holds old id each

-- the places where nodes of a source came or went, where the last change touched it
abbrev pub moved_of : SourceValue → List NodeId
moved_of source = cond source.touched source.moved []

-- the ends that came or went with the last change, where it touched the source
abbrev pub log_of : SourceValue → List EndChange
log_of source = cond source.touched source.log []

-- whether a node may be due before the number that is noted
abbrev pub is_sooner : Change → SourceValue → Bool
is_sooner (Raise edge value) source = nat_lt 0 (length source.moved)
is_sooner (Remove edge) source = source.touched
is_sooner (Expire now) source = true

-- whether the last change touched the source of this root
abbrev pub touched_at : List SourceValue → ℕ → Bool
touched_at sources root =
    unwrap_or (option_map (λ (each : SourceValue). each.touched) (source_in sources root)) false

-- the ends that came or went there
abbrev pub log_at : List SourceValue → ℕ → List EndChange
log_at sources root = unwrap_or (option_map log_of (source_in sources root)) []

-- the source of this root is followed after the change: its tree is a tree, its root is held at the
-- places where nodes came and at none where they went, and where a node may be due sooner, the root
-- has a number that is at most their values
pub record IsFollowed (change : Change) (old new : Index) (root : ℕ) (source : SourceValue)
    : Type 0 where
  pub tree : IsTree source.tree
  pub listed : (id : NodeId) → Contains (moved_of source) id →
      Holds new.holders id root ↔ IsTrue (is_raise change)
  pub unlisted : (id : NodeId) → (Contains (moved_of source) id → ⊥) →
      Holds new.holders id root ↔ Holds old.holders id root
  pub due : is_sooner change source ≡ true → IsDueFor new.dues root source.tree
  pub same : is_sooner change source ≡ false → due_of new.dues root ≡ due_of old.dues root

-- the holders and the number of a root are as they were
pub record IsLeft (old new : Index) (root : ℕ) : Type 0 where
  pub held : (id : NodeId) → Holds new.holders id root ↔ Holds old.holders id root
  pub due : due_of new.dues root ≡ due_of old.dues root

-- the sources of these roots are followed after the change, and those without nodes are gone; all
-- else is as it was
pub record AreSettled (change : Change) (old new : Index) (roots : List ℕ) : Type 0 where
  pub apart : AreApart new.sources
  pub kept : (root : ℕ) (source : SourceValue) → source_in old.sources root ≡ Some source →
      source.tree.nodes ≢ [] → source_in new.sources root ≡ Some source
  pub only : (root : ℕ) (source : SourceValue) → source_in new.sources root ≡ Some source →
      source_in old.sources root ≡ Some source
  pub some : (root : ℕ) (source : SourceValue) → Contains roots root →
      source_in new.sources root ≡ Some source → source.tree.nodes ≢ []
  pub same : (root : ℕ) → (Contains roots root → ⊥) →
      source_in new.sources root ≡ source_in old.sources root
  pub followed : (root : ℕ) (source : SourceValue) → Contains roots root →
      source_in old.sources root ≡ Some source → IsFollowed change old new root source
  pub absent : (root : ℕ) → source_in old.sources root ≡ None → IsLeft old new root
  pub left : (root : ℕ) → (Contains roots root → ⊥) → IsLeft old new root

-- of the last change, the roots that it touched and the ends that came or went
pub record AreFound (sources : List SourceValue) (roots : List ℕ) (found : Findings)
    : Type 0 where
  pub touched : found.touched.items ≡ filter (touched_at sources) roots
  pub log : found.log.items ≡ flat_map (log_at sources) roots

-- what is found at the source of a root comes behind
pub record FindsMore (old new : Findings) (source : SourceValue) (root : ℕ) : Type 0 where
  pub touched : new.touched.items ≡ old.touched.items ++ cond source.touched (root ∷ []) []
  pub log : new.log.items ≡ old.log.items ++ log_of source

-- the forest that a state is, over an automaton
abbrev pub forest_of : DfaValue → Bool → ForestState → ForestValue
forest_of dfa broken state =
    forest_with dfa state.store state.index.sources state.calls broken state.found.touched.items
    state.found.log.items

-- while a forest isn't broken, it keeps what it keeps between changes; its final states are known
pub record IsIntact (dfa : DfaValue) (finals : List ℕ) (broken : Bool) (state : ForestState)
    : Type 0 where
  pub finals_are : AreFinals dfa finals
  pub kept : broken ≡ false → IsKept dfa state.store state.calls state.index

-- what is found at the root, where it has a source, comes behind
pub record FindsAt (sources : List SourceValue) (old new : Findings) (root : ℕ) : Type 0 where
  pub touched : new.touched.items
      ≡ old.touched.items ++ cond (touched_at sources root) (root ∷ []) []
  pub log : new.log.items ≡ old.log.items ++ log_at sources root

-- nothing was changed yet
pub record IsNewState (state : ForestState) : Type 0 where
  pub store : IsEmpty state.store
  pub sources : state.index.sources ≡ []
  pub holders : state.index.holders ≡ []
  pub dues : state.index.dues ≡ []
  pub touched : state.found.touched.items ≡ []
  pub log : state.found.log.items ≡ []
  pub calls : state.calls ≡ 0
