-- The roots whose trees a change may touch. No public contract cites this file.
use Rattle.std.specs.Prelude.{◌≡◌, ◌⊎◌, ◌↔◌, ℕ, ◌<◌, List, [], Contains, Option, None, Some, IsSome, ⊤}
use Rattle.std.specs.Ordering.{nat_cmp}
use Rattle.std.specs.List.Sorted.{IsStrictlySortedBy}
use Rattle.edge_store.specs.declared.edge.EdgeId.{EdgeId}
use Rattle.delta_tree.specs.declared.node.NodeId.{NodeId}
use Rattle.delta_tree.specs.declared.node.Node.{Node}
use Rattle.delta_tree.specs.Nodes.{TreeValue, node_id, node_of}
use Rattle.delta_tree.specs.Paths.{HangsBy}
use Rattle.tree_insert.specs.Trees.{GoesOn}
use Rattle.source_tree.specs.declared.change.Change.{Change}
use Rattle.source_tree.specs.declared.change.Change.TheVariants.{Raise, Remove, Expire}
use Rattle.source_tree.specs.Ends.{SourceValue}
use Rattle.source_index.specs.Dues.{AllLater, DuesValue, due_of}
use Rattle.source_index.specs.Holders.{HoldersValue, Holds}
use Rattle.source_table.specs.Sources.{AreApart, source_in}
use Rattle.delta_forest.specs.Keeping.{HasNode}
use Rattle.delta_forest.specs.declared.index.Index.{Index}

-- the change leaves an optimal tree optimal: the raised edge can't be its next one, the removed one
-- stands in it nowhere, no node's value is at most the clock
abbrev pub IsElsewhere : Change → (ℕ → ℕ → Option ℕ) → TreeValue → Type 0
IsElsewhere (Raise edge value) step tree = GoesOn step tree edge → ⊥
IsElsewhere (Remove edge) step tree = (id : NodeId) → HangsBy tree edge id → ⊥
IsElsewhere (Expire now) step tree =
    (id : NodeId) (node : Node) → node_of tree id ≡ Some node → now < node.value

-- a node of the root's tree hangs by the edge
pub record HasHanging (sources : List SourceValue) (root : ℕ) (edge : EdgeId) : Type 0 where
  pub source : SourceValue
  pub id : NodeId
  pub found : source_in sources root ≡ Some source
  pub hangs : HangsBy source.tree edge id

-- why the change may touch the tree of a root
abbrev pub HasReason : Change → List SourceValue → ℕ → Type 0
HasReason (Raise edge value) sources root =
    (root ≡ edge.from) ⊎ ((state : ℕ) × HasNode sources root (node_id edge.from state))
HasReason (Remove edge) sources root = HasHanging sources root edge
HasReason (Expire now) sources root = ⊤

-- the source is new, and its root one of the list
pub record IsFresh (roots : List ℕ) (sources : List SourceValue) (root : ℕ)
    (source : SourceValue) : Type 0 where
  pub none : source_in sources root ≡ None
  pub root_is : source.tree.root ≡ root
  pub bare : source.tree.nodes ≡ []
  pub puts : source.tree.puts ≡ 0
  pub listed : Contains roots root

-- a source without nodes that is the root's
pub record IsBareAt (root : ℕ) (source : SourceValue) : Type 0 where
  pub root_is : source.tree.root ≡ root
  pub bare : source.tree.nodes ≡ []
  pub puts : source.tree.puts ≡ 0

-- the root has a source now, a new one where it had none; the others are as they were
pub record AddsSource (old new : List SourceValue) (root : ℕ) : Type 0 where
  pub apart : AreApart new
  pub stays : (each : ℕ) (source : SourceValue) →
      source_in old each ≡ Some source → source_in new each ≡ Some source
  pub only : (each : ℕ) (source : SourceValue) → source_in new each ≡ Some source →
      (source_in old each ≡ Some source)
      ⊎ ((each ≡ root) × (source_in old root ≡ None) × IsBareAt root source)
  pub there : IsSome (source_in new root)

-- the list has beside what it had exactly the roots of a kind
abbrev pub Adds : List ℕ → List ℕ → (ℕ → Type 0) → Type 0
Adds old new kind = (root : ℕ) → Contains new root ↔ (Contains old root ⊎ kind root)

-- the root is held where the edge leaves, with a state in which there is a step by it
abbrev pub IsHeldBy : HoldersValue → (ℕ → ℕ → Option ℕ) → EdgeId → ℕ → ℕ → Type 0
IsHeldBy holders step edge state root =
    IsSome (step state edge.label) × Holds holders (node_id edge.from state) root

-- so it is with some state
abbrev pub IsHeldBySome : HoldersValue → (ℕ → ℕ → Option ℕ) → EdgeId → ℕ → Type 0
IsHeldBySome holders step edge root = (state : ℕ) × IsHeldBy holders step edge state root

-- the tree of the root hangs there by the edge
abbrev pub IsHungAt : List SourceValue → EdgeId → NodeId → ℕ → Type 0
IsHungAt sources edge id root = (source : SourceValue) × (source_in sources root ≡ Some source)
    × HangsBy source.tree edge id

-- and the root is held at this other place
abbrev pub IsHungBy : List SourceValue → HoldersValue → EdgeId → NodeId → NodeId → ℕ → Type 0
IsHungBy sources holders edge place id root =
    Holds holders place root × IsHungAt sources edge id root

-- the tree of the root hangs by the edge where this ends, with the state that follows this one
abbrev pub IsHungAfter : List SourceValue → (ℕ → ℕ → Option ℕ) → EdgeId → ℕ → ℕ → Type 0
IsHungAfter sources step edge state root =
    (next : ℕ) × (step state edge.label ≡ Some next)
    × IsHungAt sources edge (node_id edge.to next) root

-- so it does after the start, and the root is the vertex that the edge leaves
abbrev pub IsHungRoot : List SourceValue → (ℕ → ℕ → Option ℕ) → EdgeId → ℕ → Type 0
IsHungRoot sources step edge root =
    (root ≡ edge.from) × IsHungAfter sources step edge 0 root

-- or after this state, and the root is held where the edge leaves, with this state
abbrev pub IsHungOver : List SourceValue → HoldersValue → (ℕ → ℕ → Option ℕ) → EdgeId →
    ℕ → ℕ → Type 0
IsHungOver sources holders step edge state root =
    Holds holders (node_id edge.from state) root × IsHungAfter sources step edge state root

-- those that the raise of an edge may touch
abbrev pub IsRaisedAt : HoldersValue → (ℕ → ℕ → Option ℕ) → EdgeId → ℕ → Type 0
IsRaisedAt holders step edge root =
    (IsSome (step 0 edge.label) × (root ≡ edge.from))
    ⊎ IsHeldBySome holders step edge root

-- the roots are in order, each once, and exactly those of the kind
pub record AreInOrder (kind : ℕ → Type 0) (roots : List ℕ) : Type 0 where
  pub sorted : IsStrictlySortedBy nat_cmp roots
  pub exact : (root : ℕ) → Contains roots root ↔ kind root

-- where the automaton has a step by the edge from its start, the vertex that it leaves has a source
-- and stands behind; else all is as it was
pub record StartsBy (old new : List SourceValue) (step : ℕ → ℕ → Option ℕ) (edge : EdgeId)
    (before roots : List ℕ) : Type 0 where
  pub apart : AreApart old → AreApart new
  pub stays : (each : ℕ) (source : SourceValue) →
      source_in old each ≡ Some source → source_in new each ≡ Some source
  pub only : (each : ℕ) (source : SourceValue) → source_in new each ≡ Some source →
      (source_in old each ≡ Some source)
      ⊎ ((each ≡ edge.from) × (source_in old edge.from ≡ None) × IsBareAt edge.from source
      × IsSome (step 0 edge.label))
  pub there : IsSome (step 0 edge.label) → IsSome (source_in new edge.from)
  pub adds : Adds before roots (λ root. IsSome (step 0 edge.label) × (root ≡ edge.from))

-- the sources and the roots after it, with those that are held where it leaves
pub record AreRaised (old new : List SourceValue) (holders : HoldersValue)
    (step : ℕ → ℕ → Option ℕ) (edge : EdgeId) (roots : List ℕ) : Type 0 where
  pub starts : (start : List ℕ) × StartsBy old new step edge [] start
  pub order : AreInOrder (IsRaisedAt holders step edge) roots

-- those that its removal may touch, by what is held where it ends
abbrev pub IsRemovedAt : List SourceValue → HoldersValue → EdgeId → ℕ → Type 0
IsRemovedAt sources holders edge root =
    (state : ℕ)
    × IsHungBy sources holders edge (node_id edge.to state) (node_id edge.to state) root

-- and by what is held where it leaves
abbrev pub IsRemovedFrom : List SourceValue → HoldersValue → (ℕ → ℕ → Option ℕ) → EdgeId →
    ℕ → Type 0
IsRemovedFrom sources holders step edge root =
    IsHungRoot sources step edge root
    ⊎ ((state : ℕ) × IsHungOver sources holders step edge state root)

-- those are added, by what is held at the one end or the other
abbrev pub AddsHanging : List SourceValue → HoldersValue → (ℕ → ℕ → Option ℕ) → EdgeId →
    List ℕ → List ℕ → Type 0
AddsHanging sources holders step edge old new =
    Adds old new (IsRemovedAt sources holders edge)
    ⊎ Adds old new (IsRemovedFrom sources holders step edge)

-- and are in order
abbrev pub AreRemoved : List SourceValue → HoldersValue → (ℕ → ℕ → Option ℕ) → EdgeId →
    List ℕ → Type 0
AreRemoved sources holders step edge roots =
    AreInOrder (IsRemovedAt sources holders edge) roots
    ⊎ AreInOrder (IsRemovedFrom sources holders step edge) roots

-- the roots are those whose numbers were at most the clock, in order
pub record AreTaken (old new : DuesValue) (now : ℕ) (roots : List ℕ) : Type 0 where
  pub sorted : IsStrictlySortedBy nat_cmp roots
  pub later : AllLater new now
  pub others : (root : ℕ) → (Contains roots root → ⊥) → due_of new root ≡ due_of old root

-- the raised edge has a source where the automaton steps by it from the start
abbrev pub StartsAt : Change → (ℕ → ℕ → Option ℕ) → List SourceValue → Type 0
StartsAt (Raise edge value) step sources =
    (state : ℕ) → step 0 edge.label ≡ Some state → IsSome (source_in sources edge.from)
StartsAt (Remove edge) step sources = ⊤
StartsAt (Expire now) step sources = ⊤

-- only an expiry takes numbers away
abbrev pub StaysDue : Change → DuesValue → DuesValue → Type 0
StaysDue (Raise edge value) old new = new ≡ old
StaysDue (Remove edge) old new = new ≡ old
StaysDue (Expire now) old new = ⊤

-- the roots that a change may touch, in order: the change is elsewhere in the trees of all others.
-- Sources have come in at roots of the list
pub record AreCandidates (change : Change) (step : ℕ → ℕ → Option ℕ) (old new : Index)
    (roots : List ℕ) : Type 0 where
  pub sorted : IsStrictlySortedBy nat_cmp roots
  pub apart : AreApart new.sources
  pub stays : (root : ℕ) (source : SourceValue) →
      source_in old.sources root ≡ Some source → source_in new.sources root ≡ Some source
  pub only : (root : ℕ) (source : SourceValue) → source_in new.sources root ≡ Some source →
      (source_in old.sources root ≡ Some source) ⊎ IsFresh roots old.sources root source
  pub starts : StartsAt change step new.sources
  pub elsewhere : (root : ℕ) (source : SourceValue) →
      source_in old.sources root ≡ Some source → (Contains roots root → ⊥) →
      IsElsewhere change step source.tree
  pub reason : (root : ℕ) → Contains roots root → HasReason change old.sources root
  pub holders : new.holders ≡ old.holders
  pub dues : (root : ℕ) → (Contains roots root → ⊥) →
      due_of new.dues root ≡ due_of old.dues root
  pub still : StaysDue change old.dues new.dues
