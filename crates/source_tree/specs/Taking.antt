-- What a change of the store does to a tree.
use Rattle.std.specs.Prelude.{◌≡◌, ◌≢◌, ◌↔◌, ℕ, ◌^◌, ◌<◌, Bool, false, true, List, All, Contains, Option, is_some}
use Rattle.edge_store.specs.declared.edge.EdgeId.{EdgeId}
use Rattle.edge_store.specs.Edges.{above}
use Rattle.delta_tree.specs.declared.node.NodeId.{NodeId}
use Rattle.delta_tree.specs.Nodes.{TreeValue, node_of, value_of}
use Rattle.delta_tree.specs.Paths.{IsBelow}
use Rattle.delta_tree.specs.Changes.{IsDueAt}
use Rattle.tree_insert.specs.Trees.{IsLater, IsOptimal, IsRisen, Keeps, WasOptimal}
use Rattle.tree_delete.specs.Removal.{KeepsApart, WasOptimalWith}
use Rattle.source_tree.specs.Ends.{SourceValue, AreEndChanges, end_in}
use Rattle.source_tree.specs.Product.{ProductValue, AreFinals, AreHeld, IsOptimalOn, steps_of, values_of}
use Rattle.source_tree.specs.declared.change.Change.{Change}
use Rattle.source_tree.specs.declared.change.Change.TheVariants.{Raise, Remove, Expire}

-- the tree was optimal before this change made the values of the edges what they are
abbrev pub WasOptimalBefore : Change → ProductValue → TreeValue → Type 0
WasOptimalBefore (Raise edge value) product tree =
    WasOptimal (values_of product) (steps_of product) tree edge
WasOptimalBefore (Remove edge) product tree =
    WasOptimalWith (values_of product) (steps_of product) tree edge
WasOptimalBefore (Expire now) product tree =
    (before : EdgeId → Option ℕ) × IsOptimal before (steps_of product) tree
    × ((edge : EdgeId) → values_of product edge ≡ above now (before edge))

-- a node that the change may touch: one that is new or raised; one on whose path the removed edge
-- stood; one whose value is at most the clock
abbrev pub IsTouched : Change → TreeValue → TreeValue → NodeId → Type 0
IsTouched (Raise edge value) old new id = IsRisen old new id
IsTouched (Remove edge) old new id = IsBelow old edge id
IsTouched (Expire now) old new id = IsDueAt old now id

-- where a change touched the tree, some node was touched; where it didn't, all are as they were
pub record TellsTouched (change : Change) (old new : TreeValue) (touched : Bool) : Type 0 where
  pub some : touched ≡ true → (id : NodeId) × IsTouched change old new id
  pub none : touched ≡ false → (id : NodeId) → node_of new id ≡ node_of old id

-- whether a node stands there
abbrev pub stands : TreeValue → NodeId → Bool
stands tree id = is_some (value_of tree id)

-- whether the change is one by which nodes come, and none goes; by the others nodes go, and none
-- comes
abbrev pub is_raise : Change → Bool
is_raise (Raise edge value) = true
is_raise (Remove edge) = false
is_raise (Expire now) = false

-- the list has exactly the places where a node came or went, which is what such a change does
pub record AreMoved (change : Change) (old new : TreeValue) (ids : List NodeId) : Type 0 where
  pub exact : (id : NodeId) → Contains ids id ↔ (stands old id ≢ stands new id)
  pub way : All (λ id. stands new id ≡ is_raise change) ids

-- what stays as it was, with its parent, its parent edge and its stamp: a node that stood before
-- with the value that it has now; after a removal a node on whose path the edge didn't stand
abbrev pub KeepsNodes : Change → TreeValue → TreeValue → Type 0
KeepsNodes (Raise edge value) old new = Keeps old new
KeepsNodes (Remove edge) old new = KeepsApart old new edge
KeepsNodes (Expire now) old new = Keeps old new

-- a source can take the change: fewer than 2^126 puts were made on its tree, which was optimal
-- before it; the product has the final states of its automaton, and its holders have each node that
-- stood before
pub record IsReady (change : Change) (product : ProductValue) (source : SourceValue)
    : Type 0 where
  pub puts : source.tree.puts < 2 ^ 126
  pub before : WasOptimalBefore change product source.tree
  pub finals : AreFinals product.dfa product.finals
  pub held : AreHeld product.holders source.tree

-- a source took the change: its tree is optimal and keeps what the change doesn't touch; it reports
-- whether the change touched it, and exactly the places where nodes came or went and the ends that
-- did
pub record HasTaken (change : Change) (product : ProductValue) (old new : SourceValue)
    : Type 0 where
  pub optimal : IsOptimalOn product new.tree
  pub keeps : KeepsNodes change old.tree new.tree
  pub later : IsLater old.tree new.tree
  pub touched : TellsTouched change old.tree new.tree new.touched
  pub moved : AreMoved change old.tree new.tree new.moved
  pub log : AreEndChanges old.tree.root
      (end_in product.finals old.tree) (end_in product.finals new.tree) new.log
  pub unbroken : new.broken ≡ false
