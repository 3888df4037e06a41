-- The queue of the nodes that leave a tree.
use Rattle.std.proofs.Common.{◌≡◌, ◌+◌, ◌≤◌, ◌<◌, ℕ, Bool, true, false, cond, nat_lt, List, [], ◌∷◌, refl, sym, ap, subst, ◌∙◌, Option, None, Some, IfSome, IfNone, Contains, length, slice_get, ⊎_elim, arith}
use Rattle.std.proofs.lemmas.Bool.{cases_eq, lt-ltb, ltb-true}
use Rattle.std.proofs.lemmas.Map.Views.{Contains-from_lookup}
use Rattle.std.proofs.lemmas.Option.{slice_get-get_or}
use Rattle.std.proofs.lemmas.List.Sorted.{sum_by_pushed, sum_by_popped}
use Rattle.due_queue.specs.declared.due.Due.{Due}
use Rattle.due_queue.specs.Queue.{due, AllFrom, Notes, TakesNext}
use Rattle.due_queue.proofs.Items.{now_noted, still_noted}
use Rattle.delta_tree.specs.declared.node.NodeId.{NodeId}
use Rattle.delta_tree.specs.Nodes.{Node, TreeValue, same_node, node_in}
use Rattle.delta_tree.specs.Changes.{IsFloor}
use Rattle.delta_tree.specs.Dues.{IsNoted, pending}
use Rattle.delta_tree.proofs.Ids.{same_node_is, same_node_laws, some_is_one}

-- ---- how many are pending

pub pending_later : (now : ℕ) (old new : List (Due NodeId)) (id : NodeId) (value : ℕ) →
    now < value → Notes old new (due id value) → pending now new ≡ pending now old
pending_later now old new id value later moved =
    sum_by_pushed (λ (each : Due NodeId). cond (nat_lt now each.number) 0 1) (due id value)
    old new moved
    ∙ ap (λ (b : Bool). cond b 0 1 + pending now old) (lt-ltb now value later)
    ∙ omega arith

pub pending_taken : (now : ℕ) (old new : List (Due NodeId)) (next : Due NodeId) →
    TakesNext now old new next → pending now new < pending now old
pending_taken now old new next takes =
    omega (
      arith,
      sum_by_popped (λ (each : Due NodeId). cond (nat_lt now each.number) 0 1) next
          old new takes.taken,
      by (nat_lt now next.number) refl,
    )
  where
    by : (b : Bool) → nat_lt now next.number ≡ b →
        ◌≡◌ {A = ℕ} (cond (nat_lt now next.number) 0 1) 1
    by true below = absurd (omega (arith, ltb-true now next.number below, takes.reached))
    by false past = ap (λ (b : Bool). cond b 0 1) past

-- ---- nodes that are noted

-- a new node that is noted
pub noted_new : (nodes new : List (NodeId × Node)) (dues more : List (Due NodeId)) (id : NodeId)
    (node : Node) → IsNoted nodes dues →
    ((each : NodeId) → node_in new each ≡ cond (same_node id each) (Some node)
    (node_in nodes each)) →
    Notes dues more (due id node.value) → IsNoted new more
noted_new nodes new dues more id node noted update moved each found is = by (same_node id each) refl
  where
    by : (b : Bool) → same_node id each ≡ b →
        (value : ℕ) × (value ≤ found.value) × Contains more (due each value)
    by true same =
        let at : id ≡ each = same_node_is id each same in
        let here : node ≡ found = some_is_one node found
        (sym (ap (λ b. cond b (Some node) (node_in nodes each)) same) ∙ sym (update each) ∙ is)
        in (
          node.value,
          omega (arith, ap (λ (n : Node). n.value) here),
          subst
              (λ place. Contains more (due place node.value)) at
              (now_noted dues more (due id node.value) moved),
        )
    by false other =
        let (value, enough, there) = noted each found
        (sym (ap (λ b. cond b (Some node) (node_in nodes each)) other) ∙ sym (update each)
        ∙ is) in
        (value, enough, still_noted dues more (due id node.value) (due each value) moved there)

-- a node that is raised
pub noted_raised : (nodes new : List (NodeId × Node)) (dues : List (Due NodeId)) (id : NodeId)
    (node old : Node) → IsNoted nodes dues →
    ((each : NodeId) → node_in new each ≡ cond (same_node id each) (Some node)
    (node_in nodes each)) →
    node_in nodes id ≡ Some old → old.value ≤ node.value → IsNoted new dues
noted_raised nodes new dues id node old noted update stood raised each found is =
    by (same_node id each) refl
  where
    by : (b : Bool) → same_node id each ≡ b →
        (value : ℕ) × (value ≤ found.value) × Contains dues (due each value)
    by true same =
        let at : id ≡ each = same_node_is id each same in
        let here : node ≡ found = some_is_one node found
        (sym (ap (λ b. cond b (Some node) (node_in nodes each)) same) ∙ sym (update each) ∙ is)
        in
        let (value, enough, there) = noted id old stood in (
          value,
          omega (arith, ap (λ (n : Node). n.value) here, enough, raised),
          subst
              (λ place. Contains dues (due place value)) at there,
        )
    by false other = noted each found
        (sym (ap (λ b. cond b (Some node) (node_in nodes each)) other) ∙ sym (update each) ∙ is)

-- ---- nodes that are noted anew

-- the first of the nodes are noted with their values
abbrev pub AreNotedFirst : List (NodeId × Node) → List (Due NodeId) → ℕ → Type 0
AreNotedFirst nodes dues bound =
    (k : ℕ) (id : NodeId) (node : Node) → k < bound → slice_get nodes k ≡ Some (id, node) →
    Contains dues (due id node.value)

-- none at first
pub first_noted_none : (nodes : List (NodeId × Node)) (dues : List (Due NodeId)) →
    AreNotedFirst nodes dues 0
first_noted_none nodes dues k id node below is = absurd (omega (arith, below))

-- one node more
pub first_noted_more : (nodes : List (NodeId × Node)) (dues more : List (Due NodeId)) (bound : ℕ)
    (each : NodeId × Node) → AreNotedFirst nodes dues bound →
    slice_get nodes bound ≡ Some each → Notes dues more (due each.0 each.1.value) →
    AreNotedFirst nodes more (bound + 1)
first_noted_more nodes dues more bound each noted here moved k id node below is =
    ⊎_elim
    (λ (same : k ≡ bound).
    let one : each ≡ (id, node) =
    some_is_one each (id, node) (sym here ∙ ap (slice_get nodes) (sym same) ∙ is) in
    subst (λ (x : NodeId × Node). Contains more (due x.0 x.1.value)) one
    (now_noted dues more (due each.0 each.1.value) moved))
    (λ (apart : k ≡ bound → ⊥).
    still_noted dues more (due each.0 each.1.value) (due id node.value) moved
    (noted k id node (omega (arith, below, apart)) is))
    (cases_eq k bound)

-- all of them
pub all_noted : (nodes : List (NodeId × Node)) (dues : List (Due NodeId)) (bound : ℕ) →
    length nodes ≤ bound → AreNotedFirst nodes dues bound → IsNoted nodes dues
all_noted nodes dues bound all noted id node there =
    let (k, within, is) = Contains-from_lookup same_node_is id node nodes there in (
      node.value,
      omega arith,
      noted k id node (omega (arith, within, all))
          (slice_get-get_or nodes k (id, node) within ∙ ap Some is),
    )

-- ---- the least value

-- where nothing is noted there is no node
pub no_dues_no_nodes : (nodes : List (NodeId × Node)) (dues : List (Due NodeId)) → IsNoted nodes dues →
    dues ≡ [] → nodes ≡ []
no_dues_no_nodes [] dues noted none = refl
no_dues_no_nodes ((id, node) ∷ nodes) dues noted none =
    let (value, enough, there) =
    noted id node (ap (λ b. cond b (Some node) (node_in nodes id)) (same_node_laws.refl id)) in
    absurd (nothing (subst (λ (l : List (Due NodeId)). Contains l (due id value)) none there))
  where
    nothing : {each : Due NodeId} → Contains [] each → ⊥
    nothing (k, within, is) = omega (arith, within)

-- what no noted value is below, no node's is
pub floor_of : (tree : TreeValue) (dues : List (Due NodeId)) (found : Option ℕ) →
    IsNoted tree.nodes dues →
    IfSome found (λ least. AllFrom least dues) → IfSome found (IsFloor tree)
floor_of tree dues None noted least = tt
floor_of tree dues (Some number) noted least = λ id node is.
    let (value, enough, there) = noted id node is in
    let below = least (due id value) there in
    omega (arith, enough, below)

-- where none is first, there is no node
pub none_of : (nodes : List (NodeId × Node)) (dues : List (Due NodeId)) (found : Option ℕ) →
    IsNoted nodes dues → IfNone found (dues ≡ []) → IfNone found (nodes ≡ [])
none_of nodes dues None noted none = no_dues_no_nodes nodes dues noted none
none_of nodes dues (Some number) noted none = tt
