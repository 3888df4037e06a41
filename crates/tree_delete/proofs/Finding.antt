-- The nodes below an edge, found from one another.
use Rattle.std.proofs.Common.{◌≡◌, ℕ, zero, suc, ◌≤◌, ◌<◌, ◌+◌, ⊎_elim, Bool, true, false, ◌&&◌, cond, List, [], ◌∷◌, ◌++◌, append_assoc, length, map, take, drop, slice_get, slice_index_or, Option, Some, None, refl, sym, ap, ap₂, subst, ◌∙◌, eq-eqb, arith, Contains}
use Rattle.std.specs.Prelude.{All, is_some, IsSome}
use Rattle.std.specs.List.{AllByRecursion, IsDistinct}
use Rattle.std.specs.Map.{keys_of}
use Rattle.std.proofs.lemmas.Bool.{cases_eq, true≢false}
use Rattle.std.proofs.lemmas.Option.{get_or_from_slice_get, none-some, same_Some, slice_get_within}
use Rattle.std.proofs.lemmas.List.{append-nil, take_all, take_more, take-append-drop, take-append-le, map-append}
use Rattle.std.proofs.lemmas.List.Elements.{All-contains, All-from_recursion, Contains-append_cases, Contains-append_left, Contains-append_right, Contains-get_or, Contains-push, recursion_from_All}
use Rattle.std.proofs.lemmas.List.Sums.{sum_by_push}
use Rattle.std.proofs.lemmas.Map.Keys.{IsDistinct-cons}
use Rattle.std.proofs.lemmas.Map.Steps.{length-le_from_keys}
use Rattle.std.proofs.lemmas.Map.Views.{Contains-from_any}
use Rattle.edge_store.specs.declared.edge.EdgeId.{EdgeId}
use Rattle.edge_store.specs.declared.edge.HalfEdge.{HalfEdge}
use Rattle.edge_store.specs.Edges.{Edges, GivesOuts, leaving, out_half, outs_of, same_edge, same_half}
use Rattle.edge_store.specs.Edges as store
use Rattle.dfa_table.specs.DfaValue.{DfaValue, step_of}
use Rattle.delta_tree.specs.declared.node.NodeId.{NodeId}
use Rattle.delta_tree.specs.declared.node.Node.{Node}
use Rattle.delta_tree.specs.Nodes.{TreeValue, IsTree, node_id, node_of, same_node}
use Rattle.delta_tree.specs.Paths.{HangsBelow, IsBelow, LeadsUp}
use Rattle.delta_tree.specs.Changes.{AreBelow}
use Rattle.delta_tree.proofs.Ids.{nothing_once, same_edge_is, same_edge_itself, same_node_is, same_node_laws}
use Rattle.delta_tree.proofs.Trees.{below_parent}
use Rattle.delta_tree.proofs.Ways.{node_has_path, parent_place}
use Rattle.tree_insert.specs.Trees.{count_outs}
use Rattle.tree_insert.specs.UnderWay.{AreSupported}
use Rattle.tree_insert.proofs.Bests as bests
use Rattle.tree_insert.proofs.Members.{contains_cases, contains_head, contains_none, contains_tail}
use Rattle.tree_insert.proofs.OpenTries.{step_within}
use Rattle.tree_insert.proofs.SameEdges.{edge_cases}
use Rattle.tree_delete.specs.Below.{all_onwards, child_at, child_of, children, hangs, nodes_in, onward, onwards, starts}
use Rattle.tree_delete.specs.Removal.{IsRemoved}

-- ---- lists whose members are apart

-- no member is equal to one after it
abbrev pub Apart : {X : Type 0} → List X → Type 0
Apart [] = Unit
Apart (x ∷ xs) = (Contains xs x → ⊥) × Apart xs

the_one : {X : Type 0} (x y : X) → Contains (x ∷ []) y → x ≡ y
the_one x y there = ⊎_elim (λ (same : x ≡ y). same) (λ (none : Contains [] y). absurd (contains_none y none))
    (contains_cases x [] y there)

apart_append : {X : Type 0} (xs ys : List X) → Apart xs → Apart ys →
    ((x : X) → Contains xs x → Contains ys x → ⊥) → Apart (xs ++ ys)
apart_append [] ys first second none = second
apart_append (x ∷ xs) ys first second none = (
  (λ there. ⊎_elim first.0 (none x (contains_head x xs)) (Contains-append_cases xs ys x there)),
  apart_append xs ys first.1 second (λ y here later. none y (contains_tail x xs y here) later),
)

apart_one : {X : Type 0} (x : X) → Apart (x ∷ [])
apart_one x = ((λ there. contains_none x there), tt)

contains_map : {X Y : Type 0} (f : X → Y) (xs : List X) (x : X) → Contains xs x →
    Contains (map f xs) (f x)
contains_map f [] x there = absurd (contains_none x there)
contains_map f (first ∷ xs) x there = ⊎_elim
    (λ (same : first ≡ x).
    subst (λ y. Contains (map f (first ∷ xs)) (f y)) same (contains_head (f first) (map f xs)))
    (λ (later : Contains xs x).
    contains_tail (f first) (map f xs) (f x) (contains_map f xs x later))
    (contains_cases first xs x there)

from_map : {X Y : Type 0} (f : X → Y) (xs : List X) (y : Y) → Contains (map f xs) y →
    (x : X) × Contains xs x × (f x ≡ y)
from_map f [] y there = absurd (contains_none y there)
from_map f (first ∷ xs) y there = ⊎_elim
    (λ (same : f first ≡ y). (first, contains_head first xs, same))
    (λ (later : Contains (map f xs) y).
    let (x, has, is) = from_map f xs y later in (x, contains_tail first xs x has, is))
    (contains_cases (f first) (map f xs) y there)

-- the first of a list with one more
take_next : {X : Type 0} (xs : List X) (place : ℕ) (x : X) → slice_get xs place ≡ Some x →
    take (place + 1) xs ≡ take place xs ++ x ∷ []
take_next xs place x there =
    take_more xs place x (slice_get_within xs place x there)
    ∙ ap (λ one. take place xs ++ one ∷ []) (get_or_from_slice_get xs place x x there)

-- and where the list has others behind
take_next_of : {X : Type 0} (xs more new : List X) (place : ℕ) (x : X) → slice_get xs place ≡ Some x →
    more ≡ xs ++ new → take (place + 1) more ≡ take place xs ++ x ∷ []
take_next_of xs more new place x there added =
    let within = slice_get_within xs place x there in
    ap (take (place + 1)) added ∙ take-append-le (place + 1) xs new (omega (arith, within))
    ∙ take_next xs place x there

-- what stands at a place of a list
there_at : {X : Type 0} (xs : List X) (place : ℕ) (x : X) → slice_get xs place ≡ Some x →
    Contains xs x
there_at xs place x there =
    (place, slice_get_within xs place x there, get_or_from_slice_get xs place x x there)

pub holds_at : {X : Type 0} (P : X → Type 0) (xs : List X) (place : ℕ) (x : X) → All P xs →
    slice_get xs place ≡ Some x → P x
holds_at P xs place x all there = All-contains P xs x all (there_at xs place x there)

-- the first of distinct places are apart
apart_first : (n : ℕ) (ids : List NodeId) → IsDistinct same_node ids → Apart (take n ids)
unfolding IsDistinct
apart_first zero ids once = tt
apart_first (suc n) [] once = tt
apart_first (suc n) (id ∷ ids) once = (
  (λ there.
      let has : Contains ids id =
      subst (λ (list : List NodeId). Contains list id) (take-append-drop n ids)
      (Contains-append_left (take n ids) (drop n ids) id there) in
      true≢false (sym (same_node_laws.refl id) ∙
      All-contains (λ (x : NodeId). same_node id x ≡ false) ids id
      (All-from_recursion (λ (x : NodeId). same_node id x ≡ false) ids once.0) has)),
  apart_first n ids once.1,
)

-- ---- places from which to look

start_is : (edge : EdgeId) (count : ℕ) (look : NodeId × EdgeId) → Contains (starts edge count) look →
    (look.1 ≡ edge) × (look.0.state < count)
start_is edge zero look there = absurd (contains_none look there)
start_is edge (suc count) look there = ⊎_elim
    (λ (before : Contains (starts edge count) look).
    let was = start_is edge count look before in (was.0, omega (arith, was.1)))
    (λ (here : Contains ((node_id edge.from count, edge) ∷ []) look).
    let is = the_one (node_id edge.from count, edge) look here in (
      ap (λ (l : NodeId × EdgeId). l.1) (sym is),
      omega (arith, ap (λ (l : NodeId × EdgeId). l.0.state) is),
    ))
    (Contains-append_cases (starts edge count) ((node_id edge.from count, edge) ∷ []) look there)

start_there : (edge : EdgeId) (count state : ℕ) → state < count →
    Contains (starts edge count) (node_id edge.from state, edge)
start_there edge zero state below = absurd (omega (arith, below))
start_there edge (suc count) state below = ⊎_elim
    (λ (same : state ≡ count).
    subst (λ (s : ℕ). Contains (starts edge (suc count)) (node_id edge.from s, edge)) (sym same)
    (Contains-push (starts edge count) (node_id edge.from count, edge)))
    (λ (apart : state ≡ count → ⊥).
    Contains-append_left (starts edge count) ((node_id edge.from count, edge) ∷ [])
    (node_id edge.from state, edge)
    (start_there edge count state (omega (arith, below, apart))))
    (cases_eq state count)

starts_apart : (edge : EdgeId) (count : ℕ) → Apart (starts edge count)
starts_apart edge zero = tt
starts_apart edge (suc count) =
    apart_append (starts edge count) ((node_id edge.from count, edge) ∷ []) (starts_apart edge count)
    (apart_one (node_id edge.from count, edge))
    (λ look before here.
    let is = the_one (node_id edge.from count, edge) look here in
    let was = start_is edge count look before in
    omega (arith, was.1, ap (λ (l : NodeId × EdgeId). l.0.state) is))

pub starts_more : (edge : EdgeId) (count : ℕ) →
    starts edge (count + 1) ≡ starts edge count ++ (node_id edge.from count, edge) ∷ []
starts_more edge count = ap (starts edge) {x = count + 1} {y = suc count} (omega arith)

same_half_itself : (half : HalfEdge) → same_half half half ≡ true
same_half_itself half =
    ap₂ (λ a b. a && b) (eq-eqb half.label half.label refl) (eq-eqb half.far half.far refl)

-- one edge of a walk more
pub onwards_more : (from : NodeId) (row : List (HalfEdge × ℕ)) (place : ℕ) (out : HalfEdge × ℕ) →
    slice_get row place ≡ Some out →
    map (onward from) (take (place + 1) row) ≡ map (onward from) (take place row)
    ++ onward from out ∷ []
onwards_more from row place out there =
    ap (map (onward from)) (take_next row place out there)
    ∙ map-append (onward from) (take place row) (out ∷ [])

-- the edges that leave one place more
pub counted_next : (values : Edges) (ids more new : List NodeId) (place : ℕ) (from : NodeId) →
    slice_get ids place ≡ Some from → more ≡ ids ++ new →
    count_outs values (take (place + 1) more)
    ≡ count_outs values (take place ids) + length (outs_of values from.vertex)
counted_next values ids more new place from there added =
    ap (count_outs values) (take_next_of ids more new place from there added)
    ∙ sum_by_push (λ (id : NodeId). length (outs_of values id.vertex)) (take place ids) from

-- the edge of a half that no other half equals leaves once
not_again : (from : NodeId) (half : HalfEdge) (row : List (HalfEdge × ℕ)) (look : NodeId × EdgeId) →
    AllByRecursion (λ (y : HalfEdge). same_half half y ≡ false) (keys_of row) →
    look.1 ≡ leaving from.vertex half → Contains (map (onward from) row) look → ⊥
not_again from half [] look differ is there = contains_none look there
not_again from half (out ∷ row) look differ is there = ⊎_elim
    (λ (here : onward from out ≡ look).
    let same : out.0 ≡ half =
    ap (λ (e : EdgeId). out_half e) (ap (λ (l : NodeId × EdgeId). l.1) here ∙ is) in
    true≢false (sym (same_half_itself half) ∙ ap (same_half half) (sym same) ∙ differ.0))
    (λ (later : Contains (map (onward from) row) look).
    not_again from half row look differ.1 is later)
    (contains_cases (onward from out) (map (onward from) row) look there)

row_apart : (from : NodeId) (row : List (HalfEdge × ℕ)) → IsDistinct same_half (keys_of row) →
    Apart (map (onward from) row)
unfolding IsDistinct
row_apart from [] once = tt
row_apart from (out ∷ row) once = (
  (λ there. not_again from out.0 row (onward from out) once.0 refl there),
  row_apart from row once.1,
)

module _ (values : Edges) where
  -- the vertices of these places are walked whole
  abbrev pub AreWalked : List NodeId → Type 0
  AreWalked froms = (from : NodeId) → Contains froms from → GivesOuts values from.vertex

  -- an edge from there has a value
  onward_is : (from : NodeId) (look : NodeId × EdgeId) → GivesOuts values from.vertex →
      Contains (onwards values from) look →
      (look.0 ≡ from) × ((value : ℕ) × (store.value_of values look.1 ≡ Some value))
  onward_is from look gives there =
      let (out, has, is) = from_map (onward from) (outs_of values from.vertex) look there in (
        ap (λ (l : NodeId × EdgeId). l.0) (sym is),
        (
          out.1,
          ap (λ (l : NodeId × EdgeId). store.value_of values l.1) (sym is)
              ∙ (gives.exact out.0 out.1).0 has,
        ),
      )

  all_onward_is : (froms : List NodeId) (look : NodeId × EdgeId) → AreWalked froms →
      Contains (all_onwards values froms) look →
      Contains froms look.0 × ((value : ℕ) × (store.value_of values look.1 ≡ Some value))
  all_onward_is [] look walked there = absurd (contains_none look there)
  all_onward_is (from ∷ froms) look walked there = ⊎_elim
      (λ (here : Contains (onwards values from) look).
      let is = onward_is from look (walked from (contains_head from froms)) here in
      (subst (Contains (from ∷ froms)) (sym is.0) (contains_head from froms), is.1))
      (λ (later : Contains (all_onwards values froms) look).
      let is = all_onward_is froms look (λ each has. walked each (contains_tail from froms each has))
      later in
      (contains_tail from froms look.0 is.0, is.1))
      (Contains-append_cases (onwards values from) (all_onwards values froms) look there)

  all_onwards_there : (froms : List NodeId) (from : NodeId) (look : NodeId × EdgeId) →
      Contains froms from → Contains (onwards values from) look →
      Contains (all_onwards values froms) look
  all_onwards_there [] from look there has = absurd (contains_none from there)
  all_onwards_there (first ∷ froms) from look there has = ⊎_elim
      (λ (same : first ≡ from).
      Contains-append_left (onwards values first) (all_onwards values froms) look
      (subst (λ (f : NodeId). Contains (onwards values f) look) (sym same) has))
      (λ (later : Contains froms from).
      Contains-append_right (onwards values first) (all_onwards values froms) look
      (all_onwards_there froms from look later has))
      (contains_cases first froms from there)

  all_onwards_apart : (froms : List NodeId) → AreWalked froms → Apart froms →
      Apart (all_onwards values froms)
  all_onwards_apart [] walked apart = tt
  all_onwards_apart (from ∷ froms) walked apart =
      let here = walked from (contains_head from froms) in
      let others : AreWalked froms = λ each has. walked each (contains_tail from froms each has) in
      apart_append (onwards values from) (all_onwards values froms)
      (row_apart from (outs_of values from.vertex) here.once)
      (all_onwards_apart froms others apart.1)
      (λ look first later.
      apart.0 (subst (Contains froms) (onward_is from look here first).0
      (all_onward_is froms look others later).0))

  all_onwards_more : (froms : List NodeId) (from : NodeId) →
      all_onwards values (froms ++ from ∷ []) ≡ all_onwards values froms ++ onwards values from
  all_onwards_more [] from = append-nil (onwards values from)
  all_onwards_more (first ∷ froms) from =
      ap (λ (rest : List (NodeId × EdgeId)). onwards values first ++ rest)
      (all_onwards_more froms from)
      ∙ sym (append_assoc (onwards values first) (all_onwards values froms) (onwards values from))

  -- the edge of which the store has no value is none of the others
  looks_apart : (edge : EdgeId) (count : ℕ) (froms : List NodeId) → AreWalked froms → Apart froms →
      store.value_of values edge ≡ None → Apart (starts edge count ++ all_onwards values froms)
  looks_apart edge count froms walked apart gone =
      apart_append (starts edge count) (all_onwards values froms) (starts_apart edge count)
      (all_onwards_apart froms walked apart)
      (λ look first later.
      let there = (all_onward_is froms look walked later).1 in
      none-some there.0
      (sym gone ∙ (ap (store.value_of values) (sym (start_is edge count look first).0) ∙ there.1)))

-- ---- nodes that hang there

both : (a b : Bool) → (a && b) ≡ true → (a ≡ true) × (b ≡ true)
both true b is = (refl, is)
both false b is = absurd (true≢false (sym is))

hangs_is : (found : Option Node) (parent : NodeId) (edge : EdgeId) → hangs found parent edge ≡ true →
    (node : Node) × (found ≡ Some node) × (node.parent ≡ parent) × (node.edge ≡ edge)
hangs_is None parent edge is = absurd (true≢false (sym is))
hangs_is (Some node) parent edge is =
    let parts = both (same_edge node.edge edge) (same_node node.parent parent) is in
    (node, refl, same_node_is node.parent parent parts.1, same_edge_is node.edge edge parts.0)

hangs_so : (found : Option Node) (parent : NodeId) (edge : EdgeId) (node : Node) →
    found ≡ Some node → node.parent ≡ parent → node.edge ≡ edge → hangs found parent edge ≡ true
hangs_so found parent edge node is above by_edge =
    ap (λ (f : Option Node). hangs f parent edge) is
    ∙ ap₂ (λ a b. a && b)
    (ap (λ (e : EdgeId). same_edge e edge) by_edge ∙ same_edge_itself edge)
    (ap (λ (p : NodeId). same_node p parent) above ∙ same_node_laws.refl parent)

module _ (step : ℕ → ℕ → Option ℕ) (tree : TreeValue) where
  child_hangs : (from : NodeId) (edge : EdgeId) (id : NodeId) →
      child_of step tree from edge ≡ Some id → HangsBelow tree from edge id
  child_hangs from edge id = by (step from.state edge.label)
    where
      at : (b : Bool) (place : NodeId) → hangs (node_of tree place) from edge ≡ b →
          cond b (Some place) None ≡ Some id → HangsBelow tree from edge id
      at true place passes is =
          subst (HangsBelow tree from edge) (same_Some place id is)
          (hangs_is (node_of tree place) from edge passes)
      at false place passes is = absurd (none-some id is)

      by : (state : Option ℕ) → child_at tree from edge state ≡ Some id →
          HangsBelow tree from edge id
      by None is = absurd (none-some id is)
      by (Some state) is =
          at (hangs (node_of tree (node_id edge.to state)) from edge) (node_id edge.to state) refl is

  child_is : (id : NodeId) (node : Node) → node_of tree id ≡ Some node →
      step node.parent.state node.edge.label ≡ Some id.state → node.edge.to ≡ id.vertex →
      child_of step tree node.parent node.edge ≡ Some id
  child_is id node there leads ends =
      let at : NodeId = node_id node.edge.to id.state in
      let at_is : at ≡ id = λ i. record { vertex = ends i; state = id.state } in
      ap (child_at tree node.parent node.edge) leads
      ∙ ap (λ (b : Bool). cond b (Some at) None)
      (hangs_so (node_of tree at) node.parent node.edge node (ap (node_of tree) at_is ∙ there) refl
      refl)
      ∙ ap (λ (place : NodeId). Some place) at_is

  pub children_append : (looks more : List (NodeId × EdgeId)) →
      children step tree (looks ++ more) ≡ children step tree looks ++ children step tree more
  children_append [] more = refl
  children_append (look ∷ looks) more =
      ap (λ (rest : List NodeId). nodes_in (child_of step tree look.0 look.1) ++ rest)
      (children_append looks more)
      ∙ sym (append_assoc (nodes_in (child_of step tree look.0 look.1)) (children step tree looks)
      (children step tree more))

  -- those of one place more
  pub children_more : (looks : List (NodeId × EdgeId)) (from : NodeId) (edge : EdgeId) →
      children step tree (looks ++ (from, edge) ∷ [])
      ≡ children step tree looks ++ nodes_in (child_of step tree from edge)
  children_more looks from edge =
      children_append looks ((from, edge) ∷ [])
      ∙ ap (λ (rest : List NodeId). children step tree looks ++ rest)
      (append-nil (nodes_in (child_of step tree from edge)))

  in_nodes : (found : Option NodeId) (id : NodeId) → Contains (nodes_in found) id → found ≡ Some id
  in_nodes None id there = absurd (contains_none id there)
  in_nodes (Some each) id there = ap (λ (x : NodeId). Some x) (the_one each id there)

  child_looked : (looks : List (NodeId × EdgeId)) (id : NodeId) →
      Contains (children step tree looks) id →
      (look : NodeId × EdgeId) × Contains looks look × HangsBelow tree look.0 look.1 id
  child_looked [] id there = absurd (contains_none id there)
  child_looked (look ∷ looks) id there = ⊎_elim
      (λ (here : Contains (nodes_in (child_of step tree look.0 look.1)) id). (
        look,
        contains_head look looks,
        child_hangs look.0 look.1 id (in_nodes (child_of step tree look.0 look.1) id here),
      ))
      (λ (later : Contains (children step tree looks) id).
      let (other, has, hung) = child_looked looks id later in
      (other, contains_tail look looks other has, hung))
      (Contains-append_cases (nodes_in (child_of step tree look.0 look.1))
      (children step tree looks) id there)

  child_there : (looks : List (NodeId × EdgeId)) (look : NodeId × EdgeId) (id : NodeId) →
      Contains looks look → child_of step tree look.0 look.1 ≡ Some id →
      Contains (children step tree looks) id
  child_there [] look id there is = absurd (contains_none look there)
  child_there (first ∷ looks) look id there is = ⊎_elim
      (λ (same : first ≡ look).
      let found : child_of step tree first.0 first.1 ≡ Some id =
      ap (λ (l : NodeId × EdgeId). child_of step tree l.0 l.1) same ∙ is in
      subst (λ (c : Option NodeId). Contains (nodes_in c ++ children step tree looks) id)
      (sym found) (contains_head id (children step tree looks)))
      (λ (later : Contains looks look).
      Contains-append_right (nodes_in (child_of step tree first.0 first.1))
      (children step tree looks) id (child_there looks look id later is))
      (contains_cases first looks look there)

  -- a node hangs at one place alone
  hangs_once : (look other : NodeId × EdgeId) (id : NodeId) → HangsBelow tree look.0 look.1 id →
      HangsBelow tree other.0 other.1 id → look ≡ other
  hangs_once look other id (node, is, above, by_edge) (found, there, parent, by_other) =
      let same : node ≡ found = same_Some node found (sym is ∙ there) in
      λ i. (
        (sym above ∙ (ap (λ (n : Node). n.parent) same ∙ parent)) i,
        (sym by_edge ∙ (ap (λ (n : Node). n.edge) same ∙ by_other)) i,
      )

  not_same : (id other : NodeId) → (id ≡ other → ⊥) → same_node id other ≡ false
  not_same id other apart = by (same_node id other) refl
    where
      by : (b : Bool) → same_node id other ≡ b → b ≡ false
      by true is = absurd (apart (same_node_is id other is))
      by false is = refl

  one_more_once : (look : NodeId × EdgeId) (looks : List (NodeId × EdgeId)) (found : Option NodeId) →
      (Contains looks look → ⊥) →
      ((id : NodeId) → found ≡ Some id → HangsBelow tree look.0 look.1 id) →
      IsDistinct same_node (children step tree looks) →
      IsDistinct same_node (nodes_in found ++ children step tree looks)
  one_more_once look looks None apart hung once = once
  one_more_once look looks (Some id) apart hung once =
      IsDistinct-cons same_node id (children step tree looks)
      (recursion_from_All (λ (other : NodeId). same_node id other ≡ false)
      (children step tree looks)
      (λ k d within.
      let other = slice_index_or (children step tree looks) k d in
      not_same id other
      (λ same.
      let (place, has, there) =
      child_looked looks other (Contains-get_or (children step tree looks) k d within) in
      apart (subst (Contains looks)
      (sym (hangs_once look place id (hung id refl)
      (subst (HangsBelow tree place.0 place.1) (sym same) there)))
      has))))
      once

  children_once : (looks : List (NodeId × EdgeId)) → Apart looks →
      IsDistinct same_node (children step tree looks)
  children_once [] apart = nothing_once
  children_once (look ∷ looks) apart =
      one_more_once look looks (child_of step tree look.0 look.1) apart.0
      (λ id is. child_hangs look.0 look.1 id is) (children_once looks apart.1)

-- ---- the search

-- a node that hangs by the edge is below it
by_edge_below : (tree : TreeValue) (edge : EdgeId) (from id : NodeId) → IsTree tree →
    HangsBelow tree from edge id → IsBelow tree edge id
by_edge_below tree edge from id is (node, there, above, by_edge) =
    let (up, leads) = node_has_path tree node.parent is (parent_place tree id node is there) in
    (node.edge ∷ up, (node, there, refl, leads), (0, omega arith, by_edge))

-- and so is one that hangs below such a node
onward_below : (tree : TreeValue) (edge : EdgeId) (from : NodeId) (each : EdgeId) (id : NodeId) →
    IsBelow tree edge from → HangsBelow tree from each id → IsBelow tree edge id
onward_below tree edge from each id below (node, there, above, by_edge) =
    below_parent tree edge id node there (subst (IsBelow tree edge) (sym above) below)

-- who is below an edge is a node
below_is_node : (tree : TreeValue) (edge : EdgeId) (id : NodeId) → IsBelow tree edge id →
    IsSome (node_of tree id)
below_is_node tree edge id ([], leads, has) = absurd (contains_none edge has)
below_is_node tree edge id (first ∷ up, (node, there, by_first, leads), has) = ap is_some there

-- these are the nodes that hang by the edge, and below the first of them
pub record IsFinding (values : Edges) (dfa : DfaValue) (tree : TreeValue) (edge : EdgeId)
    (ids : List NodeId) (place : ℕ) : Type 0 where
  pub found : ids ≡ children (step_of dfa) tree
      (starts edge (length dfa.rows) ++ all_onwards values (take place ids))
  pub once : IsDistinct same_node ids
  pub below : (id : NodeId) → Contains ids id → IsBelow tree edge id
  pub walked : AreWalked values (take place ids)
  pub fits : place ≤ length ids

module _ (values : Edges) (dfa : DfaValue) (tree : TreeValue) (edge : EdgeId) (is : IsTree tree) where
  pub finding_none : (ids : List NodeId) →
      ids ≡ children (step_of dfa) tree (starts edge (length dfa.rows)) →
      IsFinding values dfa tree edge ids 0
  finding_none ids found = record {
    found = found
        ∙ ap (children (step_of dfa) tree) (sym (append-nil (starts edge (length dfa.rows))));
    once = subst (IsDistinct same_node) (sym found)
        (children_once (step_of dfa) tree (starts edge (length dfa.rows))
        (starts_apart edge (length dfa.rows)));
    below = λ id there.
        let (look, has, hung) =
        child_looked (step_of dfa) tree (starts edge (length dfa.rows)) id
        (subst (λ (list : List NodeId). Contains list id) found there) in
        by_edge_below tree edge look.0 id is
        (subst (λ (e : EdgeId). HangsBelow tree look.0 e id)
        (start_is edge (length dfa.rows) look has).0 hung);
    walked = λ from there. absurd (contains_none from there);
    fits = omega arith;
  }

  pub finding_more : (ids more : List NodeId) (place : ℕ) (from : NodeId) →
      store.value_of values edge ≡ None → IsFinding values dfa tree edge ids place →
      slice_get ids place ≡ Some from → GivesOuts values from.vertex →
      more ≡ ids ++ children (step_of dfa) tree (onwards values from) →
      IsFinding values dfa tree edge more (place + 1)
  finding_more ids more place from gone are there_from gives added =
      let within = slice_get_within ids place from there_from in
      let at = take_next ids place from there_from in
      let step = step_of dfa in
      let begin = starts edge (length dfa.rows) in
      let new = children step tree (onwards values from) in
      let first : take (place + 1) more ≡ take (place + 1) ids =
      ap (take (place + 1)) added ∙ take-append-le (place + 1) ids new (omega (arith, within)) in
      let walked : AreWalked values (take (place + 1) more) = λ each there. ⊎_elim
      (λ (before : Contains (take place ids) each). are.walked each before)
      (λ (here : Contains (from ∷ []) each).
      subst (λ (f : NodeId). GivesOuts values f.vertex) (the_one from each here) gives)
      (Contains-append_cases (take place ids) (from ∷ []) each
      (subst (λ (list : List NodeId). Contains list each) (first ∙ at) there)) in
      let found : more ≡ children step tree (begin ++ all_onwards values (take (place + 1) more)) =
      added
      ∙ ap (λ (list : List NodeId). list ++ new) are.found
      ∙ sym (children_append step tree (begin ++ all_onwards values (take place ids))
      (onwards values from))
      ∙ ap (children step tree)
      (append_assoc begin (all_onwards values (take place ids)) (onwards values from)
      ∙ ap (λ (rest : List (NodeId × EdgeId)). begin ++ rest)
      (sym (all_onwards_more values (take place ids) from)
      ∙ ap (all_onwards values) (sym (first ∙ at)))) in
      record {
        found = found;
        once = subst (IsDistinct same_node) (sym found)
            (children_once step tree (begin ++ all_onwards values (take (place + 1) more))
            (looks_apart values edge (length dfa.rows) (take (place + 1) more) walked
            (subst (λ (list : List NodeId). Apart list) (sym first)
            (apart_first (place + 1) ids are.once)) gone));
        below = λ id there. ⊎_elim
            (λ (old : Contains ids id). are.below id old)
            (λ (added_now : Contains new id).
            let (look, has, hung) = child_looked step tree (onwards values from) id added_now in
            onward_below tree edge from look.1 id (are.below from (there_at ids place from there_from))
            (subst (λ (f : NodeId). HangsBelow tree f look.1 id)
            (onward_is values from look gives has).0 hung))
            (Contains-append_cases ids new id
            (subst (λ (list : List NodeId). Contains list id) added there));
        walked = walked;
        fits = omega (
          arith,
          within,
          ap (λ (list : List NodeId). length list) added,
          length_more ids new,
        );
      }
    where
      length_more : (xs ys : List NodeId) → length xs ≤ length (xs ++ ys)
      length_more [] ys = omega arith
      length_more (x ∷ xs) ys = omega (arith, length_more xs ys)

  -- no more are found than there are nodes
  pub finding_few : (ids : List NodeId) (place : ℕ) → IsFinding values dfa tree edge ids place →
      length ids ≤ length tree.nodes
  finding_few ids place are =
      length-le_from_keys same_node_laws ids tree.nodes are.once
      (λ id any. below_is_node tree edge id
      (are.below id (Contains-from_any same_node_is id ids any)))

  module _ (before : EdgeId → Option ℕ) (removed : IsRemoved before (store.value_of values) edge)
      (supported : AreSupported before (step_of dfa) tree) where
    -- whose path has the edge is found
    found_below : (ids : List NodeId) → IsFinding values dfa tree edge ids (length ids) →
        take (length ids) ids ≡ ids → (up : List EdgeId) (id : NodeId) → LeadsUp tree id up →
        Contains up edge → Contains ids id
    found_below ids are whole [] id leads has = absurd (contains_none edge has)
    found_below ids are whole (first ∷ up) id (node, there, by_first, leads) has =
        let step = step_of dfa in
        let begin = starts edge (length dfa.rows) in
        let after = all_onwards values (take (length ids) ids) in
        let stands = is id node there in
        let support = supported id node there in
        let child = child_is step tree id node there support.leads stands.joins.ends in
        let looked : Contains (begin ++ after) (node.parent, node.edge) → Contains ids id =
        λ look. subst (λ (list : List NodeId). Contains list id) (sym are.found)
        (child_there step tree (begin ++ after) (node.parent, node.edge) id look child) in
        ⊎_elim
        (λ (same : node.edge ≡ edge).
        let at : (node_id edge.from node.parent.state, edge) ≡ (node.parent, node.edge) =
        λ i. (
          record {
            vertex = (ap (λ (e : EdgeId). e.from) (sym same) ∙ stands.joins.leaves) i;
            state = node.parent.state;
          },
          sym same i,
        ) in
        looked (Contains-append_left begin after (node.parent, node.edge)
        (subst (Contains begin) at
        (start_there edge (length dfa.rows) node.parent.state
        (step_within dfa node.parent.state node.edge.label id.state support.leads)))))
        (λ (apart : node.edge ≡ edge → ⊥).
        let above : Contains up edge = ⊎_elim
        (λ (here : first ≡ edge). absurd (apart (by_first ∙ here)))
        (λ (later : Contains up edge). later)
        (contains_cases first up edge has) in
        let parent : Contains ids node.parent =
        found_below ids are whole up node.parent leads above in
        let among : Contains (take (length ids) ids) node.parent =
        subst (λ (list : List NodeId). Contains list node.parent) (sym whole) parent in
        let gives = are.walked node.parent among in
        let half = out_half node.edge in
        let same : leaving node.parent.vertex half ≡ node.edge =
        λ i. record {
          from = sym stands.joins.leaves i;
          label = node.edge.label;
          to = node.edge.to;
        } in
        let kept = bests.value_of (before node.edge) node.value support.edge in
        let has_half : Contains (outs_of values node.parent.vertex) (half, kept.0) =
        (gives.exact half kept.0).1
        (ap (store.value_of values) same ∙ (removed.others node.edge apart ∙ kept.1)) in
        let onto : Contains (onwards values node.parent) (node.parent, node.edge) =
        subst (Contains (onwards values node.parent))
        (λ i. (node.parent, same i))
        (contains_map (onward node.parent) (outs_of values node.parent.vertex) (half, kept.0)
        has_half) in
        looked (Contains-append_right begin after (node.parent, node.edge)
        (all_onwards_there values (take (length ids) ids) node.parent (node.parent, node.edge) among
        onto)))
        (edge_cases node.edge edge)

    pub finding_all : (ids : List NodeId) (place : ℕ) → IsFinding values dfa tree edge ids place →
        length ids ≤ place → AreBelow tree edge ids
    finding_all ids place are past =
        let at : place ≡ length ids = omega (arith, are.fits, past) in
        let all : IsFinding values dfa tree edge ids (length ids) =
        subst (IsFinding values dfa tree edge ids) at are in
        record {
          exact = λ id. (
            are.below id,
            (λ (up, leads, has).
                found_below ids all (take_all (length ids) ids (omega arith)) up id leads has),
          );
          once = are.once;
        }
