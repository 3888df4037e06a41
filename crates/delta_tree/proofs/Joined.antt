-- Nodes in two lists side by side.
use Rattle.std.proofs.Common.{◌≡◌, ◌+◌, ◌-◌, ◌<◌, ℕ, zero, suc, Bool, true, false, ◌||◌, cond, is_some, List, [], ◌∷◌, ◌++◌, length, get_or, take, Option, None, Some, option_map, slice_get, slice_set, refl, sym, ap, subst, ◌∙◌, arith}
use Rattle.std.specs.List.{IsDistinct, list_any, swap_remove}
use Rattle.std.specs.Map.{keys_of, lookup}
use Rattle.std.proofs.lemmas.List.{length-set, length-append, length-take}
use Rattle.std.proofs.lemmas.List.Folds.{list_any_more}
use Rattle.std.proofs.lemmas.Option.{slice_get_within, slice_get-get_or, get_or_from_slice_get}
use Rattle.small_map.proofs.Entries.{value_at, value_set, value_more, value_less, once_more, once_less, same_keys}
use Rattle.small_map.specs.Places.{IsPlace}
use Rattle.delta_tree.specs.declared.node.NodeId.{NodeId}
use Rattle.delta_tree.specs.declared.node_map.Rest.{Rest}
use Rattle.delta_tree.specs.Nodes.{Node, same_node, node_in}
use Rattle.delta_tree.specs.Spots.{link_of, rest_of, whole, joined, ArePaired}
use Rattle.delta_tree.proofs.Ids.{same_node_is, same_node_laws, none_or_some, some_is_one}

-- ---- the parts

-- as many nodes as values
pub joined_length : (values : List (NodeId × ℕ)) (rests : List Rest) →
    length rests ≡ length values → length (joined values rests) ≡ length values
joined_length [] rests even = refl
joined_length (each ∷ values) [] even = absurd (omega (arith, even))
joined_length (each ∷ values) (rest ∷ rests) even =
    ap suc (joined_length values rests (omega (arith, even)))

-- at the same places
pub joined_keys : (values : List (NodeId × ℕ)) (rests : List Rest) →
    length rests ≡ length values → keys_of (joined values rests) ≡ keys_of values
joined_keys [] rests even = refl
joined_keys (each ∷ values) [] even = absurd (omega (arith, even))
joined_keys (each ∷ values) (rest ∷ rests) even =
    ap (λ keys. each.0 ∷ keys) (joined_keys values rests (omega (arith, even)))

-- a value and a rest at one place are a node
pub joined_at : (values : List (NodeId × ℕ)) (rests : List Rest) (place : ℕ)
    (each : NodeId × ℕ) (rest : Rest) → slice_get values place ≡ Some each →
    slice_get rests place ≡ Some rest →
    slice_get (joined values rests) place ≡ Some (each.0, whole each.1 rest)
joined_at [] rests place each rest at beside = absurd (none_or_some each at)
joined_at (first ∷ values) [] place each rest at beside = absurd (none_or_some rest beside)
joined_at (first ∷ values) (other ∷ rests) zero each rest at beside =
    λ i. Some (
      (some_is_one first each at i).0,
      whole (some_is_one first each at i).1 (some_is_one other rest beside i),
    )
joined_at (first ∷ values) (other ∷ rests) (suc place) each rest at beside =
    joined_at values rests place each rest at beside

-- what a list has at a place
pub stands_at : {X : Type 0} (xs : List X) (place : ℕ) → place < length xs →
    (x : X) × (slice_get xs place ≡ Some x)
stands_at [] place within = absurd (omega (arith, within))
stands_at (x ∷ xs) zero within = (x, refl)
stands_at (x ∷ xs) (suc place) within = stands_at xs place (omega (arith, within))

-- no node where no value is found
pub joined_none : (test : NodeId → Bool) (values : List (NodeId × ℕ)) (rests : List Rest) →
    lookup test values ≡ None → lookup test (joined values rests) ≡ None
joined_none test [] rests none = refl
joined_none test (each ∷ values) [] none = refl
joined_none test (each ∷ values) (rest ∷ rests) none =
    by (test each.0) none (joined_none test values rests)
  where
    by : (b : Bool) → cond b (Some each.1) (lookup test values) ≡ None →
        (lookup test values ≡ None → lookup test (joined values rests) ≡ None) →
        cond b (Some (whole each.1 rest)) (lookup test (joined values rests)) ≡ None
    by true none later = absurd (none_or_some each.1 (sym none))
    by false none later = later none

-- no value where no node is found
pub none_joined : (test : NodeId → Bool) (values : List (NodeId × ℕ)) (rests : List Rest) →
    length rests ≡ length values → lookup test (joined values rests) ≡ None →
    lookup test values ≡ None
none_joined test [] rests even none = refl
none_joined test (each ∷ values) [] even none = absurd (omega (arith, even))
none_joined test (each ∷ values) (rest ∷ rests) even none =
    by (test each.0) none (none_joined test values rests (omega (arith, even)))
  where
    by : (b : Bool) →
        cond b (Some (whole each.1 rest)) (lookup test (joined values rests)) ≡ None →
        (lookup test (joined values rests) ≡ None → lookup test values ≡ None) →
        cond b (Some each.1) (lookup test values) ≡ None
    by true none later = absurd (none_or_some (whole each.1 rest) (sym none))
    by false none later = later none

-- ---- changes

pub joined_set : (values : List (NodeId × ℕ)) (rests : List Rest) (place : ℕ)
    (each : NodeId × ℕ) (rest : Rest) →
    joined (slice_set values place each) (slice_set rests place rest)
    ≡ slice_set (joined values rests) place (each.0, whole each.1 rest)
joined_set [] rests place each rest = refl
joined_set (first ∷ values) [] zero each rest = refl
joined_set (first ∷ values) [] (suc place) each rest = refl
joined_set (first ∷ values) (other ∷ rests) zero each rest = refl
joined_set (first ∷ values) (other ∷ rests) (suc place) each rest =
    ap (λ nodes. (first.0, whole first.1 other) ∷ nodes)
    (joined_set values rests place each rest)

pub joined_push : (values : List (NodeId × ℕ)) (rests : List Rest) (each : NodeId × ℕ)
    (rest : Rest) → length rests ≡ length values →
    joined (values ++ each ∷ []) (rests ++ rest ∷ [])
    ≡ joined values rests ++ (each.0, whole each.1 rest) ∷ []
joined_push [] [] each rest even = refl
joined_push [] (other ∷ rests) each rest even = absurd (omega (arith, even))
joined_push (first ∷ values) [] each rest even = absurd (omega (arith, even))
joined_push (first ∷ values) (other ∷ rests) each rest even =
    ap (λ nodes. (first.0, whole first.1 other) ∷ nodes)
    (joined_push values rests each rest (omega (arith, even)))

joined_take : (n : ℕ) (values : List (NodeId × ℕ)) (rests : List Rest) →
    joined (take n values) (take n rests) ≡ take n (joined values rests)
joined_take zero values rests = refl
joined_take (suc n) [] rests = refl
joined_take (suc n) (first ∷ values) [] = refl
joined_take (suc n) (first ∷ values) (other ∷ rests) =
    ap (λ nodes. (first.0, whole first.1 other) ∷ nodes) (joined_take n values rests)

pub joined_less : (values : List (NodeId × ℕ)) (rests : List Rest) (place : ℕ)
    (each : NodeId × ℕ) (rest : Rest) → length rests ≡ length values → place < length values →
    joined (swap_remove values place each) (swap_remove rests place rest)
    ≡ swap_remove (joined values rests) place (each.0, whole each.1 rest)
joined_less values rests place each rest even within =
    ap (λ n. joined (swap_remove values place each)
    (take (n - 1) (slice_set rests place (get_or rests (n - 1) rest)))) even
    ∙ joined_take (length values - 1) (slice_set values place last)
    (slice_set rests place behind)
    ∙ ap (take (length values - 1)) (joined_set values rests place last behind)
    ∙ ap (λ node. take (length values - 1) (slice_set (joined values rests) place node))
    (sym read)
    ∙ ap (λ n. take (n - 1) (slice_set (joined values rests) place
    (get_or (joined values rests) (n - 1) (each.0, whole each.1 rest))))
    (sym (joined_length values rests even))
  where
    last : NodeId × ℕ
    last = get_or values (length values - 1) each

    behind : Rest
    behind = get_or rests (length values - 1) rest

    read : get_or (joined values rests) (length values - 1) (each.0, whole each.1 rest)
        ≡ (last.0, whole last.1 behind)
    read = get_or_from_slice_get (joined values rests) (length values - 1)
        (last.0, whole last.1 behind) (each.0, whole each.1 rest)
        (joined_at values rests (length values - 1) last behind
        (slice_get-get_or values (length values - 1) each (omega (arith, within)))
        (slice_get-get_or rests (length values - 1) rest (omega (arith, within, even))))

-- one element less
length-swap : {X : Type 0} (xs : List X) (place : ℕ) (d : X) → place < length xs →
    length (swap_remove xs place d) + 1 ≡ length xs
length-swap xs place d within = omega (
  arith,
  within,
  length-take (length xs - 1) (slice_set xs place (get_or xs (length xs - 1) d)),
  length-set xs place (get_or xs (length xs - 1) d),
)

-- ---- look-ups

module _ (values : List (NodeId × ℕ)) (rests : List Rest) (paired : ArePaired values rests) where
  pub joined_once : IsDistinct same_node (keys_of (joined values rests))
  joined_once =
      subst (IsDistinct same_node) (sym (joined_keys values rests paired.even)) paired.once

  -- the node of the place of a value
  pub node_at : (place : ℕ) (each : NodeId × ℕ) → slice_get values place ≡ Some each →
      (node : Node) × (slice_get (joined values rests) place ≡ Some (each.0, node))
      × (node.value ≡ each.1)
  node_at place each at =
      let within : place < length values = slice_get_within values place each at in
      let (rest, beside) = stands_at rests place (omega (arith, paired.even, within)) in
      (whole each.1 rest, joined_at values rests place each rest at beside, refl)

  -- and the one that is looked for
  pub spot_there : (id : NodeId) (place : ℕ) (each : NodeId × ℕ) →
      slice_get values place ≡ Some each → same_node id each.0 ≡ true →
      (node : Node) × (slice_get (joined values rests) place ≡ Some (id, node))
      × (node.value ≡ each.1)
  spot_there id place each at same =
      subst (λ (key : NodeId). (node : Node)
      × (slice_get (joined values rests) place ≡ Some (key, node)) × (node.value ≡ each.1))
      (sym (same_node_is id each.0 same)) (node_at place each at)

-- a node is found where it stands
pub found_there : (nodes : List (NodeId × Node)) (id : NodeId) (place : ℕ) (node : Node) →
    IsDistinct same_node (keys_of nodes) → slice_get nodes place ≡ Some (id, node) →
    node_in nodes id ≡ Some node
found_there nodes id place node once at =
    value_at same_node_laws nodes id place (id, node) once at (same_node_laws.refl id)

module _ (values : List (NodeId × ℕ)) (rests : List Rest) (paired : ArePaired values rests)
    (now : List (NodeId × Node)) (view : joined values rests ≡ now) where
  pub once_now : IsDistinct same_node (keys_of now)
  once_now =
      subst (λ nodes. IsDistinct same_node (keys_of nodes)) view (joined_once values rests paired)

  pub within_values : (place : ℕ) → place < length now → place < length values
  within_values place within =
      subst (λ n. place < n) (sym (ap length view) ∙ joined_length values rests paired.even) within

  pub within_rests : (place : ℕ) → place < length now → place < length rests
  within_rests place within = omega (arith, within_values place within, paired.even)

  -- what is found
  pub spot_now : (id : NodeId) (place : ℕ) (each : NodeId × ℕ) →
      slice_get values place ≡ Some each → same_node id each.0 ≡ true →
      (node : Node) × (slice_get now place ≡ Some (id, node)) × (node.value ≡ each.1)
  spot_now id place each at same =
      subst (λ nodes. (node : Node) × (slice_get nodes place ≡ Some (id, node))
      × (node.value ≡ each.1)) view (spot_there values rests paired id place each at same)

  pub found_now : (id : NodeId) (place : ℕ) (each : NodeId × ℕ) →
      slice_get values place ≡ Some each → same_node id each.0 ≡ true →
      (node : Node) × (slice_get now place ≡ Some (id, node)) × (node_in now id ≡ Some node)
      × (node.value ≡ each.1)
  found_now id place each at same =
      let (node, stands, is) = spot_now id place each at same in
      (node, stands, found_there now id place node once_now stands, is)

  -- the node of the place of a value
  pub node_now : (place : ℕ) (each : NodeId × ℕ) → slice_get values place ≡ Some each →
      (node : Node) × (slice_get now place ≡ Some (each.0, node)) × (node.value ≡ each.1)
  node_now place each at =
      subst (λ nodes. (node : Node) × (slice_get nodes place ≡ Some (each.0, node))
      × (node.value ≡ each.1)) view (node_at values rests paired place each at)

  -- what stands at a place
  pub one_now : (place : ℕ) (entry : NodeId × ℕ) (rest : Rest) (each : NodeId × Node) →
      slice_get values place ≡ Some entry → slice_get rests place ≡ Some rest →
      slice_get now place ≡ Some each → (entry.0, whole entry.1 rest) ≡ each
  one_now place entry rest each at beside stands =
      some_is_one (entry.0, whole entry.1 rest) each
      (sym (joined_at values rests place entry rest at beside)
      ∙ ap (λ nodes. slice_get nodes place) view ∙ stands)

  -- by what the node hangs that is looked for
  pub link_now : (id : NodeId) (place : ℕ) (each : NodeId × ℕ) (rest : Rest) →
      slice_get values place ≡ Some each → slice_get rests place ≡ Some rest →
      same_node id each.0 ≡ true →
      Some (record { parent = rest.parent; edge = rest.edge })
      ≡ option_map link_of (node_in now id)
  link_now id place each rest at beside same =
      let (node, stands, found, is) = found_now id place each at same in
      ap (λ (one : NodeId × Node). Some (link_of one.1))
      (one_now place each rest (id, node) at beside stands)
      ∙ sym (ap (option_map link_of) found)

  pub none_now : (id : NodeId) → lookup (same_node id) values ≡ None → node_in now id ≡ None
  none_now id none =
      ap (λ nodes. node_in nodes id) (sym view) ∙ joined_none (same_node id) values rests none

  pub has_now : (id : NodeId) (found : Option ℕ) → IsPlace same_node values id found →
      is_some found ≡ is_some (node_in now id)
  has_now id None none = sym (ap is_some (none_now id none))
  has_now id (Some place) (each, at, same) =
      let (node, stands, is) = spot_now id place each at same in
      sym (ap is_some (found_there now id place node once_now stands))

  -- the place of a node is that of its value
  same_place : (place : ℕ) (each : NodeId × ℕ) (id : NodeId) (old : Node) →
      slice_get values place ≡ Some each → slice_get now place ≡ Some (id, old) → each.0 ≡ id
  same_place place each id old at stands =
      let (node, here, is) = node_at values rests paired place each at in
      ap (λ (e : NodeId × Node). e.0) (some_is_one (each.0, node) (id, old)
      (sym here ∙ ap (λ nodes. slice_get nodes place) view ∙ stands))

  -- ---- another node in the place of one

  module _ (new : List (NodeId × ℕ)) (place : ℕ) (node : Node) (within : place < length now)
      (changed : (each : NodeId × ℕ) → slice_get values place ≡ Some each →
      new ≡ slice_set values place (each.0, node.value)) where
    pub set_paired : ArePaired new (slice_set rests place (rest_of node))
    set_paired =
        let (each, at) = stands_at values place (within_values place within) in
        record {
          even = length-set rests place (rest_of node) ∙ paired.even
              ∙ sym (ap length (changed each at)
              ∙ length-set values place (each.0, node.value));
          once = subst (IsDistinct same_node)
              (sym (ap keys_of (changed each at) ∙ same_keys values place each node.value at))
              paired.once;
        }

    pub set_now : (id : NodeId) (old : Node) → slice_get now place ≡ Some (id, old) →
        (each : NodeId) → node_in (joined new (slice_set rests place (rest_of node))) each
        ≡ cond (same_node id each) (Some node) (node_in now each)
    set_now id old stands other =
        let (each, at) = stands_at values place (within_values place within) in
        ap (λ list. node_in (joined list (slice_set rests place (rest_of node))) other)
        (changed each at)
        ∙ ap (λ nodes. node_in nodes other)
        (joined_set values rests place (each.0, node.value) (rest_of node)
        ∙ (λ i. slice_set (view i) place (same_place place each id old at stands i, node)))
        ∙ value_set same_node_laws now id node place (id, old) once_now stands
        (same_node_laws.refl id) other

  -- ---- one node more

  module _ (id : NodeId) (node : Node) (none : node_in now id ≡ None) where
    pub no_value : lookup (same_node id) values ≡ None
    no_value = none_joined (same_node id) values rests paired.even
        (ap (λ nodes. node_in nodes id) view ∙ none)

    pub push_paired : ArePaired (values ++ (id, node.value) ∷ []) (rests ++ rest_of node ∷ [])
    push_paired = record {
      even = length-append rests (rest_of node ∷ [])
          ∙ ap (λ n. n + 1) paired.even
          ∙ sym (length-append values ((id, node.value) ∷ []));
      once = once_more same_node_laws values id node.value paired.once no_value;
    }

    pub push_now : (each : NodeId) →
        node_in (joined (values ++ (id, node.value) ∷ []) (rests ++ rest_of node ∷ [])) each
        ≡ cond (same_node id each) (Some node) (node_in now each)
    push_now other =
        ap (λ nodes. node_in nodes other)
        (joined_push values rests (id, node.value) (rest_of node) paired.even
        ∙ ap (λ nodes. nodes ++ (id, node) ∷ []) view)
        ∙ value_more same_node_laws now id node none other

  -- ---- one node less

  module _ (new : List (NodeId × ℕ)) (place : ℕ) (rest : Rest) (within : place < length now)
      (beside : slice_get rests place ≡ Some rest)
      (changed : (each : NodeId × ℕ) → slice_get values place ≡ Some each →
      new ≡ swap_remove values place each) where
    pub less_paired : ArePaired new (swap_remove rests place rest)
    less_paired =
        let (each, at) = stands_at values place (within_values place within) in
        record {
          even = omega (
            arith,
            length-swap rests place rest (within_rests place within),
            length-swap values place each (within_values place within),
            ap length (changed each at),
            paired.even,
          );
          once = subst (λ list. IsDistinct same_node (keys_of list)) (sym (changed each at))
              (once_less same_node_laws values place each paired.once at);
        }

    pub less_now : (id : NodeId) (old : Node) → slice_get now place ≡ Some (id, old) →
        (each : NodeId) → node_in (joined new (swap_remove rests place rest)) each
        ≡ cond (same_node id each) None (node_in now each)
    less_now id old stands other =
        let (each, at) = stands_at values place (within_values place within) in
        let here : (each.0, whole each.1 rest) ≡ (id, old) =
        some_is_one (each.0, whole each.1 rest) (id, old)
        (sym (joined_at values rests place each rest at beside)
        ∙ ap (λ nodes. slice_get nodes place) view ∙ stands) in
        ap (λ list. node_in (joined list (swap_remove rests place rest)) other) (changed each at)
        ∙ ap (λ nodes. node_in nodes other)
        (joined_less values rests place each rest paired.even (within_values place within)
        ∙ (λ i. swap_remove (view i) place (here i)))
        ∙ value_less same_node_laws now id place (id, old) once_now stands
        (same_node_laws.refl id) other

-- where no node stands, taking it out changes nothing
pub none_stays : (nodes : List (NodeId × Node)) (id each : NodeId) → node_in nodes id ≡ None →
    node_in nodes each ≡ cond (same_node id each) None (node_in nodes each)
none_stays nodes id each none = by (same_node id each) refl
  where
    by : (b : Bool) → same_node id each ≡ b →
        node_in nodes each ≡ cond b None (node_in nodes each)
    by true same = ap (node_in nodes) (sym (same_node_is id each same)) ∙ none
    by false other = refl

-- one more that doesn't pass
pub none_more : {X : Type 0} (test : X → Bool) (xs : List X) (place : ℕ) (x : X) →
    slice_get xs place ≡ Some x → list_any test (take place xs) ≡ false → test x ≡ false →
    list_any test (take (place + 1) xs) ≡ false
none_more test xs place x at none fails =
    list_any_more test xs place x (slice_get_within xs place x at)
    ∙ (λ i. none i || (ap test (get_or_from_slice_get xs place x x at) ∙ fails) i)
