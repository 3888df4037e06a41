-- Sources by their roots, and the trees of a forest.
use Rattle.std.proofs.Common.{◌≡◌, ℕ, Bool, true, false, cond, ◌==◌, List, [], ◌∷◌, Option, Some, None, refl, sym, ap, ◌∙◌, ◌⊎◌, inl, inr, ⊎_elim}
use Rattle.std.specs.Prelude.{All, Contains, is_some, option_map, IsSome, find}
use Rattle.std.specs.Option.{option_and_then}
use Rattle.std.proofs.lemmas.Bool.{eqb-true, eq-eqb, both_ways, cases_eq, true≢false}
use Rattle.std.proofs.lemmas.Option.{none-some, same_Some}
use Rattle.std.proofs.lemmas.List.Elements.{All-contains, All-contains_itself, All-from_recursion, All-weaker}
use Rattle.std.proofs.lemmas.Map.Keys.{IsDistinct-head, IsDistinct-tail}
use Rattle.rpq_base.proofs.Members.{cons_members, none_in}
use Rattle.delta_tree.specs.declared.node.NodeId.{NodeId}
use Rattle.delta_tree.specs.Nodes.{TreeValue, node_id, same_node, value_of}
use Rattle.delta_tree.proofs.Ids.{same_node_is, same_node_laws}
use Rattle.source_tree.specs.Ends.{SourceValue}
use Rattle.source_table.specs.Sources.{AreApart, roots_of, source_in}
use Rattle.delta_forest.specs.Forest.{tree_in}
use Rattle.delta_forest.specs.Keeping.{trees_of}
use Rattle.delta_forest.proofs.Lookups.{found_is}

-- ---- whether it is so

abbrev pub OrNot : Type 0 → Type 0
OrNot A = A ⊎ (A → ⊥)

one_or_not : {X : Type 0} → ((x y : X) → OrNot (x ≡ y)) → (xs : List X) (x : X) →
    OrNot (Contains xs x)
one_or_not told [] x = inr (λ member. none_in x member)
one_or_not told (first ∷ rest) x = ⊎_elim
    (λ (here : first ≡ x). inl ((cons_members first rest x).1 (inl here)))
    (λ differ. ⊎_elim
    (λ further. inl ((cons_members first rest x).1 (inr further)))
    (λ none. inr (λ member. ⊎_elim (λ here. differ here) (λ further. none further)
    ((cons_members first rest x).0 member)))
    (one_or_not told rest x))
    (told first x)

pub listed_or_not : (xs : List ℕ) (x : ℕ) → OrNot (Contains xs x)
listed_or_not xs x = one_or_not (λ first second. cases_eq first second) xs x

pub same_or_not : (first second : NodeId) → OrNot (first ≡ second)
same_or_not first second = by (same_node first second) refl
  where
    by : (b : Bool) → same_node first second ≡ b → OrNot (first ≡ second)
    by true is = inl (same_node_is first second is)
    by false is = inr (λ same. both_ways (same_node first second) is
        (ap (same_node first) (sym same) ∙ same_node_laws.refl first))

pub places_or_not : (ids : List NodeId) (id : NodeId) → OrNot (Contains ids id)
places_or_not ids id = one_or_not same_or_not ids id

-- whether something was found
pub found_or_not : {X : Type 0} (found : Option X) → ((x : X) × (found ≡ Some x)) ⊎ (found ≡ None)
found_or_not None = inr refl
found_or_not (Some x) = inl (x, refl)

-- what is there is found
pub some_found : {X : Type 0} (found : Option X) → IsSome found → (x : X) × (found ≡ Some x)
some_found None is = absurd (true≢false (sym is))
some_found (Some x) is = (x, refl)

pub found_some : {X : Type 0} (found : Option X) (x : X) → found ≡ Some x → IsSome found
found_some found x is = ap is_some is

pub none_is_none : {X : Type 0} (found : Option X) → found ≡ None → IsSome found → ⊥
none_is_none found is some = true≢false (sym some ∙ ap is_some is)

-- ---- sources

-- the source of a root has this root
pub found_root : (sources : List SourceValue) (root : ℕ) (source : SourceValue) →
    source_in sources root ≡ Some source → source.tree.root ≡ root
found_root sources root source is =
    eqb-true source.tree.root root
    (found_is (λ (each : SourceValue). each.tree.root == root) sources source is).0

-- the tree of a root is that of its source
tree_step : (b : Bool) (first : SourceValue) (tree : Option TreeValue)
    (source : Option SourceValue) →
    tree ≡ option_map (λ (each : SourceValue). each.tree) source →
    cond b (Some first.tree) tree
    ≡ option_map (λ (each : SourceValue). each.tree) (cond b (Some first) source)
tree_step true first tree source further = refl
tree_step false first tree source further = further

pub tree_found : (sources : List SourceValue) (root : ℕ) →
    tree_in (trees_of sources) root
    ≡ option_map (λ (each : SourceValue). each.tree) (source_in sources root)
tree_found [] root = refl
tree_found (first ∷ rest) root =
    tree_step (first.tree.root == root) first (tree_in (trees_of rest) root) (source_in rest root)
    (tree_found rest root)

-- a source of the table is the one of its root
root_in : (sources : List SourceValue) (source : SourceValue) → Contains sources source →
    Contains (roots_of sources) source.tree.root
root_in [] source member = absurd (none_in source member)
root_in (first ∷ rest) source member = ⊎_elim
    (λ (here : first ≡ source).
    (cons_members first.tree.root (roots_of rest) source.tree.root).1
    (inl (ap (λ (each : SourceValue). each.tree.root) here)))
    (λ further.
    (cons_members first.tree.root (roots_of rest) source.tree.root).1
    (inr (root_in rest source further)))
    ((cons_members first rest source).0 member)

pub apart_found : (sources : List SourceValue) (source : SourceValue) → AreApart sources →
    Contains sources source → source_in sources source.tree.root ≡ Some source
apart_found [] source apart member = absurd (none_in source member)
apart_found (first ∷ rest) source apart member = ⊎_elim
    (λ (here : first ≡ source).
    ap (λ (b : Bool). cond b (Some first) (source_in rest source.tree.root))
    (eq-eqb first.tree.root source.tree.root (ap (λ (each : SourceValue). each.tree.root) here))
    ∙ ap (λ (each : SourceValue). Some each) here)
    (λ further.
    let differ : (first.tree.root == source.tree.root) ≡ false =
    All-contains (λ (root : ℕ). (first.tree.root == root) ≡ false) (roots_of rest)
    source.tree.root
    (All-from_recursion (λ (root : ℕ). (first.tree.root == root) ≡ false) (roots_of rest)
    (IsDistinct-head (λ (one other : ℕ). one == other) first.tree.root (roots_of rest) apart))
    (root_in rest source further) in
    ap (λ (b : Bool). cond b (Some first) (source_in rest source.tree.root)) differ
    ∙ apart_found rest source
    (IsDistinct-tail (λ (one other : ℕ). one == other) first.tree.root (roots_of rest) apart)
    further)
    ((cons_members first rest source).0 member)

-- what holds of the source of each root holds of all
pub all_sources : (sources : List SourceValue) (kind : SourceValue → Type 0) → AreApart sources →
    ((root : ℕ) (source : SourceValue) → source_in sources root ≡ Some source → kind source) →
    All kind sources
all_sources sources kind apart each =
    All-weaker (Contains sources) kind
    (λ source member. each source.tree.root source (apart_found sources source apart member))
    sources (All-contains_itself sources)

-- tables with the same roots have sources for the same ones
some_step : (b : Bool) (first : SourceValue) (root : ℕ) (source : Option SourceValue)
    (found : Option ℕ) → is_some source ≡ is_some found →
    is_some (cond b (Some first) source) ≡ is_some (cond b (Some root) found)
some_step true first root source found further = refl
some_step false first root source found further = further

some_by_roots : (sources : List SourceValue) (root : ℕ) →
    is_some (source_in sources root)
    ≡ is_some (find (λ (each : ℕ). each == root) (roots_of sources))
some_by_roots [] root = refl
some_by_roots (first ∷ rest) root =
    some_step (first.tree.root == root) first first.tree.root (source_in rest root)
    (find (λ (each : ℕ). each == root) (roots_of rest)) (some_by_roots rest root)

pub same_roots : (one other : List SourceValue) (root : ℕ) → roots_of one ≡ roots_of other →
    is_some (source_in one root) ≡ is_some (source_in other root)
same_roots one other root same =
    some_by_roots one root
    ∙ (ap (λ (roots : List ℕ). is_some (find (λ (each : ℕ). each == root) roots)) same
    ∙ sym (some_by_roots other root))

-- the source of a tree
pub tree_source : (sources : List SourceValue) (root : ℕ) (tree : TreeValue) →
    tree_in (trees_of sources) root ≡ Some tree →
    (source : SourceValue) × (source_in sources root ≡ Some source) × (source.tree ≡ tree)
tree_source sources root tree is =
    by (source_in sources root) refl (sym (tree_found sources root) ∙ is)
  where
    by : (found : Option SourceValue) → source_in sources root ≡ found →
        option_map (λ (each : SourceValue). each.tree) found ≡ Some tree →
        (source : SourceValue) × (source_in sources root ≡ Some source) × (source.tree ≡ tree)
    by None there has = absurd (none-some tree has)
    by (Some source) there has = (source, there, same_Some source.tree tree has)

-- ---- what is kept

abbrev pub kept_of : List SourceValue → ℕ → ℕ → ℕ → Option ℕ
kept_of sources root vertex state =
    option_and_then (λ (tree : TreeValue). value_of tree (node_id vertex state))
    (tree_in (trees_of sources) root)

pub found_kept : (sources : List SourceValue) (root : ℕ) (source : SourceValue) →
    source_in sources root ≡ Some source → (vertex state : ℕ) →
    kept_of sources root vertex state ≡ value_of source.tree (node_id vertex state)
found_kept sources root source found vertex state =
    ap (option_and_then (λ (tree : TreeValue). value_of tree (node_id vertex state)))
    (tree_found sources root ∙ ap (option_map (λ (each : SourceValue). each.tree)) found)

pub none_kept : (sources : List SourceValue) (root : ℕ) → source_in sources root ≡ None →
    (vertex state : ℕ) → kept_of sources root vertex state ≡ None
none_kept sources root none vertex state =
    ap (option_and_then (λ (tree : TreeValue). value_of tree (node_id vertex state)))
    (tree_found sources root ∙ ap (option_map (λ (each : SourceValue). each.tree)) none)
