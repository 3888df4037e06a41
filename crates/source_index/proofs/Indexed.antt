-- Vertices that are reached by their index.
use Rattle.std.proofs.Common.{◌≡◌, ◌<◌, ℕ, true, false, cond, [], Option, None, Some, slice_get, get_or, length, nat_eq, position, sym, ap, subst, ◌∙◌}
use Rattle.std.specs.Cmp.{nat_eq_equiv}
use Rattle.std.specs.Map.{keys_of}
use Rattle.std.specs.Option.{IfSome}
use Rattle.std.proofs.lemmas.List.{get_or-map}
use Rattle.std.proofs.lemmas.List.Quantifiers.{position-Some}
use Rattle.std.proofs.lemmas.Map.Entries.{length-keys_of}
use Rattle.std.proofs.lemmas.Map.Views.{exact_unsigned_eq}
use Rattle.std.proofs.lemmas.Option.{slice_get-get_or}
use Rattle.indexmap.specs.IndexMap.{IndexMap, IsUnique, Updates, keys, set_value_at}
use Rattle.indexmap.proofs.CallerLemmas.{keys-with_value_at, updates-with_value_at}
use Rattle.delta_tree.specs.declared.node.NodeId.{NodeId}
use Rattle.source_index.specs.Holders.{HoldersValue, DropsHolder, vertex_at}
use Rattle.source_index.specs.Vertex.{RootsByState, DropsAt}
use Rattle.source_index.proofs.Noted.{some_is_one}
use Rattle.source_index.proofs.Places.{SetsAt, drops_holder, drops_then, read_at}

-- the entry at the index of a vertex is that of the vertex
pub entry_of : (holders : HoldersValue) (vertex : ℕ) (index : ℕ) →
    position (nat_eq vertex) (keys_of holders) ≡ Some index →
    (places : RootsByState) × (slice_get holders index ≡ Some (vertex, places))
entry_of holders vertex index found = (
  entry.1,
  slice_get-get_or holders index (vertex, []) within
      ∙ ap (λ key. Some (key, entry.1)) key_is,
)
  where
    entry : ℕ × RootsByState
    entry = get_or holders index (vertex, [])

    passes : (index < length (keys_of holders))
        × (nat_eq vertex (get_or (keys_of holders) index vertex) ≡ true)
        × ((before : ℕ) → before < index →
        nat_eq vertex (get_or (keys_of holders) before vertex) ≡ false)
    passes = position-Some (nat_eq vertex) (keys_of holders) index vertex found

    within : index < length holders
    within = subst (λ count. index < count) (length-keys_of holders) passes.0

    key_is : entry.0 ≡ vertex
    key_is = sym (get_or-map (λ (e : ℕ × RootsByState). e.0) holders index (vertex, []) vertex
        within)
        ∙ sym (exact_unsigned_eq vertex (get_or (keys_of holders) index vertex) passes.1)

module _ {S : Type 0} (vertices : IndexMap ℕ RootsByState S) (vertex : ℕ) (index : ℕ)
    (found : position (nat_eq vertex) (keys vertices) ≡ Some index) where
  -- what a write of the roots at the index of a vertex does
  pub sets_at : (places : RootsByState) → IsUnique nat_eq vertices →
      SetsAt vertices.entries (set_value_at vertices.entries index places) vertex (Some places)
  sets_at places unique =
      let entry = entry_of vertices.entries vertex index found in
      (updates-with_value_at vertices index places nat_eq_equiv unique vertex entry.0 entry.1).0

  -- a root is taken out so
  pub drops_there : (state root : ℕ) (places : RootsByState) → IsUnique nat_eq vertices →
      DropsAt (vertex_at vertices.entries vertex) places state root →
      DropsHolder vertices.entries (set_value_at vertices.entries index places)
      (record { vertex = vertex; state = state }) root
  drops_there state root places unique =
      drops_holder vertices.entries (set_value_at vertices.entries index places)
      (record { vertex = vertex; state = state }) root places (sets_at places unique)

  -- and the vertex keeps its index
  pub still_at : (places : RootsByState) → (left : RootsByState)
      × (slice_get (set_value_at vertices.entries index places) index ≡ Some (vertex, left))
  still_at places = entry_of (set_value_at vertices.entries index places) vertex index
      (ap (position (nat_eq vertex)) (keys-with_value_at vertices index places) ∙ found)

-- the roots that were written at a vertex are there
pub read_itself : (old new : HoldersValue) (vertex : ℕ) (places : RootsByState) →
    SetsAt old new vertex (Some places) → vertex_at new vertex ≡ places
read_itself old new vertex places sets =
    read_at old new vertex (Some places) sets vertex
    ∙ ap (λ b. cond b places (vertex_at old vertex)) (nat_eq_equiv.refl vertex)

-- a vertex without places was taken out at its index afterwards
pub drops_at : {S : Type 0} (old : HoldersValue) (kept new : IndexMap ℕ RootsByState S)
    (id : NodeId) (root : ℕ) (places : RootsByState) (out : Option (ℕ × RootsByState)) →
    DropsHolder old kept.entries id root → vertex_at kept.entries id.vertex ≡ [] →
    out ≡ Some (id.vertex, places) →
    IfSome out (λ entry. Updates nat_eq kept new entry.0 None) →
    DropsHolder old new.entries id root
drops_at old kept new id root places None drops bare is updates = absurd cc
drops_at old kept new id root places (Some entry) drops bare is updates =
    drops_then old kept.entries new.entries id root drops bare
    (subst (λ key. SetsAt kept.entries new.entries key None)
    (ap (λ (e : ℕ × RootsByState). e.0) (some_is_one entry (id.vertex, places) is)) updates.0)

-- what holds of a list of vertices holds of each that it is
pub after : (P : HoldersValue → Type 0) (vertices new : HoldersValue) → new ≡ vertices →
    P vertices → P new
after P vertices new is so = subst P (sym is) so
