-- The roots whose trees hang by an edge that is removed, found where it ends or where it leaves.
use Rattle.std.proofs.Common.{◌≡◌, ℕ, ◌≤◌, List, length, Option, Some, None, refl, sym, ap, subst, ◌∙◌, inl, inr, ⊎_elim, Contains, arith}
use Rattle.std.proofs.lemmas.Option.{none-some, same_Some}
use Rattle.edge_store.specs.declared.edge.EdgeId.{EdgeId}
use Rattle.edge_store.specs.Edges.{Edges, value_of as value_in}
use Rattle.dfa_table.specs.DfaValue.{DfaValue, step_of}
use Rattle.delta_tree.specs.declared.node.NodeId.{NodeId}
use Rattle.delta_tree.specs.declared.node.Node.{Node}
use Rattle.delta_tree.specs.Nodes.{IsBefore, node_id, node_of, root_id}
use Rattle.delta_tree.specs.Paths.{HangsBy}
use Rattle.tree_insert.proofs.OpenTries.{step_within}
use Rattle.tree_insert.proofs.Paths.{supported_of_ways}
use Rattle.source_tree.specs.declared.change.Change.TheVariants.{Remove}
use Rattle.source_tree.specs.Ends.{SourceValue}
use Rattle.source_index.specs.Holders.{Holds}
use Rattle.source_table.specs.Sources.{source_in}
use Rattle.delta_forest.specs.Keeping.{IsKept}
use Rattle.delta_forest.specs.Candidates.{Adds, AreCandidates, AreInOrder, AreRemoved, HasHanging, IsHungAfter, IsHungAt, IsHungOver, IsHungRoot, IsRemovedAt, IsRemovedFrom}
use Rattle.delta_forest.specs.declared.index.Index.{Index}
use Rattle.delta_forest.proofs.Gathering.{adds_like}
use Rattle.delta_forest.proofs.Sources.{found_or_not, found_root}

-- ---- steps

-- no step leads on from a state that the automaton hasn't got
pub no_step_past : (dfa : DfaValue) (state label : ℕ) → length dfa.rows ≤ state →
    step_of dfa state label ≡ None
no_step_past dfa state label past = ⊎_elim
    (λ (there : (next : ℕ) × (step_of dfa state label ≡ Some next)).
    let within = step_within dfa state label there.0 there.1 in
    absurd (omega (arith, past, within)))
    (λ (none : step_of dfa state label ≡ None). none)
    (found_or_not (step_of dfa state label))

-- those of a kind are added, where this is that of the one state to which a step leads
pub adds_next : (old new : List ℕ) (step : Option ℕ) (next : ℕ) (held : ℕ → Type 0)
    (kind : ℕ → ℕ → Type 0) → step ≡ Some next →
    Adds old new (λ root. held root × kind next root) →
    Adds old new (λ root. held root × ((state : ℕ) × (step ≡ Some state) × kind state root))
adds_next old new step next held kind is adds =
    adds_like old new (λ root. held root × kind next root)
    (λ root. held root × ((state : ℕ) × (step ≡ Some state) × kind state root)) adds
    (λ root. (
      (λ (both : held root × kind next root). (both.0, (next, is, both.1))),
      (λ (both : held root × ((state : ℕ) × (step ≡ Some state) × kind state root)). (
        both.0,
        subst (λ (state : ℕ). kind state root)
            (same_Some both.1.0 next (sym both.1.1 ∙ is)) both.1.2,
      )),
    ))

-- and none where there is no step
pub adds_no_next : (roots : List ℕ) (step : Option ℕ) (held : ℕ → Type 0)
    (kind : ℕ → ℕ → Type 0) → step ≡ None →
    Adds roots roots (λ root. held root × ((state : ℕ) × (step ≡ Some state) × kind state root))
adds_no_next roots step held kind none = λ root. (
  (λ member. inl member),
  (λ either. ⊎_elim (λ (was : Contains roots root). was)
      (λ (both : held root × ((state : ℕ) × (step ≡ Some state) × kind state root)).
      absurd (none-some both.1.0 (sym none ∙ both.1.1)))
      either),
)

-- ---- the edge by which a node hangs

module _ (dfa : DfaValue) (store : Edges) (calls : ℕ) (index : Index)
    (kept : IsKept dfa store calls index) (edge : EdgeId) where
  -- a node that hangs by the edge is held where this ends
  found_at : (root : ℕ) (source : SourceValue) (id : NodeId) →
      source_in index.sources root ≡ Some source → HangsBy source.tree edge id →
      IsRemovedAt index.sources index.holders edge root
  found_at root source id found hangs =
      let stands = (kept.sound root source found).tree id hangs.0 hangs.1 in
      let at : id ≡ node_id edge.to id.state =
      ap (λ (vertex : ℕ). node_id vertex id.state)
      (sym (ap (λ (each : EdgeId). each.to) (sym hangs.2) ∙ stands.joins.ends)) in
      let holds = (kept.held root id).1
      (record { source = source; node = hangs.0; found = found; there = hangs.1 }) in (
        id.state,
        (
          subst (λ (each : NodeId). Holds index.holders each root) at holds,
          (source, found, subst (HangsBy source.tree edge) at hangs),
        ),
      )

  -- its parent is the root, or held where the edge leaves; and the automaton steps by the edge from
  -- the state of the parent to that of the node
  found_from : (root : ℕ) (source : SourceValue) (id : NodeId) →
      source_in index.sources root ≡ Some source → HangsBy source.tree edge id →
      IsRemovedFrom index.sources index.holders (step_of dfa) edge root
  found_from root source id found hangs =
      let sound = kept.sound root source found in
      let node = hangs.0 in
      let state = node.parent.state in
      let stands = sound.tree id node hangs.1 in
      let leaves : edge.from ≡ node.parent.vertex =
      ap (λ (each : EdgeId). each.from) (sym hangs.2) ∙ stands.joins.leaves in
      let at : id ≡ node_id edge.to id.state =
      ap (λ (vertex : ℕ). node_id vertex id.state)
      (sym (ap (λ (each : EdgeId). each.to) (sym hangs.2) ∙ stands.joins.ends)) in
      let supported = supported_of_ways (value_in store) (step_of dfa) source.tree sound.tree
      sound.optimal.paths id node hangs.1 in
      let leads : step_of dfa state edge.label ≡ Some id.state =
      ap (λ (each : EdgeId). step_of dfa state each.label) (sym hangs.2) ∙ supported.leads in
      let hung : IsHungAfter index.sources (step_of dfa) edge state root =
      (id.state, leads, (source, found, subst (HangsBy source.tree edge) at hangs)) in
      ⊎_elim
      (λ (is : node.parent ≡ root_id source.tree).
      let here : root ≡ edge.from =
      sym (found_root index.sources root source found)
      ∙ (sym (ap (λ (each : NodeId). each.vertex) is) ∙ sym leaves) in
      inl (
        here,
        subst (λ (before : ℕ). IsHungAfter index.sources (step_of dfa) edge before root)
            (ap (λ (each : NodeId). each.state) is) hung,
      ))
      (λ (has : (parent : Node) × (node_of source.tree node.parent ≡ Some parent)
      × IsBefore parent node).
      let holds : Holds index.holders node.parent root = (kept.held root node.parent).1
      (record { source = source; node = has.0; found = found; there = has.1 }) in
      inr (
        state,
        (
          subst (λ (vertex : ℕ). Holds index.holders (node_id vertex state) root) (sym leaves)
              holds,
          hung,
        ),
      ))
      stands.parent

  -- ---- candidates

  hanging_there : (root : ℕ) (id : NodeId) → IsHungAt index.sources edge id root →
      HasHanging index.sources root edge
  hanging_there root id hung = record {
    source = hung.0;
    id = id;
    found = hung.1;
    hangs = hung.2;
  }

  hanging_after : (root state : ℕ) → IsHungAfter index.sources (step_of dfa) edge state root →
      HasHanging index.sources root edge
  hanging_after root state hung = hanging_there root (node_id edge.to hung.0) hung.2

  hanging_at : (root : ℕ) → IsRemovedAt index.sources index.holders edge root →
      HasHanging index.sources root edge
  hanging_at root has = hanging_there root (node_id edge.to has.0) has.1.1

  hanging_from : (root : ℕ) →
      IsRemovedFrom index.sources index.holders (step_of dfa) edge root →
      HasHanging index.sources root edge
  hanging_from root either = ⊎_elim
      (λ (first : IsHungRoot index.sources (step_of dfa) edge root).
      hanging_after root 0 first.1)
      (λ (held : (state : ℕ)
      × IsHungOver index.sources index.holders (step_of dfa) edge state root).
      hanging_after root held.0 held.1.1)
      either

  -- where those of a kind are exactly those whose trees hang by it, these are the candidates
  by_kind : (roots : List ℕ) (kind : ℕ → Type 0) → AreInOrder kind roots →
      ((root : ℕ) → kind root → HasHanging index.sources root edge) →
      ((root : ℕ) (source : SourceValue) (id : NodeId) →
      source_in index.sources root ≡ Some source → HangsBy source.tree edge id → kind root) →
      AreCandidates (Remove edge) (step_of dfa) index index roots
  by_kind roots kind are hanging all = record {
    sorted = are.sorted;
    apart = kept.apart;
    stays = λ root source found. found;
    only = λ root source found. inl found;
    starts = tt;
    elsewhere = λ root source found unlisted id hangs.
        unlisted ((are.exact root).1 (all root source id found hangs));
    reason = λ root member. hanging root ((are.exact root).0 member);
    holders = refl;
    dues = λ root unlisted. refl;
    still = refl;
  }

  -- so it is with those found at each end
  pub remove_candidates : (roots : List ℕ) →
      AreRemoved index.sources index.holders (step_of dfa) edge roots →
      AreCandidates (Remove edge) (step_of dfa) index index roots
  remove_candidates roots either = ⊎_elim
      (λ (are : AreInOrder (IsRemovedAt index.sources index.holders edge) roots).
      by_kind roots (IsRemovedAt index.sources index.holders edge) are hanging_at found_at)
      (λ (are : AreInOrder (IsRemovedFrom index.sources index.holders (step_of dfa) edge) roots).
      by_kind roots (IsRemovedFrom index.sources index.holders (step_of dfa) edge) are hanging_from
      found_from)
      either
