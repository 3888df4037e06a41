-- Values by numbers stay those of a store.
use Rattle.std.proofs.Common.{◌≡◌, ◌≢◌, ℕ, List, Option, Some, None, refl, sym, ap, subst, ◌∙◌}
use Rattle.std.proofs.Common.{⊎_elim}
use Rattle.std.proofs.lemmas.Option.{none-some}
use Rattle.rpq_base.specs.declared.data.Edge.{Edge}
use Rattle.dfa_table.specs.DfaValue.{DfaValue, place_of}
use Rattle.name_table.specs.Names.{KeepsNumbers}
use Rattle.edge_store.specs.declared.edge.EdgeId.{EdgeId}
use Rattle.edge_store.specs.Edges.{above}
use Rattle.index_laws.specs.Numbered.{HasNumbers, IsByNumbers}
use Rattle.index_laws.specs.LawsOfNumbers.{AreOthersKept, ByNumbersSteps}
use Rattle.index_laws.proofs.Numbers.{one_edge, one_id}
use Rattle.index_laws.proofs.Told.{edges_or_not, ids_or_not}

-- what is kept above a clock was there
was_there : (value : Option ℕ) (now left : ℕ) → above now value ≡ Some left →
    (there : ℕ) × (value ≡ Some there)
was_there None now left is = absurd (none-some left is)
was_there (Some value) now left is = (value, refl)

-- values are equal where either being there makes them so
same_either : (first second : Option ℕ) → ((value : ℕ) → first ≡ Some value → first ≡ second) →
    ((value : ℕ) → second ≡ Some value → first ≡ second) → first ≡ second
same_either (Some first) second one other = one first refl
same_either None None one other = refl
same_either None (Some second) one other = other second refl

-- an edge has the numbers that it had
still : (names more : List (List ℕ)) (dfa : DfaValue) (edge : Edge) (id : EdgeId) →
    KeepsNumbers names more → HasNumbers names dfa edge id → HasNumbers more dfa edge id
still names more dfa edge id keeps has = record {
  from = keeps edge.from id.from has.from;
  label = has.label;
  to = keeps edge.to id.to has.to;
}

module _ (names : List (List ℕ)) (dfa : DfaValue) (store : Edge → Option ℕ)
    (values : EdgeId → Option ℕ) (are : IsByNumbers names dfa store values) where
  expire : (stored : Edge → Option ℕ) (valued : EdgeId → Option ℕ) (now : ℕ) →
      ((edge : Edge) → stored edge ≡ above now (store edge)) →
      ((id : EdgeId) → valued id ≡ above now (values id)) →
      IsByNumbers names dfa stored valued
  expire stored valued now edges_expire ids_expire = record {
    same = λ edge id has.
        ids_expire id ∙ (ap (above now) (are.same edge id has) ∙ sym (edges_expire edge));
    edges = λ id left is.
        let there = was_there (values id) now left (sym (ids_expire id) ∙ is) in
        are.edges id there.0 there.1;
    numbers = λ edge left label is placed.
        let there = was_there (store edge) now left (sym (edges_expire edge) ∙ is) in
        are.numbers edge there.0 label there.1 placed;
  }

  change : (stored : Edge → Option ℕ) (valued : EdgeId → Option ℕ) (edge : Edge) (id : EdgeId) →
      HasNumbers names dfa edge id → valued id ≡ stored edge → AreOthersKept edge store stored →
      ((other : EdgeId) → other ≢ id → valued other ≡ values other) →
      IsByNumbers names dfa stored valued
  change stored valued edge id has is other_edges other_ids = record {
    same = λ each at numbers. ⊎_elim
        (λ here.
        let id_is = one_id names dfa edge at id
        (subst (λ (one : Edge). HasNumbers names dfa one at) here numbers) has in
        ap valued id_is ∙ (is ∙ ap stored (sym here)))
        (λ differ.
        let ids_differ : at ≢ id = λ id_is. differ (one_edge names dfa id each edge
        (subst (λ (one : EdgeId). HasNumbers names dfa each one) id_is numbers) has) in
        other_ids at ids_differ ∙ (are.same each at numbers ∙ sym (other_edges each differ)))
        (edges_or_not each edge);
    edges = λ at value there. ⊎_elim
        (λ id_is. (edge, subst (λ (one : EdgeId). HasNumbers names dfa edge one) (sym id_is) has))
        (λ differ. are.edges at value (sym (other_ids at differ) ∙ there))
        (ids_or_not at id);
    numbers = λ each value label there placed. ⊎_elim
        (λ here. (id, subst (λ (one : Edge). HasNumbers names dfa one id) (sym here) has))
        (λ differ. are.numbers each value label (sym (other_edges each differ) ∙ there) placed)
        (edges_or_not each edge);
  }

  -- a change of an edge that has no numbers, and no value and label that would need some
  unnumbered : (stored : Edge → Option ℕ) (edge : Edge) →
      ((id : EdgeId) → HasNumbers names dfa edge id → ⊥) →
      ((value label : ℕ) → stored edge ≡ Some value → place_of dfa edge.label ≡ Some label → ⊥) →
      AreOthersKept edge store stored → IsByNumbers names dfa stored values
  unnumbered stored edge has_none needs_none others = record {
    same = λ each id numbers.
        let differ : each ≢ edge = λ is.
        has_none id (subst (λ (one : Edge). HasNumbers names dfa one id) is numbers) in
        are.same each id numbers ∙ sym (others each differ);
    edges = are.edges;
    numbers = λ each value label there placed.
        let differ : each ≢ edge = λ is.
        needs_none value label (ap stored (sym is) ∙ there)
        (ap (λ (one : Edge). place_of dfa one.label) (sym is) ∙ placed) in
        are.numbers each value label (sym (others each differ) ∙ there) placed;
  }

  foreign : (stored : Edge → Option ℕ) (edge : Edge) → place_of dfa edge.label ≡ None →
      AreOthersKept edge store stored → IsByNumbers names dfa stored values
  foreign stored edge lacks others =
      unnumbered stored edge
      (λ id numbers. none-some id.label (sym lacks ∙ numbers.label))
      (λ value label there placed. none-some label (sym lacks ∙ placed)) others

  absent : (stored : Edge → Option ℕ) (edge : Edge) →
      ((id : EdgeId) → HasNumbers names dfa edge id → ⊥) → stored edge ≡ None →
      AreOthersKept edge store stored → IsByNumbers names dfa stored values
  absent stored edge has_none gone others =
      unnumbered stored edge has_none
      (λ value label there placed. none-some value (sym gone ∙ there)) others

  more_names : (more : List (List ℕ)) → KeepsNumbers names more →
      IsByNumbers more dfa store values
  more_names more keeps = record {
    same = λ edge id numbers. same_either (values id) (store edge)
        (λ value there.
        let found = are.edges id value there in
        let was = still names more dfa found.0 id keeps found.1 in
        let edge_is = one_edge more dfa id found.0 edge was numbers in
        are.same found.0 id found.1 ∙ ap store edge_is)
        (λ value there.
        let found = are.numbers edge value id.label there numbers.label in
        let was = still names more dfa edge found.0 keeps found.1 in
        let id_is = one_id more dfa edge id found.0 numbers was in
        ap values id_is ∙ are.same edge found.0 found.1);
    edges = λ id value there.
        let found = are.edges id value there in
        (found.0, still names more dfa found.0 id keeps found.1);
    numbers = λ edge value label there placed.
        let found = are.numbers edge value label there placed in
        (found.0, still names more dfa edge found.0 keeps found.1);
  }

nothing : (names : List (List ℕ)) (dfa : DfaValue) (store : Edge → Option ℕ)
    (values : EdgeId → Option ℕ) →
    ((edge : Edge) → store edge ≡ None) → ((id : EdgeId) → values id ≡ None) →
    IsByNumbers names dfa store values
nothing names dfa store values no_edge no_id = record {
  same = λ edge id numbers. no_id id ∙ sym (no_edge edge);
  edges = λ id value there. absurd (none-some value (sym (no_id id) ∙ there));
  numbers = λ edge value label there placed. absurd (none-some value (sym (no_edge edge) ∙ there));
}

pub by_numbers_steps : ByNumbersSteps
by_numbers_steps = record {
  nothing = nothing;
  steps = λ names dfa store values are. record {
    expire = expire names dfa store values are;
    change = change names dfa store values are;
    foreign = foreign names dfa store values are;
    absent = absent names dfa store values are;
    more_names = more_names names dfa store values are;
  };
}
