-- The ends that came or went with nodes where one state is final, and the nodes with final states.
use Rattle.std.proofs.Common.{◌≡◌, inl, inr, ◌==◌, ◌&&◌, ℕ, Bool, true, false, List, [], ◌∷◌, filter_map, cond, Option, None, Some, length, get_or, refl, sym, ap, ap₂, subst, ◌∙◌, Contains, true≢false, eq-eqb, arith}
use Rattle.std.proofs.lemmas.Bool.{eqb-true}
use Rattle.std.proofs.lemmas.Map.Keys.{IsDistinct-from_apart, apart_from_distinct}
use Rattle.dfa_table.specs.DfaValue.{DfaValue, is_final}
use Rattle.delta_tree.specs.Nodes.{node_id}
use Rattle.delta_tree.proofs.Ids.{none_or_some}
use Rattle.place_table.specs.Table.{TableValue, value_at}
use Rattle.source_tree.specs.Ends.{HasOutcome, end_change, later}
use Rattle.source_tree.specs.declared.change.EndChange.{EndChange}
use Rattle.source_tree.specs.declared.change.Outcome.{Outcome}
use Rattle.end_log.specs.declared.moved.Moved.{Moved}
use Rattle.end_log.specs.Log.{AreApart, AreEndChangesIn, end_at}
use Rattle.end_log.specs.Moves.{AreFinalMoves, AreMoves, HasFinals, IsMove, end_of, end_with, final_one, same_moved}
use Rattle.end_log.proofs.Filtered.{from_filter, in_filter, pairs_filtered}
use Rattle.end_log.proofs.Left.{node_by}

-- ---- where one state is final

later_none : (end : Option ℕ) → later end None ≡ end
later_none None = refl
later_none (Some end) = refl

some_end : (first second : EndChange) → Some first ≡ Some second → first ≡ second
some_end first second same = cc

-- the node has the state, and its end is this
end_is : (state : ℕ) (outcome : Outcome) (moved : Moved) (each : EndChange) →
    end_with state outcome (Some moved) ≡ Some each →
    (moved.state ≡ state) × (end_of outcome moved ≡ each)
end_is state outcome moved each is = by (moved.state == state) refl is
  where
    by : (b : Bool) → (moved.state == state) ≡ b →
        cond b (Some (end_of outcome moved)) None ≡ Some each →
        (moved.state ≡ state) × (end_of outcome moved ≡ each)
    by true same is = (eqb-true moved.state state same, some_end (end_of outcome moved) each is)
    by false other is = absurd (none_or_some each is)

module _ (state : ℕ) (outcome : Outcome) (old new : TableValue) (moves : List Moved)
    (are : AreMoves outcome old new moves) where
  abbrev ends : List EndChange
  ends = filter_map (λ (moved : Moved). end_with state outcome (Some moved)) moves

  abbrev finals : List ℕ
  finals = state ∷ []

  -- the end of a root and a vertex is the value of the node with the state
  end_value : (table : TableValue) (root vertex : ℕ) →
      end_at finals table root vertex ≡ value_at table root (node_id vertex state)
  end_value table root vertex = later_none (value_at table root (node_id vertex state))

  ends_as_node : (each : Outcome) (root vertex : ℕ) →
      HasOutcome each (end_at finals old root vertex) (end_at finals new root vertex) →
      IsMove each old new (node_by root vertex state)
  ends_as_node each root vertex moves_so =
      subst (λ value. HasOutcome each value (value_at new root (node_id vertex state)))
      (end_value old root vertex)
      (subst (λ value. HasOutcome each (end_at finals old root vertex) value)
      (end_value new root vertex) moves_so)

  node_as_end : (each : Outcome) (root vertex : ℕ) →
      IsMove each old new (node_by root vertex state) →
      HasOutcome each (end_at finals old root vertex) (end_at finals new root vertex)
  node_as_end each root vertex moves_so =
      subst (λ value. HasOutcome each value (end_at finals new root vertex))
      (sym (end_value old root vertex))
      (subst (λ value. HasOutcome each (value_at old root (node_id vertex state)) value)
      (sym (end_value new root vertex)) moves_so)

  logged : (each : EndChange) → Contains ends each →
      HasOutcome each.outcome (end_at finals old each.root each.vertex)
      (end_at finals new each.root each.vertex)
  logged each there =
      let made = from_filter (λ (moved : Moved). end_with state outcome (Some moved)) moves each
      there in
      let is = end_is state outcome made.from each made.makes in
      let node : made.from ≡ node_by made.from.root made.from.vertex state =
      ap (node_by made.from.root made.from.vertex) is.0 in
      subst (λ (one : EndChange). HasOutcome one.outcome (end_at finals old one.root one.vertex)
      (end_at finals new one.root one.vertex)) is.1
      (node_as_end outcome made.from.root made.from.vertex
      (subst (IsMove outcome old new) node ((are.exact made.from).0 made.there)))

  listed : (each : EndChange) →
      HasOutcome each.outcome (end_at finals old each.root each.vertex)
      (end_at finals new each.root each.vertex) → Contains ends each
  listed each moves_so =
      let node = node_by each.root each.vertex state in
      let at = ends_as_node each.outcome each.root each.vertex moves_so in
      let kind = are.way each.outcome node at in
      let there = (are.exact node).1 (subst (λ one. IsMove one old new node) kind at) in
      let it : end_of outcome node ≡ each =
      ap (end_change each.root each.vertex) (sym kind) in
      in_filter (λ (moved : Moved). end_with state outcome (Some moved)) moves node each there
      (ap (λ b. cond b (Some (end_of outcome node)) None) (eq-eqb state state refl) ∙ ap Some it)

  -- ends of two nodes with the state are of two roots or vertices
  apart : (first second : Moved) (a b : EndChange) → same_moved first second ≡ false →
      end_with state outcome (Some first) ≡ Some a →
      end_with state outcome (Some second) ≡ Some b → AreApart a b
  apart first second a b two first_is second_is =
      by (end_is state outcome first a first_is) (end_is state outcome second b second_is)
      (a.root == b.root) refl
    where
      by : ((first.state ≡ state) × (end_of outcome first ≡ a)) →
          ((second.state ≡ state) × (end_of outcome second ≡ b)) → (t : Bool) →
          (a.root == b.root) ≡ t → AreApart a b
      by one other false differ =
          inl (λ same. true≢false (sym (eq-eqb a.root b.root same) ∙ differ))
      by one other true same = inr (λ vertices.
          let roots : first.root ≡ second.root =
          ap (λ (each : EndChange). each.root) one.1 ∙ eqb-true a.root b.root same
          ∙ ap (λ (each : EndChange). each.root) (sym other.1) in
          let ends_at : first.vertex ≡ second.vertex =
          ap (λ (each : EndChange). each.vertex) one.1 ∙ vertices
          ∙ ap (λ (each : EndChange). each.vertex) (sym other.1) in
          true≢false (sym (ap₂ (λ x y. x && y) (eq-eqb first.vertex second.vertex ends_at)
          (ap₂ (λ x y. x && y) (eq-eqb first.root second.root roots)
          (eq-eqb first.state second.state (one.0 ∙ sym other.0)))) ∙ two))

  pub one_ends : AreEndChangesIn (state ∷ []) old new ends
  one_ends = record {
    exact = λ each. (logged each, listed each);
    once = pairs_filtered (λ (moved : Moved). end_with state outcome (Some moved))
        (λ x y. same_moved x y ≡ false) AreApart apart moves
        (λ i j d before within. apart_from_distinct same_moved moves i j d are.once before within);
  }

-- the only element of a list
pub only_one : (finals : List ℕ) → length finals ≡ 1 → finals ≡ get_or finals 0 0 ∷ []
only_one [] one = absurd (omega (arith, one))
only_one (first ∷ []) one = refl
only_one (first ∷ (second ∷ rest)) one = absurd (omega (arith, one))

-- ---- the nodes with final states

some_moved : (first second : Moved) → Some first ≡ Some second → first ≡ second
some_moved first second same = cc

-- the node is this one, and has a final state
final_is : (dfa : DfaValue) (moved kept : Moved) → final_one dfa (Some moved) ≡ Some kept →
    (is_final dfa moved.state ≡ true) × (moved ≡ kept)
final_is dfa moved kept is = by (is_final dfa moved.state) refl is
  where
    by : (b : Bool) → is_final dfa moved.state ≡ b → cond b (Some moved) None ≡ Some kept →
        (is_final dfa moved.state ≡ true) × (moved ≡ kept)
    by true final is = (final, some_moved moved kept is)
    by false other is = absurd (none_or_some kept is)

module _ (dfa : DfaValue) (finals : List ℕ) (outcome : Outcome) (old new : TableValue)
    (moves : List Moved) (known : HasFinals dfa finals) (are : AreMoves outcome old new moves)
  where
    pub final_moves : AreFinalMoves finals outcome old new
        (filter_map (λ (moved : Moved). final_one dfa (Some moved)) moves)
    final_moves = record {
      exact = λ moved. (
        (λ there.
            let made = from_filter (λ (each : Moved). final_one dfa (Some each)) moves moved there in
            let is = final_is dfa made.from moved made.makes in (
              subst (λ (each : Moved). Contains finals each.state) is.1
                  ((known made.from.state).1 is.0),
              subst (IsMove outcome old new) is.1 ((are.exact made.from).0 made.there),
            )),
        (λ at. in_filter (λ (each : Moved). final_one dfa (Some each)) moves moved moved
            ((are.exact moved).1 at.1)
            (ap (λ b. cond b (Some moved) None) ((known moved.state).0 at.0))),
      );
      once = IsDistinct-from_apart same_moved
          (filter_map (λ (each : Moved). final_one dfa (Some each)) moves)
          (pairs_filtered (λ (each : Moved). final_one dfa (Some each))
          (λ x y. same_moved x y ≡ false) (λ a b. same_moved a b ≡ false)
          (λ first second a b two first_is second_is.
          ap₂ same_moved (sym (final_is dfa first a first_is).1)
          (sym (final_is dfa second b second_is).1) ∙ two) moves
          (λ i j d before within.
          apart_from_distinct same_moved moves i j d are.once before within));
      way = are.way;
    }
