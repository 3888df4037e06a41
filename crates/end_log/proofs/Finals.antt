-- The end of a vertex before and after a change in which all nodes that came or went did the same.
use Rattle.std.proofs.Common.{◌≡◌, ℕ, List, Option, None, Some, refl, sym, ap, subst, ◌∙◌, Contains, true≢false}
use Rattle.std.specs.Prelude.{IsSome, is_some}
use Rattle.delta_tree.specs.Nodes.{TreeValue, node_id, value_of}
use Rattle.source_tree.specs.Ends.{HasOutcome, end_in}
use Rattle.source_tree.specs.declared.change.Outcome.{Outcome}
use Rattle.source_tree.specs.declared.change.Outcome.TheVariants.{Lost, Gained}
use Rattle.source_tree.proofs.Covering.{IsAtMost, greatest_from, greatest_most, values_at}

-- ---- options

-- no option is there and isn't
pub some_none : (value : Option ℕ) → IsSome value → value ≡ None → ⊥
some_none value some none = true≢false (sym some ∙ ap is_some none)

none_if_not : (value : Option ℕ) → (IsSome value → ⊥) → value ≡ None
none_if_not None never = refl
none_if_not (Some value) never = absurd (never refl)

none_at_most : (value : Option ℕ) → IsAtMost value None → value ≡ None
none_at_most None low = refl
none_at_most (Some value) low = absurd low

some_at_most : (value end : Option ℕ) → IsSome value → IsAtMost value end → IsSome end
some_at_most None end some low = absurd (some_none None some refl)
some_at_most (Some value) None some low = absurd low
some_at_most (Some value) (Some end) some low = refl

-- ---- one tree

module _ (finals : List ℕ) (tree : TreeValue) (vertex : ℕ) where
  -- a node with a final state
  some_end : (state : ℕ) → Contains finals state → IsSome (value_of tree (node_id vertex state)) →
      IsSome (end_in finals tree vertex)
  some_end state final some = some_at_most (values_at tree vertex state)
      (end_in finals tree vertex) some (greatest_most finals (values_at tree vertex) state final)

  -- where there is no end, no final state has a node
  bare : end_in finals tree vertex ≡ None → (state : ℕ) → Contains finals state →
      value_of tree (node_id vertex state) ≡ None
  bare none state final = none_at_most (values_at tree vertex state)
      (subst (IsAtMost (values_at tree vertex state)) none
      (greatest_most finals (values_at tree vertex) state final))

  -- a final state with a node
  record HasNode : Type 0 where
    pub state : ℕ
    pub final : Contains finals state
    pub some : IsSome (value_of tree (node_id vertex state))

  has_node : (end : Option ℕ) → end_in finals tree vertex ≡ end → IsSome end → HasNode
  has_node None is some = absurd (some_none None some refl)
  has_node (Some value) is some =
      let from = greatest_from finals (values_at tree vertex) value is in
      record { state = from.0; final = from.1; some = ap is_some from.2 }

  -- where no final state has a node there is no end
  no_end : ((state : ℕ) → Contains finals state →
      IsSome (value_of tree (node_id vertex state)) → ⊥) → end_in finals tree vertex ≡ None
  no_end none = by (end_in finals tree vertex) refl
    where
      by : (end : Option ℕ) → end_in finals tree vertex ≡ end → end ≡ None
      by None is = refl
      by (Some value) is =
          let node = has_node (Some value) is refl in
          absurd (none node.state node.final node.some)

-- ---- before and after

module _ (finals : List ℕ) (old new : TreeValue) (vertex : ℕ) where
  abbrev had : ℕ → Option ℕ
  had state = value_of old (node_id vertex state)

  abbrev has : ℕ → Option ℕ
  has state = value_of new (node_id vertex state)

  -- a node with a final state that did so
  pub record MovesAt (outcome : Outcome) : Type 0 where
    pub state : ℕ
    pub final : Contains finals state
    pub moves : HasOutcome outcome (had state) (has state)

  -- where an end comes or goes, so does a node with a final state
  pub moves_at : (outcome : Outcome) →
      HasOutcome outcome (end_in finals old vertex) (end_in finals new vertex) → MovesAt outcome
  moves_at Lost (some, none) =
      let node = has_node finals old vertex (end_in finals old vertex) refl some in
      record {
        state = node.state;
        final = node.final;
        moves = (node.some, bare finals new vertex none node.state node.final);
      }
  moves_at Gained (none, some) =
      let node = has_node finals new vertex (end_in finals new vertex) refl some in
      record {
        state = node.state;
        final = node.final;
        moves = (bare finals old vertex none node.state node.final, node.some);
      }

  -- and none with a final state stands there before and after
  pub none_stays : (outcome : Outcome) →
      HasOutcome outcome (end_in finals old vertex) (end_in finals new vertex) →
      (state : ℕ) → Contains finals state → IsSome (had state) → IsSome (has state) → ⊥
  none_stays Lost (some, none) state final stood stands =
      some_none (has state) stands (bare finals new vertex none state final)
  none_stays Gained (none, some) state final stood stands =
      some_none (had state) stood (bare finals old vertex none state final)

  -- what is there on one side alone came or went
  went_or_stayed : (state : ℕ) → IsSome (had state) → (IsSome (has state) → ⊥) →
      HasOutcome Lost (had state) (has state)
  went_or_stayed state some never = (some, none_if_not (has state) never)

  pub came_or_stood : (state : ℕ) → (IsSome (had state) → ⊥) → IsSome (has state) →
      HasOutcome Gained (had state) (has state)
  came_or_stood state never some = (none_if_not (had state) never, some)

  module _ (outcome : Outcome) (way : (each : Outcome) (state : ℕ) →
      HasOutcome each (had state) (has state) → each ≡ outcome) where
    -- the ends do what the nodes do
    pub ends_one_way : (each : Outcome) →
        HasOutcome each (end_in finals old vertex) (end_in finals new vertex) → each ≡ outcome
    ends_one_way each moved =
        let node = moves_at each moved in
        way each node.state node.moves

  lost_or_gained : Lost ≡ Gained → ⊥
  lost_or_gained is = cc

  -- an end comes or goes if a node with a final state does, and none stands there before and after
  pub end_moves : (outcome : Outcome) → ((each : Outcome) (state : ℕ) →
      HasOutcome each (had state) (has state) → each ≡ outcome) →
      (state : ℕ) → Contains finals state → HasOutcome outcome (had state) (has state) →
      ((other : ℕ) → Contains finals other → IsSome (had other) → IsSome (has other) → ⊥) →
      HasOutcome outcome (end_in finals old vertex) (end_in finals new vertex)
  end_moves Lost way state final moves none = (
    some_end finals old vertex state final moves.0,
    no_end finals new vertex (λ other known stands. lost_or_gained (sym (way Gained other
        (came_or_stood other (λ stood. none other known stood stands) stands)))),
  )
  end_moves Gained way state final moves none = (
    no_end finals old vertex (λ other known stood. lost_or_gained (way Lost other
        (went_or_stayed other stood (λ stands. none other known stood stands)))),
    some_end finals new vertex state final moves.1,
  )
