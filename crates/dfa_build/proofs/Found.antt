-- What the walk finds, as sets.
use Rattle.std.proofs.Common.{◌≡◌, ◌≢◌, ℕ, zero, suc, ◌<◌, List, [], length, get_or, Option, Some, None, refl, sym, ap, ◌∙◌, subst, arith}
use Rattle.std.specs.Prelude.{All}
use Rattle.std.specs.List.{AllPairs}
use Rattle.std.proofs.lemmas.List.{get_or-map, length-map}
use Rattle.std.proofs.lemmas.List.Elements.{All-get_or, All-from_get_or}
use Rattle.dfa_table.specs.Discovery as walk
use Rattle.dfa_table.specs.Discovery.{node_at, IsNext, IsReached, FromFirst, FromNode, IsStep}
use Rattle.dfa_table.specs.declared.discovery.DiscoveryFault.{DiscoveryFault}
use Rattle.dfa_table.specs.declared.discovery.DiscoveryFault.TheVariants.{Full, Memory}
use Rattle.dfa_build.specs.declared.fault.BuildFault.TheVariants.{TooManyStates}
use Rattle.dfa_build.specs.FaultTexts.{build_fault_of}
use Rattle.dfa_build.specs.declared.position_set.PositionSet.{PositionSet}
use Rattle.dfa_build.specs.StateSets.{set_at, IsCut, IsStepTo, IsRow, IsRowOf, IsOneCut, IsFound, FromStart, FromSet, AreRows, HasTooMany, set_of, sets_of, set_graph}

-- the set of a node at a place
pub set_read : (nodes : List ℕ) (place : ℕ) → place < length nodes → set_at (sets_of nodes) place ≡ set_of (node_at nodes place)
set_read nodes place below = get_or-map set_of nodes place 0 (record { bits = 0 }) below

next_cut : (follow masks : List PositionSet) (front node : ℕ) → IsNext (set_graph follow masks) front node → IsOneCut (set_of front) masks (set_of node)
next_cut follow masks front node next = record { some = next.leads.0; place = next.label; within = next.within; cut = next.leads.1 }

-- what is reached is found
reached_found : (follow masks : List PositionSet) (first node : ℕ) → IsReached (set_graph follow masks) first node →
    IsFound follow masks (set_of first) (set_of node)
reached_found follow masks first _ (FromFirst node next) = FromStart (set_of node) (next_cut follow masks first node next)
reached_found follow masks first _ (FromNode before front node reached opens next) =
    FromSet (set_of before) (set_of front) (set_of node) (reached_found follow masks first before reached) opens (next_cut follow masks front node next)

all_found : (follow masks : List PositionSet) (first : ℕ) (nodes : List ℕ) → All (IsReached (set_graph follow masks) first) nodes →
    All (IsFound follow masks (set_of first)) (sets_of nodes)
all_found follow masks first nodes reached =
    All-from_get_or (IsFound follow masks (set_of first)) (sets_of nodes) (record { bits = 0 }) (λ place below.
    let within : place < length nodes = omega (arith, below, length-map nodes set_of) in
    subst (IsFound follow masks (set_of first)) (sym (set_read nodes place within))
    (reached_found follow masks first (node_at nodes place) (All-get_or (IsReached (set_graph follow masks) first) nodes place 0 within reached)))

-- distinct nodes have distinct sets
sets_apart : (nodes : List ℕ) → AllPairs ◌≢◌ nodes → AllPairs ◌≢◌ (sets_of nodes)
sets_apart nodes apart i j d before below same =
    let within : j < length nodes = omega (arith, below, length-map nodes set_of) in
    let first : get_or (sets_of nodes) i d ≡ set_of (get_or nodes i 0) = get_or-map set_of nodes i 0 d (omega (arith, before, within)) in
    let second : get_or (sets_of nodes) j d ≡ set_of (get_or nodes j 0) = get_or-map set_of nodes j 0 d within in
    apart i j 0 before within (ap (λ (set : PositionSet). set.bits) (sym first ∙ (same ∙ second)))

step_is : (step : Option ℕ) (follow masks : List PositionSet) (nodes : List ℕ) (front label : ℕ) → IsStep (set_graph follow masks) nodes front label step →
    IsStepTo (sets_of nodes) (set_of front) (set_at masks label) step
step_is None follow masks nodes front label right = right
step_is (Some zero) follow masks nodes front label right = right
step_is (Some (suc place)) follow masks nodes front label right = (
  omega (arith, right.0, length-map nodes set_of),
  subst (IsCut (set_of front) (set_at masks label)) (sym (set_read nodes place right.0)) right.1.1,
)

row_is : (follow masks : List PositionSet) (nodes : List ℕ) (front : ℕ) (row : List (Option ℕ)) →
    walk.IsRow (set_graph follow masks) nodes front (length masks) row → IsRow (sets_of nodes) (set_of front) masks row
row_is follow masks nodes front row is = record {
  even = is.even;
  steps = λ label below. step_is (get_or row label None) follow masks nodes front label (is.steps label below);
}

-- the rows of the walk are those of the sets
pub rows_are : (follow masks : List PositionSet) (first : ℕ) (nodes : List ℕ) (rows : List (List (Option ℕ))) →
    walk.AreRows (set_graph follow masks) 512 first nodes rows (length nodes) →
    AreRows follow masks (set_of first) (sets_of nodes) rows (length (sets_of nodes))
rows_are follow masks first nodes rows are =
    let as_many = length-map nodes set_of in record {
      as_many = omega (arith, are.as_many, as_many);
      within = omega arith;
      few = omega (arith, are.few, as_many);
      apart = sets_apart nodes are.apart;
      found = all_found follow masks first nodes are.reached;
      start = row_is follow masks nodes first (get_or rows 0 []) are.start;
      others = λ place below.
          let within : place < length nodes = omega (arith, below, as_many) in
          let other = are.others place within in
          subst (λ (set : PositionSet). IsRowOf follow masks (sets_of nodes) set (get_or rows (suc place) [])) (sym (set_read nodes place within))
          (record { reach = set_of other.front; after = other.opens; is = row_is follow masks nodes other.front (get_or rows (suc place) []) other.is });
      order = are.order;
      greatest = are.greatest ∙ sym as_many;
    }

-- only a walk that is full makes too many states
pub only_full : (fault : DiscoveryFault) → build_fault_of fault ≡ TooManyStates → fault ≡ Full
only_full Full is = refl
only_full (Memory memory) is = cc

-- too many nodes are too many sets
pub many_found : (follow masks : List PositionSet) (first : ℕ) → walk.HasTooMany (set_graph follow masks) 512 first → HasTooMany follow masks (set_of first)
many_found follow masks first many = record {
  sets = sets_of many.nodes;
  many = omega (arith, many.many, length-map many.nodes set_of);
  apart = sets_apart many.nodes many.apart;
  found = all_found follow masks first many.nodes many.reached;
}
