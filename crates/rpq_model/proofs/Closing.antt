-- Chains of pairs, by the vertices that they lead over.
use Rattle.std.proofs.Common.{◌≡◌, ℕ, List, [], ◌∷◌, ◌++◌, filter, refl, sym, ap, subst, ◌⊎◌, inl}
use Rattle.std.proofs.Common.{inr, ⊎_elim, arith}
use Rattle.std.specs.Prelude.{◌↔◌, All, Contains}
use Rattle.std.proofs.lemmas.List.Elements.{All-cons, All-nil, All-head, All-tail, All-append}
use Rattle.std.proofs.lemmas.List.Elements.{All-weaker}
use Rattle.rpq_base.specs.Same.{same_name}
use Rattle.rpq_base.specs.declared.data.Pair.{Pair}
use Rattle.rpq_model.specs.Relations.{between, targets, IsComposed, IsPairOver, LeadsOver}
use Rattle.rpq_model.specs.Relations.{IsReached}
use Rattle.rpq_base.proofs.Equality.{names}
use Rattle.rpq_base.proofs.Members.{cons_members, none_in, HasOneMore, kept_members}

-- the pairs lead from the pair's source to its target, over these vertices alone
pub record IsReachedOver (pairs : List Pair) (allowed : List (List ℕ)) (pair : Pair) : Type 0 where
  pub vertices : List (List ℕ)
  pub within : All (Contains allowed) vertices
  pub leads : LeadsOver pairs pair.from vertices pair.to

-- ---- no vertices

over_none : (vertices : List (List ℕ)) (pairs : List Pair) (pair : Pair) →
    All (Contains {X = List ℕ} []) vertices → LeadsOver pairs pair.from vertices pair.to →
    Contains pairs pair
over_none [] pairs pair within leads = leads
over_none (vertex ∷ vertices) pairs pair within leads =
    let none = All-head (Contains []) vertex vertices within in
    absurd (omega (arith, none.1))

-- over no vertex, the pairs lead to themselves
pub reached_at_first : (pairs : List Pair) (pair : Pair) →
    Contains pairs pair ↔ IsReachedOver pairs [] pair
reached_at_first pairs pair = (
  (λ member. record { vertices = []; within = All-nil (Contains []); leads = member }),
  (λ reached. over_none reached.vertices pairs pair reached.within reached.leads),
)

-- ---- one vertex more

-- chains, one after another
pub leads_over : (vertices : List (List ℕ)) (more : List (List ℕ)) (pairs : List Pair)
    (from middle to : List ℕ) →
    LeadsOver pairs from vertices middle → LeadsOver pairs middle more to → LeadsOver pairs from (vertices ++ middle ∷ more) to
leads_over [] more pairs from middle to first second = (first, second)
leads_over (vertex ∷ vertices) more pairs from middle to first second = (first.0, leads_over vertices more pairs vertex middle to first.1 second)

-- with one vertex more, what was reached is
pub reached_still : (pairs : List Pair) (before : List (List ℕ)) (vertex : List ℕ)
    (after : List (List ℕ)) →
    HasOneMore before vertex after →
    (pair : Pair) → IsReachedOver pairs before pair → IsReachedOver pairs after pair
reached_still pairs before vertex after one_more pair reached = record {
  vertices = reached.vertices;
  within = All-weaker (Contains before) (Contains after) one_more.still reached.vertices reached.within;
  leads = reached.leads;
}

-- and so is what is reached over that vertex
pub reached_through : (pairs : List Pair) (before : List (List ℕ)) (vertex : List ℕ)
    (after : List (List ℕ)) →
    HasOneMore before vertex after →
    (from to : List ℕ) → IsReachedOver pairs before (between from vertex) →
    IsReachedOver pairs before (between vertex to) → IsReachedOver pairs after (between from to)
reached_through pairs before vertex after one_more from to first second = record {
  vertices = first.vertices ++ vertex ∷ second.vertices;
  within = All-append (Contains after) first.vertices (vertex ∷ second.vertices)
      (All-weaker (Contains before) (Contains after) one_more.still first.vertices first.within)
      (All-cons (Contains after) vertex second.vertices one_more.here
      (All-weaker (Contains before)
      (Contains after) one_more.still second.vertices second.within));
  leads = leads_over first.vertices second.vertices pairs from vertex to first.leads second.leads;
}

-- the chain doesn't need the vertex, or it is cut there
abbrev pub Either : List Pair → List (List ℕ) → List ℕ → List ℕ → List ℕ → Type 0
Either pairs before vertex from to =
    IsReachedOver pairs before (between from to) ⊎ (IsReachedOver pairs before (between from vertex) × IsReachedOver pairs before (between vertex to))

-- a pair and a chain after it
longer : (pairs : List Pair) (before : List (List ℕ)) (from next to : List ℕ) →
    Contains pairs (between from next) → Contains before next →
    IsReachedOver pairs before (between next to) → IsReachedOver pairs before (between from to)
longer pairs before from next to member allowed reached = record {
  vertices = next ∷ reached.vertices;
  within = All-cons (Contains before) next reached.vertices allowed reached.within;
  leads = (member, reached.leads);
}

alone : (pairs : List Pair) (before : List (List ℕ)) (from to : List ℕ) →
    Contains pairs (between from to) → IsReachedOver pairs before (between from to)
alone pairs before from to member = record { vertices = []; within = All-nil (Contains before); leads = member }

pub reached_cases : (vertices : List (List ℕ)) (pairs : List Pair) (before : List (List ℕ))
    (vertex : List ℕ) (after : List (List ℕ)) →
    HasOneMore before vertex after →
    (from to : List ℕ) → All (Contains after) vertices → LeadsOver pairs from vertices to → Either pairs before vertex from to
reached_cases [] pairs before vertex after one_more from to within leads = inl (alone pairs before from to leads)
reached_cases (next ∷ vertices) pairs before vertex after one_more from to within leads =
    let further = reached_cases vertices pairs before vertex after one_more next to (All-tail (Contains after) next vertices within) leads.1 in
    ⊎_elim
    (λ allowed. ⊎_elim
    (λ reached. inl (longer pairs before from next to leads.0 allowed reached))
    (λ both. inr (longer pairs before from next vertex leads.0 allowed both.0, both.1))
    further)
    (λ is.
    let here : IsReachedOver pairs before (between from vertex) = alone pairs before from vertex
    (subst (λ (end : List ℕ). Contains pairs (between from end)) (sym is) leads.0) in
    inr (
      here,
      ⊎_elim
          (λ reached. subst (λ (start : List ℕ). IsReachedOver pairs before (between start to)) (sym is) reached)
          (λ both. both.1)
          further,
    ))
    (one_more.cases next (All-head (Contains after) next vertices within))

-- a round of the loop: the pairs found, with those over one vertex more
pub reached_more : (pairs : List Pair) (before : List (List ℕ)) (vertex : List ℕ)
    (after : List (List ℕ)) (found more : List Pair) →
    HasOneMore before vertex after →
    ((pair : Pair) → Contains found pair ↔ IsReachedOver pairs before pair) →
    ((pair : Pair) → Contains more pair ↔ IsPairOver found vertex pair) →
    (pair : Pair) → Contains more pair ↔ IsReachedOver pairs after pair
reached_more pairs before vertex after found more one_more found_are more_are pair = (
  (λ member. ⊎_elim
      (λ there. reached_still pairs before vertex after one_more pair ((found_are pair).0 there))
      (λ both. reached_through pairs before vertex after one_more pair.from pair.to
      ((found_are (between pair.from vertex)).0 both.0)
      ((found_are (between vertex pair.to)).0 both.1))
      ((more_are pair).0 member)),
  (λ reached. (more_are pair).1 (⊎_elim
      (λ before_too. inl ((found_are pair).1 before_too))
      (λ both. inr ((found_are (between pair.from vertex)).1 both.0, (found_are (between vertex pair.to)).1 both.1))
      (reached_cases reached.vertices pairs before vertex after one_more pair.from pair.to reached.within reached.leads))),
)

-- the pairs over one vertex are composed of those that lead to it and those that lead from it
pub over_composed : (pairs : List Pair) (vertex : List ℕ) (firsts seconds found : List Pair) →
    firsts ≡ filter (λ (pair : Pair). same_name pair.to vertex) pairs →
    seconds ≡ filter (λ (pair : Pair). same_name pair.from vertex) pairs →
    ((pair : Pair) → Contains found pair ↔ (Contains pairs pair ⊎ IsComposed firsts seconds pair)) →
    (pair : Pair) → Contains found pair ↔ IsPairOver pairs vertex pair
over_composed pairs vertex firsts seconds found firsts_are seconds_are members pair =
    let ends = kept_members pairs (λ (each : Pair). same_name each.to vertex) in
    let begins = kept_members pairs (λ (each : Pair). same_name each.from vertex) in
    let here = (names vertex vertex).1 refl in (
      (λ member. ⊎_elim
          (λ was. inl was)
          (λ composed.
          let middle = composed.0 in
          let first = (ends (between pair.from middle)).0
          (subst (λ (all : List Pair). Contains all (between pair.from middle)) firsts_are composed.1) in
          let second = (begins (between middle pair.to)).0
          (subst (λ (all : List Pair). Contains all (between middle pair.to)) seconds_are composed.2) in
          let is = (names middle vertex).0 first.1 in
          inr (
            subst (λ (end : List ℕ). Contains pairs (between pair.from end)) is first.0,
            subst (λ (start : List ℕ). Contains pairs (between start pair.to)) is second.0,
          ))
          ((members pair).0 member)),
      (λ either. (members pair).1 (⊎_elim
          (λ was. inl was)
          (λ both. inr (
            vertex,
            subst (λ (all : List Pair). Contains all (between pair.from vertex)) (sym firsts_are)
                ((ends (between pair.from vertex)).1 (both.0, here)),
            subst (λ (all : List Pair). Contains all (between vertex pair.to)) (sym seconds_are) ((begins (between vertex pair.to)).1 (both.1, here)),
          ))
          either)),
    )

-- ---- all targets

pub target_of : (pairs : List Pair) (pair : Pair) → Contains pairs pair →
    Contains (targets pairs) pair.to
target_of [] pair member = absurd (none_in pair member)
target_of (first ∷ pairs) pair member =
    (cons_members first.to (targets pairs) pair.to).1 (⊎_elim
    (λ here. inl (ap (λ (each : Pair). each.to) here))
    (λ later. inr (target_of pairs pair later))
    ((cons_members first pairs pair).0 member))

pub over_targets : (vertices : List (List ℕ)) (pairs : List Pair) (from to : List ℕ) →
    LeadsOver pairs from vertices to → All (Contains (targets pairs)) vertices
over_targets [] pairs from to leads = All-nil (Contains (targets pairs))
over_targets (vertex ∷ vertices) pairs from to leads =
    All-cons (Contains (targets pairs)) vertex vertices
    (target_of pairs (between from vertex) leads.0)
    (over_targets vertices pairs vertex to leads.1)

-- over all targets, everything is reached that is
pub reached_at_last : (pairs : List Pair) (vertices : List (List ℕ)) →
    ((vertex : List ℕ) → Contains vertices vertex ↔ Contains (targets pairs) vertex) →
    (pair : Pair) → IsReachedOver pairs vertices pair ↔ IsReached pairs pair
reached_at_last pairs vertices all pair = (
  (λ reached. (reached.vertices, reached.leads)),
  (λ reached. record {
    vertices = reached.0;
    within = All-weaker (Contains (targets pairs)) (Contains vertices)
        (λ vertex member. (all vertex).1 member) reached.0
        (over_targets reached.0 pairs pair.from pair.to reached.1);
    leads = reached.1;
  }),
)
