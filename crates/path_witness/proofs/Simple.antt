-- The edges that leave their vertices last are a simple path.
use Rattle.std.proofs.Common.{◌≡◌, ◌≢◌, ℕ, Bool, true, false, not, ◌&&◌, ◌||◌, List, [], ◌∷◌, ◌++◌, length, ◌-◌, refl, sym, ap, subst, ◌∙◌, ◌⊎◌, inl, inr, ⊎_elim, append_assoc, arith}
use Rattle.std.specs.Prelude.{All, Some, slice_get, if◌then◌else◌}
use Rattle.std.proofs.lemmas.Bool.{false≢true, and_parts, or_cases, not-true}
use Rattle.std.proofs.lemmas.List.Elements.{All-cons, All-nil, All-head, All-tail}
use Rattle.std.proofs.lemmas.List.Kept.{AllPairs-cons}
use Rattle.std.proofs.lemmas.Option.{same_Some}
use Rattle.rpq_base.proofs.Equality.{names}
use Rattle.rpq_base.specs.Same.{same_name}
use Rattle.rpq_base.specs.declared.data.Edge.{Edge}
use Rattle.rpq_model.specs.Path.{Leads, vertices}
use Rattle.rpq_model.proofs.Paths.{leads_on}
use Rattle.path_witness.specs.Cuts.{Nothing, Kept, Without, IsSimpleCut}
use Rattle.path_witness.specs.LastVisits.{is_left, is_taken, cut_from}
use Rattle.path_witness.proofs.Cutting.{cut_all}

-- ---- which vertices are left

or_is_false : (first second : Bool) → (first || second) ≡ false → (first ≡ false) × (second ≡ false)
or_is_false true second e = absurd (false≢true (sym e))
or_is_false false second e = (refl, e)

differ : (first second : List ℕ) → same_name first second ≡ false → first ≢ second
differ first second is same = false≢true (sym is ∙ (names first second).1 same)

-- edges that don't leave a vertex begin elsewhere
none_left : (path : List Edge) (vertex : List ℕ) → is_left vertex path ≡ false → All (λ edge. vertex ≢ edge.from) path
none_left [] vertex none = All-nil (λ (edge : Edge). vertex ≢ edge.from)
none_left (edge ∷ path) vertex none =
    let both = or_is_false (same_name edge.from vertex) (is_left vertex path) none in
    All-cons (λ (each : Edge). vertex ≢ each.from) edge path (λ same. differ edge.from vertex both.0 (sym same)) (none_left path vertex both.1)

-- a vertex that no edge of a path leaves, and that isn't its end, isn't on it
not_on_it : (path : List Edge) (vertex from to : List ℕ) → Leads from path to → vertex ≢ to → All (λ edge. vertex ≢ edge.from) path →
    All (λ each. vertex ≢ each) (vertices from path)
not_on_it [] vertex from to leads apart all =
    All-cons (λ (each : List ℕ). vertex ≢ each) from [] (λ same. apart (same ∙ leads)) (All-nil (λ (each : List ℕ). vertex ≢ each))
not_on_it (edge ∷ path) vertex from to leads apart all =
    All-cons (λ (each : List ℕ). vertex ≢ each) from (vertices edge.to path)
    (λ same. All-head (λ (each : Edge). vertex ≢ each.from) edge path all (same ∙ sym leads.0))
    (not_on_it path vertex edge.to to leads.1 apart (All-tail (λ (each : Edge). vertex ≢ each.from) edge path all))

-- ---- the cut

-- the vertex is where the edges begin, or one of them leaves it, or it is the end
record IsAwaited (vertex at to : List ℕ) (path : List Edge) : Type 0 where
  pub either : (at ≡ vertex) ⊎ ((is_left vertex path ≡ true) ⊎ (vertex ≡ to))

-- where an edge isn't taken at its own vertex, that is the end or is left again
left_again_by : (vertex at to : List ℕ) (edge : Edge) (later : List Edge) (ended left : Bool) → same_name vertex to ≡ ended → is_left edge.from later ≡ left →
    (not ended && (true && not left)) ≡ false → edge.from ≡ vertex → IsAwaited vertex at to later
left_again_by vertex at to edge later true left ended_is left_is none own = record { either = inr (inr ((names vertex to).0 ended_is)) }
left_again_by vertex at to edge later false true ended_is left_is none own =
    record { either = inr (inl (ap (λ (each : List ℕ). is_left each later) (sym own) ∙ left_is)) }
left_again_by vertex at to edge later false false ended_is left_is none own = absurd (false≢true (sym none))

simple_cut : (path : List Edge) (vertex at to : List ℕ) (skipped : List Edge) → Leads vertex skipped at → Leads at path to → IsAwaited vertex at to path →
    IsSimpleCut vertex to (skipped ++ path) (cut_from vertex to path)
simple_cut [] vertex at to skipped before leads awaited =
    let here : vertex ≡ to = ⊎_elim (λ is. sym is ∙ leads) (λ other. ⊎_elim (λ none. absurd (false≢true none)) (λ is. is) other) awaited.either in
    record {
      is = Without skipped [] (subst (Leads vertex skipped) (leads ∙ sym here) before) Nothing;
      leads = here;
      simple = AllPairs-cons (λ each more. each ≢ more) vertex [] (All-nil (λ (each : List ℕ). vertex ≢ each))
          (λ i j d first below. absurd (omega (arith, below)));
    }
simple_cut (edge ∷ later) vertex at to skipped before leads awaited =
    by_test (is_taken vertex to edge later) refl (simple_cut later edge.to edge.to to [] refl leads.1 (record { either = inl refl }))
    (λ further. simple_cut later vertex edge.to to (skipped ++ edge ∷ []) (leads_on skipped (edge ∷ []) vertex at edge.to before (leads.0, refl)) leads.1 further)
  where
    -- where the vertex is the edge's own, it is the end or is left again
    left_again : is_taken vertex to edge later ≡ false → edge.from ≡ vertex → IsAwaited vertex edge.to to later
    left_again none own = left_again_by vertex edge.to to edge later (same_name vertex to) (is_left edge.from later) refl refl
        (sym (ap (λ (mine : Bool). not (same_name vertex to) && (mine && not (is_left edge.from later))) ((names edge.from vertex).1 own)) ∙ none) own

    await_more : is_taken vertex to edge later ≡ false → IsAwaited vertex edge.to to later
    await_more none = ⊎_elim
        (λ is. left_again none (leads.0 ∙ is))
        (λ other. ⊎_elim
        (λ left. ⊎_elim
        (λ own. left_again none ((names edge.from vertex).0 own))
        (λ again. record { either = inr (inl again) })
        (or_cases (same_name edge.from vertex) (is_left vertex later) left))
        (λ is. record { either = inr (inr is) })
        other)
        awaited.either

    by_test : (test : Bool) → is_taken vertex to edge later ≡ test → IsSimpleCut edge.to to later (cut_from edge.to to later) →
        (IsAwaited vertex edge.to to later → IsSimpleCut vertex to ((skipped ++ edge ∷ []) ++ later) (cut_from vertex to later)) →
        IsSimpleCut vertex to (skipped ++ edge ∷ later) (if test then edge ∷ cut_from edge.to to later else cut_from vertex to later)
    by_test true is taken skips =
        let cut = cut_from edge.to to later in
        let outer = and_parts (not (same_name vertex to)) (same_name edge.from vertex && not (is_left edge.from later)) is in
        let inner = and_parts (same_name edge.from vertex) (not (is_left edge.from later)) outer.1 in
        let own : edge.from ≡ vertex = (names edge.from vertex).0 inner.0 in
        let apart : vertex ≢ to = differ vertex to (not-true (same_name vertex to) outer.0) in
        let never : is_left vertex later ≡ false = ap (λ (each : List ℕ). is_left each later) (sym own) ∙ not-true (is_left edge.from later) inner.1 in
        let closed : Leads vertex skipped vertex = subst (Leads vertex skipped) (sym leads.0 ∙ own) before in
        record {
          is = Without skipped (edge ∷ later) closed (Kept edge taken.is);
          leads = (own, taken.leads);
          simple = AllPairs-cons (λ each more. each ≢ more) vertex (vertices edge.to cut)
              (not_on_it cut vertex edge.to to taken.leads apart (cut_all (λ (each : Edge). vertex ≢ each.from) taken.is (none_left later vertex never))) taken.simple;
        }
    by_test false is taken skips =
        subst (λ (path : List Edge). IsSimpleCut vertex to path (cut_from vertex to later)) (append_assoc skipped (edge ∷ []) later) (skips (await_more is))

-- a path between two vertices, cut so, is simple
pub cut_is_simple : (path : List Edge) (from to : List ℕ) → Leads from path to → IsSimpleCut from to path (cut_from from to path)
cut_is_simple path from to leads = simple_cut path from from to [] refl leads (record { either = inl refl })

-- ---- the ends of a path

last_ends : (path : List Edge) (edge last : Edge) (from to : List ℕ) → Leads from (edge ∷ path) to → Some last ≡ slice_get (edge ∷ path) (length path) → last.to ≡ to
last_ends [] edge last from to leads there = ap (λ (each : Edge). each.to) (same_Some last edge there) ∙ leads.1
last_ends (next ∷ path) edge last from to leads there = last_ends path next last edge.to to leads.1 there

first_begins : (path : List Edge) (edge first : Edge) (from to : List ℕ) → Leads from (edge ∷ path) to → Some first ≡ slice_get (edge ∷ path) 0 → first.from ≡ from
first_begins path edge first from to leads there = ap (λ (each : Edge). each.from) (same_Some first edge there) ∙ leads.0

-- the cut between a path's own ends
pub cut_of_ends : (path : List Edge) (first last : Edge) (from to : List ℕ) (cut : List Edge) → Some first ≡ slice_get path 0 →
    Some last ≡ slice_get path (length path - 1) → cut ≡ cut_from first.from last.to path → Leads from path to → IsSimpleCut from to path cut
cut_of_ends [] first last from to cut here there is leads = absurd cc
cut_of_ends (edge ∷ path) first last from to cut here there is leads =
    let count : length (edge ∷ path) - 1 ≡ length path = omega arith in
    let begins = first_begins path edge first from to leads here in
    let ends = last_ends path edge last from to leads (there ∙ ap (slice_get (edge ∷ path)) count) in
    subst (IsSimpleCut from to (edge ∷ path))
    (sym (is ∙ (ap (λ (vertex : List ℕ). cut_from vertex last.to (edge ∷ path)) begins ∙ ap (λ (end : List ℕ). cut_from from end (edge ∷ path)) ends)))
    (cut_is_simple (edge ∷ path) from to leads)
