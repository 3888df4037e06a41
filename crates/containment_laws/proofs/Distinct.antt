-- Distinct names, the sources of edges, and simple paths, in front and behind.
use Rattle.std.proofs.Common.{◌≡◌, ◌≢◌, ℕ, ◌<◌, suc, List, [], ◌∷◌, ◌++◌, map, length, refl, sym}
use Rattle.std.proofs.Common.{ap, subst, ◌∙◌, ⊎_elim, arith}
use Rattle.std.specs.Prelude.{All, Contains}
use Rattle.std.proofs.lemmas.List.{length-append, length-map, get_or_append_left, get_or-map}
use Rattle.std.proofs.lemmas.List.{map-append}
use Rattle.std.proofs.lemmas.List.Elements.{All-contains, Contains-append_right, Contains-push}
use Rattle.rpq_base.proofs.Members.{cons_members}
use Rattle.rpq_base.specs.declared.data.Edge.{Edge}
use Rattle.rpq_model.specs.Path.{Leads, IsSimple, vertices}
use Rattle.containment_laws.specs.Lines.{AreDistinct}

-- ---- distinct names

-- the first of distinct names differs from the rest
pub first_differs : (first : List ℕ) (rest : List (List ℕ)) → AreDistinct (first ∷ rest) →
    All (λ later. first ≢ later) rest
first_differs first rest distinct =
    λ k d below. distinct 0 (suc k) d (omega arith) (omega (arith, below))

-- and they from one another
pub rest_distinct : (first : List ℕ) (rest : List (List ℕ)) → AreDistinct (first ∷ rest) →
    AreDistinct rest
rest_distinct first rest distinct =
    λ i j d before below. distinct (suc i) (suc j) d (omega (arith, before)) (omega (arith, below))

-- distinct names in front, and behind
pub front_distinct : (names more : List (List ℕ)) → AreDistinct (names ++ more) → AreDistinct names
front_distinct names more distinct i j d before below same =
    let first : i < length names = omega (arith, before, below) in
    distinct i j d before (omega (arith, below, length-append names more))
    (get_or_append_left names more d i first
    ∙ (same ∙ sym (get_or_append_left names more d j below)))

pub back_distinct : (names more : List (List ℕ)) → AreDistinct (names ++ more) → AreDistinct more
back_distinct [] more distinct = distinct
back_distinct (name ∷ names) more distinct =
    back_distinct names more (rest_distinct name (names ++ more) distinct)

-- a name in front differs from each behind
pub across : (names more : List (List ℕ)) (name later : List ℕ) → AreDistinct (names ++ more) →
    Contains names name → Contains more later → name ≢ later
across [] more name later distinct first second same = omega (arith, first.1)
across (one ∷ names) more name later distinct first second same = ⊎_elim
    (λ here. All-contains (λ other. one ≢ other) (names ++ more) later
    (first_differs one (names ++ more) distinct)
    (Contains-append_right names more later second) (here ∙ same))
    (λ there.
    across names more name later (rest_distinct one (names ++ more) distinct) there second same)
    ((cons_members one names name).0 first)

-- ---- the sources and the targets of edges

-- the targets of edges
abbrev pub targets_of : List Edge → List (List ℕ)
targets_of edges = map (λ edge. edge.to) edges

-- the sources of edges
abbrev pub sources_of : List Edge → List (List ℕ)
sources_of edges = map (λ edge. edge.from) edges

-- the source of each of the edges is one of them
pub source_member : (edges : List Edge) (edge : Edge) → Contains edges edge →
    Contains (sources_of edges) edge.from
source_member edges edge member = (
  member.0,
  omega (arith, member.1, length-map edges (λ (each : Edge). each.from)),
  get_or-map (λ (each : Edge). each.from) edges member.0 edge edge.from member.1
      ∙ ap (λ (each : Edge). each.from) member.2,
)

-- edges with distinct sources are told by them
pub one_source : (edges : List Edge) (edge other : Edge) → AreDistinct (sources_of edges) →
    Contains edges edge → Contains edges other → other.from ≡ edge.from → other ≡ edge
one_source [] edge other distinct member another same = absurd (omega (arith, member.1))
one_source (first ∷ edges) edge other distinct member another same =
    let elsewhere = first_differs first.from (sources_of edges) distinct in
    let differs : (each : Edge) → Contains edges each → first.from ≢ each.from =
    λ each there. All-contains (λ later. first.from ≢ later) (sources_of edges) each.from elsewhere
    (source_member edges each there) in
    ⊎_elim
    (λ here. ⊎_elim
    (λ also. sym also ∙ here)
    (λ there. absurd (differs other there (ap (λ (each : Edge). each.from) here ∙ sym same)))
    ((cons_members first edges other).0 another))
    (λ there. ⊎_elim
    (λ here. absurd (differs edge there (ap (λ (each : Edge). each.from) here ∙ same)))
    (λ also. one_source edges edge other
    (rest_distinct first.from (sources_of edges) distinct) there also same)
    ((cons_members first edges other).0 another))
    ((cons_members first edges edge).0 member)

-- the vertices of a path are the sources of its edges, and its end
pub vertices_are : (path : List Edge) (from to : List ℕ) → Leads from path to →
    vertices from path ≡ sources_of path ++ to ∷ []
vertices_are [] from to leads = ap (λ (vertex : List ℕ). vertex ∷ []) leads
vertices_are (edge ∷ path) from to leads =
    ap (λ (vertex : List ℕ). vertex ∷ vertices edge.to path) (sym leads.0)
    ∙ ap (λ (all : List (List ℕ)). edge.from ∷ all) (vertices_are path edge.to to leads.1)

-- ---- simple paths

-- what a simple path begins with is simple
pub simple_front : (front rest : List Edge) (from : List ℕ) → IsSimple from (front ++ rest) →
    IsSimple from front
simple_front front rest from simple =
    front_distinct (vertices from front) (targets_of rest)
    (subst AreDistinct (ap (λ (all : List (List ℕ)). from ∷ all)
    (map-append (λ (edge : Edge). edge.to) front rest)) simple)

-- and so is what is left of it
pub simple_rest : (front rest : List Edge) (from middle : List ℕ) → Leads from front middle →
    IsSimple from (front ++ rest) → IsSimple middle rest
simple_rest [] rest from middle leads simple =
    subst (λ (start : List ℕ). IsSimple start rest) leads simple
simple_rest (edge ∷ front) rest from middle leads simple =
    simple_rest front rest edge.to middle leads.1
    (rest_distinct from (targets_of (edge ∷ (front ++ rest))) simple)

-- a simple path that comes back has no edge
pub simple_back : (path : List Edge) (from : List ℕ) → IsSimple from path → Leads from path from →
    path ≡ []
simple_back [] from simple leads = refl
simple_back (edge ∷ path) from simple leads =
    absurd (All-contains (λ later. from ≢ later) (vertices edge.to path) from
    (first_differs from (vertices edge.to path) simple)
    (subst (λ (all : List (List ℕ)). Contains all from)
    (sym (vertices_are path edge.to from leads.1)) (Contains-push (sources_of path) from)) refl)
