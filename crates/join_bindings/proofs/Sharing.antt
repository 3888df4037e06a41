-- Vertices that stand in columns, and those that stand in two.
use Rattle.std.proofs.Common.{◌≡◌, ℕ, zero, suc, ◌+◌, ◌<◌, ◌≤◌, Bool, true, false, not, List, [], ◌∷◌, length, get_or, set, Some, refl, sym, ap, subst, ◌∙◌, ◌⊎◌, inl, inr, ⊎_elim, arith, length-set, get_or-set_other, get_or-set_same}
use Rattle.std.specs.Prelude.{◌↔◌, Contains, All}
use Rattle.std.proofs.lemmas.Bool.{false≢true, cases_eq, cases_lt}
use Rattle.std.proofs.lemmas.List.{get_or_default}
use Rattle.std.proofs.lemmas.Option.{same_Some}
use Rattle.rpq_base.specs.declared.data.Pair.{Pair}
use Rattle.rpq_base.specs.declared.data.Event.{Event}
use Rattle.rpq_base.proofs.Members.{none_in, cons_members}
use Rattle.join_file.specs.declared.data.Term.{Term}
use Rattle.join_file.specs.declared.data.JoinAtom.{JoinAtom}
use Rattle.join_bindings.specs.declared.columns.Side.{Side}
use Rattle.join_bindings.specs.declared.columns.Side.TheVariants.{Source, Target}
use Rattle.join_bindings.specs.declared.columns.Column.{Column}
use Rattle.join_bindings.specs.declared.columns.Columns.{Columns}
use Rattle.join_bindings.specs.declared.overlap.Overlap.{Overlap}
use Rattle.join_bindings.specs.Changed.{IsPut}
use Rattle.join_bindings.specs.State.{family}
use Rattle.join_bindings.specs.Bindings.{value_of, IsPairOf}
use Rattle.join_bindings.specs.Partial.{AreMet}
use Rattle.join_bindings.specs.Pairs.{Rows, row_of, pair, pairs_of, AreSides}
use Rattle.join_bindings.specs.Overlaps.{vertex_at, term_at, StandsAt, IsRight, Renews, IsAtEvent}
use Rattle.join_bindings.specs.Overlaps.{Follows, IsOverlap, FollowsOne, IsBlank, IsColumnOf}
use Rattle.join_bindings.proofs.Rowing.{pairs_are}
use Rattle.join_bindings.proofs.Vertices.{Compared, equal, differ, compared}

-- ---- where a vertex stands

some_member : (row : List (List ℕ)) → (row ≡ [] → ⊥) → (other : List ℕ) × Contains row other
some_member [] some = absurd (some refl)
some_member (first ∷ rest) some = (first, (cons_members first rest first).1 (inl refl))

-- a vertex is the source of a pair where its row isn't bare
pub some_source : (set : List Pair) (sources targets : Rows) (vertex : List ℕ) (bare : Bool) → AreSides sources targets → pairs_of sources ≡ set →
    (bare ≡ true) ↔ (row_of sources vertex ≡ []) → (not bare ≡ true) ↔ ((one : Pair) × Contains set one × (one.from ≡ vertex))
some_source set sources targets vertex true sides is bare = (
  (λ e. absurd (false≢true e)),
  (λ some.
      let one : Pair = some.0 in
      let here : Contains (row_of sources one.from) one.to =
      (pairs_are sources sides.apart one).0 (subst (λ (list : List Pair). Contains list one) (sym is) some.1) in
      absurd (none_in one.to (subst (λ (row : List (List ℕ)). Contains row one.to) (bare.0 refl)
      (subst (λ (name : List ℕ). Contains (row_of sources name) one.to) some.2 here)))),
)
some_source set sources targets vertex false sides is bare = (
  (λ e.
      let other = some_member (row_of sources vertex) (λ none. false≢true (bare.1 none)) in
      let one : Pair = pair vertex other.0 in
      (one, subst (λ (list : List Pair). Contains list one) is ((pairs_are sources sides.apart one).1 other.1), refl)),
  (λ some. refl),
)

-- and the target of one where its row on the other side isn't
pub some_target : (set : List Pair) (sources targets : Rows) (vertex : List ℕ) (bare : Bool) → AreSides sources targets → pairs_of sources ≡ set →
    (bare ≡ true) ↔ (row_of targets vertex ≡ []) → (not bare ≡ true) ↔ ((one : Pair) × Contains set one × (one.to ≡ vertex))
some_target set sources targets vertex true sides is bare = (
  (λ e. absurd (false≢true e)),
  (λ some.
      let one : Pair = some.0 in
      let here : Contains (row_of sources one.from) one.to =
      (pairs_are sources sides.apart one).0 (subst (λ (list : List Pair). Contains list one) (sym is) some.1) in
      let there : Contains (row_of targets one.to) one.from = (sides.turned one.from one.to).1 here in
      absurd (none_in one.from (subst (λ (row : List (List ℕ)). Contains row one.from) (bare.0 refl)
      (subst (λ (name : List ℕ). Contains (row_of targets name) one.from) some.2 there)))),
)
some_target set sources targets vertex false sides is bare = (
  (λ e.
      let other = some_member (row_of targets vertex) (λ none. false≢true (bare.1 none)) in
      let one : Pair = pair other.0 vertex in
      let here : Contains (row_of sources other.0) vertex = (sides.turned other.0 vertex).0 other.1 in
      (one, subst (λ (list : List Pair). Contains list one) is ((pairs_are sources sides.apart one).1 here), refl)),
  (λ some. refl),
)

-- ---- one vertex put in or taken out

pub right_added : (P : List ℕ → Type 0) (before after : List (List ℕ)) (vertex : List ℕ) → P vertex →
    ((other : List ℕ) → Contains after other ↔ (Contains before other ⊎ (vertex ≡ other))) →
    (each : List ℕ) → ((Contains before each ↔ P each) ⊎ (vertex ≡ each)) → Contains after each ↔ P each
right_added P before after vertex holds adds each given = by (compared vertex each)
  where
    by : Compared vertex each → Contains after each ↔ P each
    by (equal same e) = ((λ member. subst P same holds), (λ is. (adds each).1 (inr same)))
    by (differ apart e) = ⊎_elim
        (λ was. (
          (λ member. was.0 (⊎_elim (λ there. there) (λ here. absurd (apart here)) ((adds each).0 member))),
          (λ is. (adds each).1 (inl (was.1 is))),
        ))
        (λ same. absurd (apart same))
        given

pub right_removed : (P : List ℕ → Type 0) (before after : List (List ℕ)) (vertex : List ℕ) → (P vertex → ⊥) →
    ((other : List ℕ) → Contains after other ↔ (Contains before other × (vertex ≡ other → ⊥))) →
    (each : List ℕ) → ((Contains before each ↔ P each) ⊎ (vertex ≡ each)) → Contains after each ↔ P each
right_removed P before after vertex none takes each given = by (compared vertex each)
  where
    by : Compared vertex each → Contains after each ↔ P each
    by (equal same e) = (
      (λ member. absurd (((takes each).0 member).1 same)),
      (λ is. absurd (none (subst P (sym same) is))),
    )
    by (differ apart e) = ⊎_elim
        (λ was. (
          (λ member. was.0 ((takes each).0 member).0),
          (λ is. (takes each).1 (was.1 is, apart)),
        ))
        (λ same. absurd (apart same))
        given

-- first some, then others
pub both_renewed : (sets : List (List Pair)) (columns : Columns) (old mid new : List (List ℕ)) (some other : List ℕ → Type 0) →
    Renews sets columns old mid some → Renews sets columns mid new other → Renews sets columns old new (λ each. some each ⊎ other each)
both_renewed sets columns old mid new some other first second each given = second each (⊎_elim
    (λ was. inl (first each (inl was)))
    (λ either. ⊎_elim (λ here. inl (first each (inr here))) (λ there. inr there) either)
    given)

-- the vertex at an event's column
pub event_renewed : (sets : List (List Pair)) (columns : Columns) (old new : List (List ℕ)) (column : Column) (event : Event) (vertex : List ℕ) →
    vertex ≡ vertex_at column.side event.pair → Renews sets columns old new (λ each. vertex ≡ each) → Renews sets columns old new (IsAtEvent column event)
event_renewed sets columns old new column event vertex is renews each given = renews each (⊎_elim
    (λ was. inl was)
    (λ here. inr (is ∙ here.1))
    given)

-- and where the event is of another query
pub none_renewed : (sets : List (List Pair)) (columns : Columns) (vertices : List (List ℕ)) (column : Column) (event : Event) →
    (column.query ≡ event.query → ⊥) → Renews sets columns vertices vertices (IsAtEvent column event)
none_renewed sets columns vertices column event apart each given = ⊎_elim (λ was. was) (λ here. absurd (apart here.0)) given

-- ---- an event

-- a vertex that isn't at the pair of the event stands where it stood
stands_still : (before now : List (List Pair)) (event : Event) (column : Column) (vertex : List ℕ) → IsPut before now event →
    (event.query ≡ column.query → vertex_at column.side event.pair ≡ vertex → ⊥) → StandsAt before column vertex ↔ StandsAt now column vertex
stands_still before now event column vertex put apart = (
  (λ some. (some.0, (same some.0 some.2).1 some.1, some.2)),
  (λ some. (some.0, (same some.0 some.2).0 some.1, some.2)),
)
  where
    same : (one : Pair) → vertex_at column.side one ≡ vertex →
        Contains (family now column.query) one ↔ Contains (family before column.query) one
    same one is = put.others column.query one (λ both. apart both.0 (ap (vertex_at column.side) both.1 ∙ is))

right_still : (before now : List (List Pair)) (event : Event) (columns : Columns) (vertices : List (List ℕ)) (vertex : List ℕ) → IsPut before now event →
    (event.query ≡ columns.first.query → vertex_at columns.first.side event.pair ≡ vertex → ⊥) →
    (event.query ≡ columns.second.query → vertex_at columns.second.side event.pair ≡ vertex → ⊥) →
    IsRight before columns vertices vertex → IsRight now columns vertices vertex
right_still before now event columns vertices vertex put first second was =
    let one = stands_still before now event columns.first vertex put first in
    let other = stands_still before now event columns.second vertex put second in (
      (λ member. let both = was.0 member in (one.0 both.0, other.0 both.1)),
      (λ both. was.1 (one.1 both.0, other.1 both.1)),
    )

-- the vertex is at the event's column, or it isn't
event_or_not : (column : Column) (event : Event) (vertex : List ℕ) →
    IsAtEvent column event vertex ⊎ (event.query ≡ column.query → vertex_at column.side event.pair ≡ vertex → ⊥)
event_or_not column event vertex = by (cases_eq column.query event.query) (compared (vertex_at column.side event.pair) vertex)
  where
    by : (column.query ≡ event.query) ⊎ (column.query ≡ event.query → ⊥) → Compared (vertex_at column.side event.pair) vertex →
        IsAtEvent column event vertex ⊎ (event.query ≡ column.query → vertex_at column.side event.pair ≡ vertex → ⊥)
    by query (equal same e) = ⊎_elim (λ own. inl (own, same)) (λ other. inr (λ is at. other (sym is))) query
    by query (differ apart e) = inr (λ is at. apart at)

-- all are right once those at the event's columns are
pub renewed : (now : List (List Pair)) (event : Event) (columns : Columns) (old new : List (List ℕ)) →
    Renews now columns old new (λ each. IsAtEvent columns.first event each ⊎ IsAtEvent columns.second event each) → Follows now event columns old new
renewed now event columns old new renews before put were each = renews each (⊎_elim
    (λ here. inr (inl here))
    (λ first. ⊎_elim
    (λ there. inr (inr there))
    (λ second. inl (right_still before now event columns old each put first second (were each)))
    (event_or_not columns.second event each))
    (event_or_not columns.first event each))

-- ---- all overlaps

-- those at the first places follow, and the others are as they were
pub record FollowSoFar (sets : List (List Pair)) (event : Event) (old now : List Overlap) (place : ℕ) : Type 0 where
  pub as_many : length now ≡ length old
  pub left : (k : ℕ) (d : Overlap) → place ≤ k → get_or now k d ≡ get_or old k d
  pub done : (k : ℕ) (d : Overlap) → k < place → k < length old → FollowsOne sets event (get_or old k d) (get_or now k d)

pub none_follow : (sets : List (List Pair)) (event : Event) (old : List Overlap) → FollowSoFar sets event old old 0
none_follow sets event old = record {
  as_many = refl;
  left = λ k d after. refl;
  done = λ k d below within. absurd (omega (arith, below));
}

pub one_follows : (sets : List (List Pair)) (event : Event) (old now : List Overlap) (place : ℕ) (one new : Overlap) → place < length now →
    one ≡ get_or now place one → FollowsOne sets event one new → FollowSoFar sets event old now place →
    FollowSoFar sets event old (set now place new) (place + 1)
one_follows sets event old now place one new within is follows so_far = record {
  as_many = length-set now place new ∙ so_far.as_many;
  left = λ k d after.
      get_or-set_other now place k new d (λ same. omega (arith, same, after)) ∙ so_far.left k d (omega (arith, after));
  done = λ k d below inside. ⊎_elim
      (λ low. subst (λ (each : Overlap). FollowsOne sets event (get_or old k d) each)
      (sym (get_or-set_other now place k new d (λ same. omega (arith, same, low)))) (so_far.done k d low inside))
      (λ high. here k d (omega (arith, below, high)))
      (cases_lt k place);
}
  where
    here : (k : ℕ) (d : Overlap) → place ≡ k → FollowsOne sets event (get_or old k d) (get_or (set now place new) k d)
    here k d same =
        let was : get_or old place d ≡ one = sym (so_far.left place d (omega arith)) ∙ (get_or_default now place d one within ∙ sym is) in
        subst (λ (at : ℕ). FollowsOne sets event (get_or old at d) (get_or (set now place new) at d)) same
        (subst (λ (each : Overlap). FollowsOne sets event each (get_or (set now place new) place d)) (sym was)
        (subst (λ (each : Overlap). FollowsOne sets event one each) (sym (get_or-set_same now place new d within)) follows))

pub all_follow : (sets : List (List Pair)) (event : Event) (old now : List Overlap) (place : ℕ) → length now ≤ place → FollowSoFar sets event old now place →
    (before : List (List Pair)) → IsPut before sets event → All (IsOverlap before) old → All (IsOverlap sets) now
all_follow sets event old now place all so_far before put were = λ k d below.
    let many = so_far.as_many in
    let within : k < length old = omega (arith, below, many) in
    so_far.done k d (omega (arith, below, all)) within before put (were k d within)

-- where there are no pairs, columns share no vertices
all_empty : (sets : List (List Pair)) (query : ℕ) → All (λ (pairs : List Pair). pairs ≡ []) sets → get_or sets query [] ≡ []
all_empty [] zero all = refl
all_empty [] (suc query) all = refl
all_empty (first ∷ rest) zero all = all 0 [] (omega arith)
all_empty (first ∷ rest) (suc query) all = all_empty rest query (λ k d below. all (suc k) d (omega (arith, below)))

pub blank_overlaps : (sets : List (List Pair)) (overlaps : List Overlap) → All (λ (pairs : List Pair). pairs ≡ []) sets → All IsBlank overlaps → All (IsOverlap sets) overlaps
blank_overlaps sets overlaps none blank = λ k d below vertex.
    let query = (get_or overlaps k d).columns.first.query in (
      (λ member. absurd (none_in vertex (subst (λ (list : List (List ℕ)). Contains list vertex) (blank k d below) member))),
      (λ both. absurd (none_in both.0.0 (subst (λ (list : List Pair). Contains list both.0.0) (all_empty sets query none) both.0.1))),
    )

-- ---- what a variable may be

at_side : (side : Side) (names : List (List ℕ)) (atom : JoinAtom) (one : Pair) → IsPairOf names atom one →
    value_of names (term_at side atom) ≡ Some (vertex_at side one)
at_side Source names atom one is = is.from
at_side Target names atom one is = is.to

stands_there : (sets : List (List Pair)) (atoms : List JoinAtom) (term : Term) (column : Column) (names : List (List ℕ)) (vertex : List ℕ) →
    IsColumnOf atoms term column → AreMet sets names atoms → value_of names term ≡ Some vertex → StandsAt sets column vertex
stands_there sets atoms term column names vertex of met value =
    let atom : JoinAtom = of.0 in
    let here = met atom of.1 in
    let one : Pair = here.0 in
    let found = at_side column.side names atom one here.1 in (
      one,
      subst (λ (query : ℕ). Contains (get_or sets query []) one) of.2 here.2,
      same_Some (vertex_at column.side one) vertex (sym found ∙ (ap (value_of names) of.3 ∙ value)),
    )

-- a variable that is in both columns is among the vertices of the overlap
pub is_narrow : (sets : List (List Pair)) (atoms : List JoinAtom) (term : Term) (overlap : Overlap) (vertices : List (List ℕ)) →
    vertices ≡ overlap.vertices → IsOverlap sets overlap → IsColumnOf atoms term overlap.columns.first → IsColumnOf atoms term overlap.columns.second →
    (names : List (List ℕ)) (vertex : List ℕ) → AreMet sets names atoms → value_of names term ≡ Some vertex → Contains vertices vertex
is_narrow sets atoms term overlap vertices same is first second names vertex met value =
    subst (λ (list : List (List ℕ)). Contains list vertex) (sym same) ((is vertex).1 (
      stands_there sets atoms term overlap.columns.first names vertex first met value,
      stands_there sets atoms term overlap.columns.second names vertex second met value,
    ))
