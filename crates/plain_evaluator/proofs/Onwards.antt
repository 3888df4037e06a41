-- Simple paths, edge by edge.
use Rattle.std.proofs.Common.{◌≡◌, ◌≢◌, ℕ, suc, ◌-◌, ◌<◌, Bool, true, false, not, ◌&&◌, List, []}
use Rattle.std.proofs.Common.{◌∷◌, ◌++◌, length, take, Bor, refl, sym, ap, subst, ◌∙◌, ◌⊎◌, inl}
use Rattle.std.proofs.Common.{inr, ⊎_elim, append_assoc, arith}
use Rattle.std.specs.Prelude.{◌↔◌, IsTrue, All, AllPairs, Contains}
use Rattle.std.specs.List.{list_any}
use Rattle.std.specs.BTreeSet.{insert_key}
use Rattle.std.proofs.lemmas.Bool.{false≢true, both_ways, not-true, false_from_ne_true, and_parts}
use Rattle.std.proofs.lemmas.Bool.{and_from, or_cases, or_left, or_right}
use Rattle.std.proofs.lemmas.List.Elements.{All-cons, All-nil, All-head, All-tail, All-weaker}
use Rattle.std.proofs.lemmas.List.Elements.{All-map}
use Rattle.std.proofs.lemmas.List.Kept.{AllPairs-cons}
use Rattle.std.proofs.Math.Seq.{take-append_seam}
use Rattle.std.proofs.lemmas.List.{map-append, length_push}
use Rattle.std.proofs.lemmas.List.Filters.{length-filter_both}
use Rattle.std.proofs.lemmas.List.Sums.{fold_push}
use Rattle.rpq_base.specs.Order.{pair_cmp}
use Rattle.rpq_base.specs.Same.{same_name}
use Rattle.rpq_base.specs.declared.data.Label.{Label}
use Rattle.rpq_base.specs.declared.data.Edge.{Edge}
use Rattle.rpq_base.specs.declared.data.Pair.{Pair}
use Rattle.rpq_model.specs.declared.mode.Mode.TheVariants.{Simple}
use Rattle.rpq_model.specs.Path.{IsSimple, word_of}
use Rattle.rpq_model.specs.Answers.{Joins, IsJoinedBy}
use Rattle.rpq_model.specs.Relations.{between}
use Rattle.plain_evaluator.specs.Onwards.{vertices_of, leading_elsewhere, unvisited, targets_of, LeadsOn}
use Rattle.plain_evaluator.specs.Onwards.{IsOnwards, IsAlong, IsSimplyAlong}
use Rattle.rpq_model.proofs.Queries.{apart_first}
use Rattle.rpq_base.proofs.Equality.{names}
use Rattle.rpq_base.proofs.Orders.{pair_cmp_exact}
use Rattle.rpq_base.proofs.Members.{cons_members, none_in, HasOneMore, insert_members, kept_members}

-- ---- different vertices

-- those after the first differ from one another
apart_rest : (first : List ℕ) (rest : List (List ℕ)) →
    AllPairs (λ vertex later. vertex ≢ later) (first ∷ rest) →
    AllPairs (λ vertex later. vertex ≢ later) rest
apart_rest first rest apart = λ i j d before below. apart (suc i) (suc j) d (omega (arith, before)) (omega (arith, below))

-- ---- edges that lead elsewhere

-- the edges that lead elsewhere are those with another target
pub elsewhere_members : (edges : List Edge) (vertex : List ℕ) (edge : Edge) →
    Contains (leading_elsewhere edges vertex) edge ↔ (Contains edges edge × (edge.to ≢ vertex))
elsewhere_members edges vertex edge =
    let kept = kept_members edges (λ (each : Edge). not (same_name each.to vertex)) edge in (
      (λ member.
          let both = kept.0 member in
          (both.0, λ is. both_ways (same_name edge.to vertex) (not-true (same_name edge.to vertex) both.1) ((names edge.to vertex).1 is))),
      (λ both. kept.1 (both.0, ap not (false_from_ne_true (same_name edge.to vertex) (λ e. both.1 ((names edge.to vertex).0 e))))),
    )

not_not : (test : Bool) → test ≡ not (not test)
not_not true = refl
not_not false = refl

-- without the edges that lead where an edge does, there are fewer
pub fewer_elsewhere : (edges : List Edge) (edge : Edge) → Contains edges edge →
    length (leading_elsewhere edges edge.to) < length edges
fewer_elsewhere edges edge member =
    let there = λ (each : Edge). same_name each.to edge.to in
    let both = length-filter_both (λ (each : Edge). not (there each)) there (λ each. not_not (there each)) edges in
    let kept = (kept_members edges there edge).1 (member, (names edge.to edge.to).1 refl) in
    let some = kept.1 in
    omega (arith, both, some)

-- a path of edges that lead elsewhere doesn't come to the vertex
path_elsewhere : (edges : List Edge) (vertex : List ℕ) (path : List Edge) →
    All (Contains (leading_elsewhere edges vertex)) path →
    All (λ later. vertex ≢ later) (targets_of path)
path_elsewhere edges vertex path members =
    All-map (λ later. vertex ≢ later) (λ (edge : Edge). edge.to) path
    (All-weaker (Contains (leading_elsewhere edges vertex)) (λ edge. vertex ≢ edge.to)
    (λ edge member is. ((elsewhere_members edges vertex edge).0 member).1
    (sym is)) path members)

-- its edges are among all
path_among : (edges : List Edge) (vertex : List ℕ) (path : List Edge) →
    All (Contains (leading_elsewhere edges vertex)) path → All (Contains edges) path
path_among edges vertex path members =
    All-weaker (Contains (leading_elsewhere edges vertex)) (Contains edges)
    (λ edge member. ((elsewhere_members edges vertex edge).0 member).0) path members

-- and the other way round
elsewhere_path : (path : List Edge) (edges : List Edge) (vertex : List ℕ) →
    All (Contains edges) path → All (λ later. vertex ≢ later) (targets_of path) →
    All (Contains (leading_elsewhere edges vertex)) path
elsewhere_path [] edges vertex members apart = All-nil (Contains (leading_elsewhere edges vertex))
elsewhere_path (edge ∷ path) edges vertex members apart =
    let member = All-head (Contains edges) edge path members in
    let differs = All-head (λ later. vertex ≢ later) edge.to (targets_of path) apart in
    All-cons (Contains (leading_elsewhere edges vertex)) edge path
    ((elsewhere_members edges vertex edge).1 (member, λ is. differs (sym is)))
    (elsewhere_path path edges vertex (All-tail (Contains edges) edge path members)
    (All-tail (λ later. vertex ≢ later) edge.to (targets_of path) apart))

-- ---- edges that lead to none of the vertices

-- those with another target
pub unvisited_members : (visited : List (List ℕ)) (edges : List Edge) (edge : Edge) →
    Contains (unvisited edges visited) edge ↔ (Contains edges edge × (Contains visited edge.to → ⊥))
unvisited_members [] edges edge = (
  (λ member. (member, none_in edge.to)),
  (λ both. both.0),
)
unvisited_members (vertex ∷ visited) edges edge =
    let further = unvisited_members visited (leading_elsewhere edges vertex) edge in
    let first = elsewhere_members edges vertex edge in
    let either = cons_members vertex visited edge.to in (
      (λ member.
          let both = further.0 member in
          let differs = first.0 both.0 in
          (differs.0, λ visits. ⊎_elim (λ here. differs.1 (sym here)) (λ later. both.1 later) (either.0 visits))),
      (λ both. further.1 (first.1 (both.0, λ here. both.1 (either.1 (inl (sym here)))), λ later. both.1 (either.1 (inr later)))),
    )

-- one vertex more
pub unvisited_more : (edges : List Edge) (visited : List (List ℕ)) (vertex : List ℕ) →
    unvisited edges (visited ++ vertex ∷ []) ≡ leading_elsewhere (unvisited edges visited) vertex
unvisited_more edges visited vertex = fold_push leading_elsewhere edges visited vertex

-- one reference more
pub visited_more : (visited after : List (Bor (List ℕ))) (one : Bor (List ℕ)) →
    after ≡ visited ++ one ∷ [] → vertices_of after ≡ vertices_of visited ++ one.now ∷ []
visited_more visited after one is = ap vertices_of is ∙ map-append (λ (each : Bor (List ℕ)). each.now) visited (one ∷ [])

-- and the last one taken away again
pub popped : {X : Type 0} (elements after left : List X) (one : X) (count : ℕ) →
    left ≡ take (count - 1) after → count ≡ length after → after ≡ elements ++ one ∷ [] →
    left ≡ elements
popped elements after left one count left_is count_is is =
    let longer = length_push elements one in
    let same = ap length is in
    let counted : count - 1 ≡ length elements = omega (arith, count_is, same, longer) in
    left_is ∙ (ap (λ (n : ℕ). take n after) counted ∙ (ap (take (length elements)) is ∙ take-append_seam elements (one ∷ [])))

-- the test for a visited vertex
visits : (visited : List (Bor (List ℕ))) (vertex : List ℕ) →
    IsTrue (list_any (λ (each : Bor (List ℕ)). same_name each.now vertex) visited) ↔ Contains (vertices_of visited) vertex
visits [] vertex = (
  (λ found. absurd (false≢true found)),
  (λ member. absurd (none_in vertex member)),
)
visits (first ∷ visited) vertex =
    let either = cons_members first.now (vertices_of visited) vertex in
    let further = visits visited vertex in (
      (λ found. either.1 (⊎_elim
          (λ here. inl ((names first.now vertex).0 here))
          (λ later. inr (further.0 later))
          (or_cases (same_name first.now vertex) (list_any (λ (each : Bor (List ℕ)). same_name each.now vertex) visited) found))),
      (λ member. ⊎_elim
          (λ here. or_left (same_name first.now vertex)
          (list_any (λ (each : Bor (List ℕ)). same_name each.now vertex) visited)
          ((names first.now vertex).1 here))
          (λ later. or_right (same_name first.now vertex) (list_any (λ (each : Bor (List ℕ)). same_name each.now vertex) visited) (further.1 later))
          (either.0 member)),
    )

-- an edge that leads on begins at the vertex and leads to one that isn't visited
pub leads_on : (edge : Edge) (at : List ℕ) (visited : List (Bor (List ℕ))) →
    (same_name edge.from at && not (list_any (λ (vertex : Bor (List ℕ)). same_name vertex.now edge.to) visited)) ≡ true →
    (edge.from ≡ at) × (Contains (vertices_of visited) edge.to → ⊥)
leads_on edge at visited e =
    let test = list_any (λ (vertex : Bor (List ℕ)). same_name vertex.now edge.to) visited in
    let both = and_parts (same_name edge.from at) (not test) e in
    ((names edge.from at).0 both.0, λ member. both_ways test (not-true test both.1) ((visits visited edge.to).1 member))

-- one that doesn't begins elsewhere, or leads to a visited one
pub stays_away : (edge : Edge) (at : List ℕ) (visited : List (Bor (List ℕ))) →
    (same_name edge.from at && not (list_any (λ (vertex : Bor (List ℕ)). same_name vertex.now edge.to) visited)) ≡ false →
    edge.from ≡ at → Contains (vertices_of visited) edge.to
stays_away edge at visited e begins = tested test refl
  where
    test : Bool
    test = list_any (λ (vertex : Bor (List ℕ)). same_name vertex.now edge.to) visited

    tested : (result : Bool) → test ≡ result → Contains (vertices_of visited) edge.to
    tested true is = (visits visited edge.to).0 is
    tested false is = absurd (false≢true (sym e ∙ and_from (same_name edge.from at) (not test) ((names edge.from at).1 begins) (ap not is)))

-- ---- one edge and a path after it

module _ (edges : List Edge) (language : List Label → Type 0) (word : List Label) (edge : Edge) where
  -- the word with the edge's label
  abbrev longer : List Label
  longer = word ++ edge.label ∷ []

  -- the word of an edge and a path
  word_along : (path : List Edge) → longer ++ word_of path ≡ word ++ word_of (edge ∷ path)
  word_along path = append_assoc word (edge.label ∷ []) (word_of path)

  -- the edge alone
  along_alone : (to : List ℕ) → Contains edges edge → language longer → edge.to ≡ to →
      LeadsOn edges language word edge.from (edge ∷ []) to
  along_alone to member within is = record {
    leads = record { some = λ e. cc; members = All-cons (Contains edges) edge [] member (All-nil (Contains edges)); leads = (refl, is) };
    apart = AllPairs-cons (λ vertex later. vertex ≢ later) edge.to []
        (All-nil (λ later. edge.to ≢ later)) (λ i j d before below. absurd (omega (arith, below)));
    within = within;
  }

  -- the edge and a path
  along_further : (path : List Edge) (to : List ℕ) → Contains edges edge →
      LeadsOn (leading_elsewhere edges edge.to) language longer edge.to path to →
      LeadsOn edges language word edge.from (edge ∷ path) to
  along_further path to member further = record {
    leads = record {
      some = λ e. cc;
      members = All-cons (Contains edges) edge path member (path_among edges edge.to path further.leads.members);
      leads = (refl, further.leads.leads);
    };
    apart = AllPairs-cons (λ vertex later. vertex ≢ later) edge.to (targets_of path)
        (path_elsewhere edges edge.to path further.leads.members) further.apart;
    within = subst language (word_along path) further.within;
  }

  -- and the other way round
  along_cases : (path : List Edge) (to : List ℕ) →
      LeadsOn edges language word edge.from (edge ∷ path) to →
      (language longer × (edge.to ≡ to)) ⊎ LeadsOn (leading_elsewhere edges edge.to) language longer edge.to path to
  along_cases [] to leads = inl (leads.within, leads.leads.leads.1)
  along_cases (next ∷ path) to leads = inr (record {
    leads = record {
      some = λ e. cc;
      members = elsewhere_path (next ∷ path) edges edge.to
          (All-tail (Contains edges) edge (next ∷ path) leads.leads.members)
          (apart_first edge.to (targets_of (next ∷ path)) leads.apart);
      leads = leads.leads.leads.1;
    };
    apart = apart_rest edge.to (targets_of (next ∷ path)) leads.apart;
    within = subst language (sym (word_along (next ∷ path))) leads.within;
  })

  -- what the edge gives, alone or with a path after it
  pub along_added : (others : List Edge) (from : List ℕ) (before middle found : List Pair) →
      Contains edges edge → others ≡ leading_elsewhere edges edge.to →
      ((pair : Pair) → Contains middle pair ↔ (Contains before pair ⊎ (language longer × (between from edge.to ≡ pair)))) →
      ((pair : Pair) → Contains found pair ↔ (Contains middle pair ⊎ IsOnwards others language from longer edge.to pair)) →
      (pair : Pair) → Contains found pair ↔ (Contains before pair ⊎ IsAlong edges language from word edge pair)
  along_added others from before middle found member is here there pair = (
    (λ found_it. ⊎_elim
        (λ first. ⊎_elim
        (λ was. inl was)
        (λ alone. inr (
          ap (λ (each : Pair). each.from) (sym alone.1),
          (([], along_alone pair.to member alone.0 (ap (λ (each : Pair). each.to) alone.1))),
        ))
        ((here pair).0 first))
        (λ onwards.
        let further = subst (λ (all : List Edge). LeadsOn all language longer edge.to onwards.1.0 pair.to) is onwards.1.1 in
        inr (onwards.0, (onwards.1.0, along_further onwards.1.0 pair.to member further)))
        ((there pair).0 found_it)),
    (λ either. (there pair).1 (⊎_elim
        (λ was. inl ((here pair).1 (inl was)))
        (λ along. ⊎_elim
        (λ alone. inl ((here pair).1 (inr (alone.0, λ i. record { from = sym along.0 i; to = alone.1 i }))))
        (λ further. inr (along.0, (along.1.0, subst (λ (all : List Edge). LeadsOn all language longer edge.to along.1.0 pair.to) (sym is) further)))
        (along_cases along.1.0 pair.to along.1.1))
        either)),
  )

-- ---- one edge after another

-- the pair is along one of these edges, which begins at the vertex
pub record IsAlongOne (firsts edges : List Edge) (language : List Label → Type 0) (from : List ℕ)
    (word : List Label) (at : List ℕ) (pair : Pair) : Type 0 where
  pub edge : Edge
  pub member : Contains firsts edge
  pub begins : edge.from ≡ at
  pub along : IsAlong edges language from word edge pair

module _ (edges : List Edge) (language : List Label → Type 0) (from : List ℕ) (word : List Label) (at : List ℕ) where
  -- along one of the first edges, no pair yet
  pub along_none : (before : List Pair) (pair : Pair) →
      Contains before pair ↔ (Contains before pair ⊎ IsAlongOne [] edges language from word at pair)
  along_none before pair = (
    (λ member. inl member),
    (λ either. ⊎_elim (λ was. was) (λ one. let none = one.member in absurd (omega (arith, none.1))) either),
  )

  -- with one edge more, what was along one is
  along_still : (before : List Edge) (edge : Edge) (after : List Edge) →
      HasOneMore before edge after → (pair : Pair) →
      IsAlongOne before edges language from word at pair → IsAlongOne after edges language from word at pair
  along_still before edge after one_more pair one =
      record { edge = one.edge; member = one_more.still one.edge one.member; begins = one.begins; along = one.along }

  -- one edge more that begins at the vertex
  pub along_more : (before : List Edge) (edge : Edge) (after : List Edge)
      (old found more : List Pair) →
      HasOneMore before edge after → edge.from ≡ at →
      ((pair : Pair) → Contains found pair ↔ (Contains old pair ⊎ IsAlongOne before edges language from word at pair)) →
      ((pair : Pair) → Contains more pair ↔ (Contains found pair ⊎ IsAlong edges language from word edge pair)) →
      (pair : Pair) → Contains more pair ↔ (Contains old pair ⊎ IsAlongOne after edges language from word at pair)
  along_more before edge after old found more one_more begins members adds pair = (
    (λ member. ⊎_elim
        (λ there. ⊎_elim (λ was. inl was) (λ one. inr (along_still before edge after one_more pair one)) ((members pair).0 there))
        (λ along. inr (record { edge = edge; member = one_more.here; begins = begins; along = along }))
        ((adds pair).0 member)),
    (λ either. (adds pair).1 (⊎_elim
        (λ was. inl ((members pair).1 (inl was)))
        (λ one. ⊎_elim
        (λ there. inl ((members pair).1 (inr (record { edge = one.edge; member = there; begins = one.begins; along = one.along }))))
        (λ is. inr (subst (λ (each : Edge). IsAlong edges language from word each pair) (sym is) one.along))
        (one_more.cases one.edge one.member))
        either)),
  )

  -- one that isn't among the edges, or begins elsewhere
  pub along_same : (before : List Edge) (edge : Edge) (after : List Edge) (old found : List Pair) →
      HasOneMore before edge after → (edge.from ≡ at → Contains edges edge → ⊥) →
      ((pair : Pair) → Contains found pair ↔ (Contains old pair ⊎ IsAlongOne before edges language from word at pair)) →
      (pair : Pair) → Contains found pair ↔ (Contains old pair ⊎ IsAlongOne after edges language from word at pair)
  along_same before edge after old found one_more away members pair = (
    (λ member. ⊎_elim (λ was. inl was) (λ one. inr (along_still before edge after one_more pair one)) ((members pair).0 member)),
    (λ either. (members pair).1 (⊎_elim
        (λ was. inl was)
        (λ one. ⊎_elim
        (λ there. inr (record { edge = one.edge; member = there; begins = one.begins; along = one.along }))
        (λ is.
        let member = All-head (Contains edges) one.edge one.along.1.0 one.along.1.1.leads.members in
        absurd (away (ap (λ (each : Edge). each.from) is ∙ one.begins) (subst (Contains edges) (sym is) member)))
        (one_more.cases one.edge one.member))
        either)),
  )

  -- a path onwards begins with one of the edges
  onwards_along : (firsts : List Edge) →
      ((edge : Edge) → Contains edges edge → Contains firsts edge) →
      (path : List Edge) (pair : Pair) →
      pair.from ≡ from → LeadsOn edges language word at path pair.to → IsAlongOne firsts edges language from word at pair
  onwards_along firsts among [] pair is leads = absurd (leads.leads.some refl)
  onwards_along firsts among (edge ∷ path) pair is leads = record {
    edge = edge;
    member = among edge (All-head (Contains edges) edge path leads.leads.members);
    begins = leads.leads.leads.0;
    along = (is, (path, subst (λ (start : List ℕ). LeadsOn edges language word start (edge ∷ path) pair.to) (sym leads.leads.leads.0) leads));
  }

  -- along one of all edges is onwards
  pub along_all : (firsts : List Edge) →
      ((edge : Edge) → Contains edges edge → Contains firsts edge) → (old found : List Pair) →
      ((pair : Pair) → Contains found pair ↔ (Contains old pair ⊎ IsAlongOne firsts edges language from word at pair)) →
      (pair : Pair) → Contains found pair ↔ (Contains old pair ⊎ IsOnwards edges language from word at pair)
  along_all firsts among old found members pair = (
    (λ member. ⊎_elim
        (λ was. inl was)
        (λ one. inr (
          one.along.0,
          (
            one.edge ∷ one.along.1.0,
            subst
                (λ (start : List ℕ). LeadsOn edges language word start
                (one.edge ∷ one.along.1.0) pair.to) one.begins one.along.1.1,
          ),
        ))
        ((members pair).0 member)),
    (λ either. (members pair).1
        (⊎_elim (λ was. inl was)
        (λ onwards. inr (onwards_along firsts among onwards.1.0 pair onwards.0 onwards.1.1)) either)),
  )

-- ---- accepted words

-- a pair more where the word is accepted
pub accepted : (before found : List Pair) (Accepted : Type 0) (key : Pair) → Accepted →
    found ≡ insert_key pair_cmp before key →
    (pair : Pair) → Contains found pair ↔ (Contains before pair ⊎ (Accepted × (key ≡ pair)))
accepted before found Accepted key is_accepted is pair = (
  (λ member. ⊎_elim
      (λ here. inr (is_accepted, here))
      (λ was. inl was)
      ((insert_members pair_cmp_exact before key pair).0 (subst (λ (all : List Pair). Contains all pair) is member))),
  (λ either. subst (λ (all : List Pair). Contains all pair) (sym is)
      ((insert_members pair_cmp_exact before key pair).1 (⊎_elim (λ was. inr was) (λ here. inl here.1) either))),
)

-- ---- simple paths

-- the pair is simply along one of these edges
pub record IsSimplyAlongOne (firsts edges : List Edge) (language : List Label → Type 0) (pair : Pair) : Type 0 where
  pub edge : Edge
  pub member : Contains firsts edge
  pub along : IsSimplyAlong edges language edge pair

module _ (edges : List Edge) (language : List Label → Type 0) where
  pub simply_more : (before : List Edge) (edge : Edge) (after : List Edge)
      (found more : List Pair) →
      HasOneMore before edge after →
      ((pair : Pair) → Contains found pair ↔ IsSimplyAlongOne before edges language pair) →
      ((pair : Pair) → Contains more pair ↔ (Contains found pair ⊎ IsSimplyAlong edges language edge pair)) →
      (pair : Pair) → Contains more pair ↔ IsSimplyAlongOne after edges language pair
  simply_more before edge after found more one_more members adds pair = (
    (λ member. ⊎_elim
        (λ there. let one = (members pair).0 there in record { edge = one.edge; member = one_more.still one.edge one.member; along = one.along })
        (λ along. record { edge = edge; member = one_more.here; along = along })
        ((adds pair).0 member)),
    (λ one. (adds pair).1 (⊎_elim
        (λ there. inl ((members pair).1 (record { edge = one.edge; member = there; along = one.along })))
        (λ is. inr (subst (λ (each : Edge). IsSimplyAlong edges language each pair) (sym is) one.along))
        (one_more.cases one.edge one.member))),
  )

  -- another gives what is along it
  pub simply_along : (edge : Edge) (others : List Edge) (before found : List Pair) →
      edge.to ≢ edge.from → others ≡ leading_elsewhere edges edge.from →
      ((pair : Pair) → Contains found pair ↔ (Contains before pair ⊎ IsAlong others language edge.from [] edge pair)) →
      (pair : Pair) → Contains found pair ↔ (Contains before pair ⊎ IsSimplyAlong edges language edge pair)
  simply_along edge others before found differs is members pair = (
    (λ member. ⊎_elim
        (λ was. inl was)
        (λ along. inr (differs, subst (λ (all : List Edge). IsAlong all language edge.from [] edge pair) is along))
        ((members pair).0 member)),
    (λ either. (members pair).1 (⊎_elim
        (λ was. inl was)
        (λ along. inr (subst (λ (all : List Edge). IsAlong all language edge.from [] edge pair) (sym is) along.1))
        either)),
  )

  -- along one of all edges, the pair is joined by a simple path
  simple_from_along : (pair : Pair) → IsSimplyAlongOne edges edges language pair →
      IsJoinedBy edges language Simple pair
  simple_from_along pair one =
      let edge = one.edge in
      let along = one.along.1 in
      let path = along.1.0 in
      let leads = along.1.1 in
      let is : edge.from ≡ pair.from = sym along.0 in (
        edge ∷ path,
        record {
          leads = record {
            some = λ e. cc;
            members = path_among edges edge.from (edge ∷ path) leads.leads.members;
            leads = (is, leads.leads.leads.1);
          };
          word = leads.within;
          taken = subst (λ (start : List ℕ). IsSimple start (edge ∷ path)) is
              (AllPairs-cons (λ vertex later. vertex ≢ later) edge.from (targets_of (edge ∷ path))
              (path_elsewhere edges edge.from (edge ∷ path) leads.leads.members) leads.apart);
        },
      )

  along_from_simple : (path : List Edge) (pair : Pair) → Joins edges language Simple pair path →
      IsSimplyAlongOne edges edges language pair
  along_from_simple [] pair joins = absurd (joins.leads.some refl)
  along_from_simple (edge ∷ path) pair joins =
      let is : edge.from ≡ pair.from = joins.leads.leads.0 in
      let apart = subst (λ (start : List ℕ). IsSimple start (edge ∷ path)) (sym is) joins.taken in
      let differ = apart_first edge.from (targets_of (edge ∷ path)) apart in
      record {
        edge = edge;
        member = All-head (Contains edges) edge path joins.leads.members;
        along = (
          (λ back. All-head (λ later. edge.from ≢ later) edge.to (targets_of path) differ (sym back)),
          (
            sym is,
            (
              path,
              record {
                leads = record {
                  some = λ e. cc;
                  members = elsewhere_path
                      (edge ∷ path) edges edge.from joins.leads.members differ;
                  leads =
                      (refl, joins.leads.leads.1);
                };
                apart = apart_rest edge.from (targets_of (edge ∷ path)) apart;
                within = joins.word;
              },
            ),
          ),
        );
      }

  -- the pairs along one of all edges are those of the simple paths
  pub simple_joined : (found : List Pair) →
      ((pair : Pair) → Contains found pair ↔ IsSimplyAlongOne edges edges language pair) →
      (pair : Pair) → Contains found pair ↔ IsJoinedBy edges language Simple pair
  simple_joined found members pair = (
    (λ member. simple_from_along pair ((members pair).0 member)),
    (λ joined. (members pair).1 (along_from_simple joined.0 pair joined.1)),
  )
