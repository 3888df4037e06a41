-- A line of edges, a loop at its end and a line from there: one simple path leads from end to end.
use Rattle.std.proofs.Common.{◌≡◌, ◌≢◌, ℕ, List, [], ◌∷◌, ◌++◌, refl, sym, ap, subst, ◌∙◌, ◌⊎◌, inl}
use Rattle.std.proofs.Common.{inr, ⊎_elim, arith}
use Rattle.std.specs.Prelude.{All, Contains}
use Rattle.std.proofs.lemmas.List.{append_assoc, append-nil, map-append}
use Rattle.std.proofs.lemmas.List.Elements.{All-head, All-tail, All-weaker, All-contains}
use Rattle.std.proofs.lemmas.List.Elements.{All-contains_itself, Contains-append_left}
use Rattle.std.proofs.lemmas.List.Elements.{Contains-append_right, Contains-append_cases}
use Rattle.std.proofs.lemmas.List.Elements.{Contains-push}
use Rattle.rpq_base.proofs.Members.{cons_members}
use Rattle.rpq_base.specs.declared.data.Edge.{Edge}
use Rattle.rpq_model.specs.Path.{Leads, IsSimple}
use Rattle.containment_laws.specs.Lines.{AreDistinct}
use Rattle.containment_laws.proofs.Distinct.{first_differs, targets_of, front_distinct}
use Rattle.containment_laws.proofs.Distinct.{back_distinct, across, sources_of, source_member}
use Rattle.containment_laws.proofs.Distinct.{one_source, vertices_are, simple_front, simple_rest}
use Rattle.containment_laws.proofs.Distinct.{simple_back}

-- ---- a path along a line that has no way out

-- the edge is the only one of the edges that leads from its source
abbrev IsOnly : List Edge → Edge → Type 0
IsOnly edges edge = (other : Edge) → Contains edges other → other.from ≡ edge.from → other ≡ edge

-- a path that begins with the line, and what is left of it
record IsAlongLine (line path : List Edge) (from to : List ℕ) : Type 0 where
  pub rest : List Edge
  pub is : path ≡ line ++ rest
  pub leads : Leads from rest to

-- a path to a vertex off the line begins with the line
along_line : (line path edges : List Edge) (from middle to : List ℕ) → All (IsOnly edges) line →
    All (λ edge. edge.from ≢ to) line → Leads from line middle →
    All (Contains edges) path → Leads from path to → IsAlongLine line path middle to
along_line [] path edges from middle to only ends line_leads members leads =
    let there = subst (λ (start : List ℕ). Leads start path to) line_leads leads in
    record { rest = path; is = refl; leads = there }
along_line (edge ∷ line) [] edges from middle to only ends line_leads members leads =
    absurd (All-head (λ each. each.from ≢ to) edge line ends (line_leads.0 ∙ leads))
along_line (edge ∷ line) (first ∷ path) edges from middle to only ends line_leads members leads =
    let is : first ≡ edge =
    All-head (IsOnly edges) edge line only first (All-head (Contains edges) first path members)
    (leads.0 ∙ sym line_leads.0) in
    let next = along_line line path edges edge.to middle to
    (All-tail (IsOnly edges) edge line only)
    (All-tail (λ each. each.from ≢ to) edge line ends) line_leads.1
    (All-tail (Contains edges) first path members)
    (subst (λ (start : List ℕ). Leads start path to)
    (ap (λ (each : Edge). each.to) is) leads.1) in
    record { rest = next.rest; is = λ i. is i ∷ next.is i; leads = next.leads }

-- ---- the line, the loop and the line

-- the sources of edges and of more edges
sources_on : (front rest : List Edge) →
    sources_of (front ++ rest) ≡ sources_of front ++ sources_of rest
sources_on front rest = map-append (λ (edge : Edge). edge.from) front rest

-- what holds of each member holds of all
each_of : {X : Type 0} (P : X → Type 0) (xs : List X) → ((x : X) → Contains xs x → P x) → All P xs
each_of P xs is = All-weaker (Contains xs) P is xs (All-contains_itself xs)

-- and of all behind
all_back : {X : Type 0} (P : X → Type 0) (xs ys : List X) → All P (xs ++ ys) → All P ys
all_back P [] ys all = all
all_back P (x ∷ xs) ys all = all_back P xs ys (All-tail P x (xs ++ ys) all)

-- a line of edges, a loop at its end, and a line from there, over distinct vertices
pub record AreShaped (before loop after : List Edge) (first turn last : List ℕ) : Type 0 where
  pub before_leads : Leads first before turn
  pub loop_leads : Leads turn loop turn
  pub after_leads : Leads turn after last
  pub distinct : AreDistinct (sources_of before ++ (sources_of loop ++ targets_of after))

-- an edge of the loop leads from its vertex
turn_source : (loop : List Edge) (turn : List ℕ) → loop ≢ [] → Leads turn loop turn →
    Contains (sources_of loop) turn
turn_source [] turn some leads = absurd (some refl)
turn_source (edge ∷ loop) turn some leads = (0, omega arith, leads.0)

-- the first line has no other edge from the turn
off_turn_before : (before loop after : List Edge) (first turn last : List ℕ) →
    AreShaped before loop after first turn last → loop ≢ [] → All (λ edge. edge.from ≢ turn) before
off_turn_before before loop after first turn last shaped some =
    each_of (λ edge. edge.from ≢ turn) before
    (λ edge there.
    across (sources_of before) (sources_of loop ++ targets_of after) edge.from turn shaped.distinct
    (source_member before edge there)
    (Contains-append_left (sources_of loop) (targets_of after) turn
    (turn_source loop turn some shaped.loop_leads)))

-- where the second line has no edge
no_after : (before loop path : List Edge) (first turn : List ℕ) →
    AreShaped before loop [] first turn turn → loop ≢ [] →
    All (Contains (before ++ (loop ++ []))) path → Leads first path turn → IsSimple first path →
    path ≡ before ++ []
no_after before loop path first turn shaped some members leads simple =
    let edges = before ++ (loop ++ []) in
    let distinct : AreDistinct (sources_of edges) =
    subst AreDistinct
    (sym (sources_on before (loop ++ [])
    ∙ ap (λ (all : List (List ℕ)). sources_of before ++ all) (sources_on loop [])))
    shaped.distinct in
    let only : All (IsOnly edges) before =
    each_of (IsOnly edges) before
    (λ edge there other member same. one_source edges edge other distinct
    (Contains-append_left before (loop ++ []) edge there) member same) in
    let along = along_line before path edges first turn turn only
    (off_turn_before before loop [] first turn turn shaped some)
    shaped.before_leads members leads in
    let left : IsSimple turn along.rest =
    simple_rest before along.rest first turn shaped.before_leads
    (subst (λ (all : List Edge). IsSimple first all) along.is simple) in
    along.is ∙ ap (λ (rest : List Edge). before ++ rest)
    (simple_back along.rest turn left along.leads)

-- where it has one
module _ (before : List Edge) (back : Edge) (loop : List Edge) (on : Edge) (after : List Edge)
    (first turn last : List ℕ)
    (shaped : AreShaped before (back ∷ loop) (on ∷ after) first turn last) where
  -- the edges of the line, the loop and the line
  abbrev all_edges : List Edge
  all_edges = before ++ ((back ∷ loop) ++ (on ∷ after))

  -- all but the first of the second line
  abbrev others : List Edge
  others = before ++ ((back ∷ loop) ++ after)

  -- the loop has an edge
  some_loop : back ∷ loop ≢ []
  some_loop none = cc

  -- the vertices of the second line are the sources of all its edges but the first, and the last
  after_vertices : targets_of (on ∷ after) ≡ sources_of after ++ last ∷ []
  after_vertices = vertices_are after on.to last shaped.after_leads.1

  all_vertices : sources_of before ++ (sources_of (back ∷ loop) ++ targets_of (on ∷ after))
      ≡ sources_of others ++ last ∷ []
  all_vertices =
      ap (λ (all : List (List ℕ)). sources_of before ++ (sources_of (back ∷ loop) ++ all))
      after_vertices
      ∙ (ap (λ (all : List (List ℕ)). sources_of before ++ all)
      (sym (append_assoc (sources_of (back ∷ loop)) (sources_of after) (last ∷ [])))
      ∙ (sym
      (append_assoc (sources_of before) (sources_of (back ∷ loop) ++ sources_of after) (last ∷ []))
      ∙ ap (λ (all : List (List ℕ)). all ++ last ∷ [])
      (sym (sources_on before ((back ∷ loop) ++ after)
      ∙ ap (λ (all : List (List ℕ)). sources_of before ++ all)
      (sources_on (back ∷ loop) after)))))

  -- so all these sources differ, and the last vertex from them
  vertices_distinct : AreDistinct (sources_of others ++ last ∷ [])
  vertices_distinct = subst AreDistinct all_vertices shaped.distinct

  others_distinct : AreDistinct (sources_of others)
  others_distinct = front_distinct (sources_of others) (last ∷ []) vertices_distinct

  behind_distinct : AreDistinct (sources_of (back ∷ loop) ++ targets_of (on ∷ after))
  behind_distinct = back_distinct (sources_of before)
      (sources_of (back ∷ loop) ++ targets_of (on ∷ after)) shaped.distinct

  -- the edges of each part are among these
  in_before : (edge : Edge) → Contains before edge → Contains others edge
  in_before edge there = Contains-append_left before ((back ∷ loop) ++ after) edge there

  in_loop : (edge : Edge) → Contains (back ∷ loop) edge → Contains others edge
  in_loop edge there = Contains-append_right before ((back ∷ loop) ++ after) edge
      (Contains-append_left (back ∷ loop) after edge there)

  in_after : (edge : Edge) → Contains after edge → Contains others edge
  in_after edge there = Contains-append_right before ((back ∷ loop) ++ after) edge
      (Contains-append_right (back ∷ loop) after edge there)

  -- and no others but one
  among_others : (edge : Edge) → Contains all_edges edge → Contains others edge ⊎ (on ≡ edge)
  among_others edge member = ⊎_elim
      (λ there. inl (in_before edge there))
      (λ behind. ⊎_elim
      (λ there. inl (in_loop edge there))
      (λ further. ⊎_elim (λ is. inr is) (λ there. inl (in_after edge there))
      ((cons_members on after edge).0 further))
      (Contains-append_cases (back ∷ loop) (on ∷ after) edge behind))
      (Contains-append_cases before ((back ∷ loop) ++ (on ∷ after)) edge member)

  -- no edge leads from the last vertex
  off_last : (edge : Edge) → Contains others edge → edge.from ≢ last
  off_last edge there = across (sources_of others) (last ∷ []) edge.from last vertices_distinct
      (source_member others edge there) (0, omega arith, refl)

  -- one edge leads from each vertex but the turn
  only_off_turn : (edge : Edge) → Contains others edge → edge.from ≢ turn → IsOnly all_edges edge
  only_off_turn edge there off other member same = ⊎_elim
      (λ also. one_source others edge other others_distinct there also same)
      (λ is. absurd (off (sym same
      ∙ (ap (λ (each : Edge). each.from) (sym is) ∙ shaped.after_leads.0))))
      (among_others other member)

  -- two lead from the turn
  from_turn : (edge : Edge) → Contains all_edges edge → edge.from ≡ turn →
      (edge ≡ back) ⊎ (on ≡ edge)
  from_turn edge member same = ⊎_elim
      (λ there. inl (one_source others back edge others_distinct
      (in_loop back (0, omega arith, refl)) there (same ∙ sym shaped.loop_leads.0)))
      (λ is. inr is)
      (among_others edge member)

  -- no edge of the loop but its first, and none of the second line but its first, leads from the
  -- turn
  turn_in_loop : Contains (sources_of (back ∷ loop)) turn
  turn_in_loop = turn_source (back ∷ loop) turn some_loop shaped.loop_leads

  loop_off_turn : (edge : Edge) → Contains loop edge → edge.from ≢ turn
  loop_off_turn edge there is =
      All-contains (λ later. back.from ≢ later) (sources_of loop) edge.from
      (first_differs back.from (sources_of loop)
      (front_distinct (sources_of (back ∷ loop)) (targets_of (on ∷ after)) behind_distinct))
      (source_member loop edge there) (shaped.loop_leads.0 ∙ sym is)

  off_turn_behind : (vertex : List ℕ) → Contains (sources_of after ++ last ∷ []) vertex →
      turn ≢ vertex
  off_turn_behind vertex there =
      across (sources_of (back ∷ loop)) (targets_of (on ∷ after)) turn vertex behind_distinct
      turn_in_loop
      (subst (λ (all : List (List ℕ)). Contains all vertex) (sym after_vertices) there)

  after_off_turn : (edge : Edge) → Contains after edge → edge.from ≢ turn
  after_off_turn edge there is =
      off_turn_behind edge.from
      (Contains-append_left (sources_of after) (last ∷ []) edge.from
      (source_member after edge there)) (sym is)

  in_the_loop : (edge : Edge) → Contains loop edge → Contains others edge
  in_the_loop edge there = in_loop edge ((cons_members back loop edge).1 (inr there))

  -- a simple path from the turn to the last vertex doesn't take the loop
  not_round : (edge : Edge) (path : List Edge) → edge ≡ back → All (Contains all_edges) path →
      Leads edge.to path last → IsSimple turn (edge ∷ path) → ⊥
  not_round edge path is members leads simple =
      let along = along_line loop path all_edges back.to turn last
      (each_of (IsOnly all_edges) loop
      (λ each there. only_off_turn each (in_the_loop each there) (loop_off_turn each there)))
      (each_of (λ each. each.from ≢ last) loop
      (λ each there. off_last each (in_the_loop each there)))
      shaped.loop_leads.1 members
      (subst (λ (start : List ℕ). Leads start path last)
      (ap (λ (each : Edge). each.to) is) leads) in
      let whole : edge ∷ path ≡ (back ∷ loop) ++ along.rest = λ i. is i ∷ along.is i in
      some_loop (simple_back (back ∷ loop) turn
      (simple_front (back ∷ loop) along.rest turn
      (subst (λ (all : List Edge). IsSimple turn all) whole simple)) shaped.loop_leads)

  -- so it takes the second line
  onwards : (edge : Edge) (path : List Edge) → on ≡ edge → All (Contains all_edges) path →
      Leads edge.to path last → IsSimple turn (edge ∷ path) → edge ∷ path ≡ on ∷ after
  onwards edge path is members leads simple =
      let along = along_line after path all_edges on.to last last
      (each_of (IsOnly all_edges) after
      (λ each there. only_off_turn each (in_after each there) (after_off_turn each there)))
      (each_of (λ each. each.from ≢ last) after (λ each there. off_last each (in_after each there)))
      shaped.after_leads.1 members
      (subst (λ (start : List ℕ). Leads start path last)
      (ap (λ (each : Edge). each.to) (sym is)) leads) in
      let whole : edge ∷ path ≡ (on ∷ after) ++ along.rest = λ i. sym is i ∷ along.is i in
      let left : IsSimple last along.rest =
      simple_rest (on ∷ after) along.rest turn last shaped.after_leads
      (subst (λ (all : List Edge). IsSimple turn all) whole simple) in
      whole ∙ (ap (λ (rest : List Edge). (on ∷ after) ++ rest)
      (simple_back along.rest last left along.leads) ∙ append-nil (on ∷ after))

  -- a simple path from the turn is the second line
  after_turn : (path : List Edge) → All (Contains all_edges) path → Leads turn path last →
      IsSimple turn path → path ≡ on ∷ after
  after_turn [] members leads simple =
      absurd (off_turn_behind last (Contains-push (sources_of after) last) leads)
  after_turn (edge ∷ path) members leads simple = ⊎_elim
      (λ is. absurd (not_round edge path is
      (All-tail (Contains all_edges) edge path members) leads.1 simple))
      (λ is. onwards edge path is (All-tail (Contains all_edges) edge path members) leads.1 simple)
      (from_turn edge (All-head (Contains all_edges) edge path members) leads.0)

  -- a simple path from the first vertex is the two lines
  with_after : (path : List Edge) → All (Contains all_edges) path → Leads first path last →
      IsSimple first path → path ≡ before ++ (on ∷ after)
  with_after path members leads simple =
      let off_turn =
      off_turn_before before (back ∷ loop) (on ∷ after) first turn last shaped some_loop in
      let along = along_line before path all_edges first turn last
      (each_of (IsOnly all_edges) before
      (λ each there. only_off_turn each (in_before each there)
      (All-contains (λ edge. edge.from ≢ turn) before each off_turn there)))
      (each_of (λ each. each.from ≢ last) before
      (λ each there. off_last each (in_before each there)))
      shaped.before_leads members leads in
      let left : IsSimple turn along.rest =
      simple_rest before along.rest first turn shaped.before_leads
      (subst (λ (all : List Edge). IsSimple first all) along.is simple) in
      let left_members = all_back (Contains all_edges) before along.rest
      (subst (λ (all : List Edge). All (Contains all_edges) all) along.is members) in
      along.is ∙ ap (λ (rest : List Edge). before ++ rest)
      (after_turn along.rest left_members along.leads left)

-- the one simple path between the ends
pub only_path : (before loop after path : List Edge) (first turn last : List ℕ) →
    AreShaped before loop after first turn last → loop ≢ [] →
    All (Contains (before ++ (loop ++ after))) path → Leads first path last → IsSimple first path →
    path ≡ before ++ after
only_path before [] after path first turn last shaped some members leads simple = absurd (some refl)
only_path before (back ∷ loop) [] path first turn last shaped some members leads simple =
    no_after before (back ∷ loop) path first turn
    (record {
      before_leads = shaped.before_leads;
      loop_leads = shaped.loop_leads;
      after_leads = refl;
      distinct = shaped.distinct;
    })
    some members
    (subst (λ (end : List ℕ). Leads first path end) (sym shaped.after_leads) leads) simple
only_path before (back ∷ loop) (on ∷ after) path first turn last shaped some members leads simple =
    with_after before back loop on after first turn last shaped path members leads simple
