-- What the best marks of a path's edges tell.
use Rattle.std.proofs.Common.{◌≡◌, ℕ, ◌+◌, ◌<◌, ◌≤◌, min, List, [], ◌∷◌, ◌++◌, length, get_or}
use Rattle.std.proofs.Common.{take, map, fold, Option, Some, None, refl, sym, ap, subst, ◌∙◌, ◌⊎◌}
use Rattle.std.proofs.Common.{inl, inr, ⊎_elim, arith}
use Rattle.std.specs.Prelude.{All, Contains, slice_get, unwrap_or}
use Rattle.std.specs.List.{AllZip}
use Rattle.std.proofs.lemmas.List.{take_more, map_push}
use Rattle.std.proofs.lemmas.List.Elements.{All-cons, All-nil, All-head, All-tail, All-weaker}
use Rattle.std.proofs.lemmas.List.Elements.{All-contains}
use Rattle.std.proofs.lemmas.List.Sums.{fold-append}
use Rattle.std.proofs.lemmas.Option.{get_or_from_slice_get}
use Rattle.rpq_base.specs.declared.data.Edge.{Edge}
use Rattle.rpq_base.specs.declared.data.Entry.{Entry}
use Rattle.rpq_base.specs.declared.data.Pair.{Pair}
use Rattle.rpq_base.proofs.Members.{cons_members, none_in}
use Rattle.rpq_model.specs.declared.mode.Mode.{Mode}
use Rattle.rpq_model.specs.declared.mode.Mode.TheVariants.{Arbitrary, Simple}
use Rattle.rpq_model.specs.Path.{Leads}
use Rattle.rpq_model.specs.Window.{WindowValue, Placed, clock, live_entries, inserted_edges}
use Rattle.rpq_model.specs.Window.{edges_at}
use Rattle.rpq_model.specs.WindowLaws.{IsTupleDeadline}
use Rattle.rpq_model.specs.Answers.{Joins, IsJoinedBy}
use Rattle.rpq_model.specs.Ends.{IsUntil}
use Rattle.rpq_model.specs.Query.{Query, language_of, path_query}
use Rattle.rpq_model.proofs.OwnDeadlines.{deadline_of, deadline_is, one_deadline}
use Rattle.rpq_model.proofs.Places.{edges_by_places, live_by_places}
use Rattle.rpq_model.proofs.Queries.{simple_answers_are_apart}
use Rattle.containment_laws.specs.Accepted.{IsAccepted}
use Rattle.tree_insert.specs.Best.{IsAtLeast}
use Rattle.tree_insert.proofs.Bests.{value_of, greatest_is}
use Rattle.index_laws.specs.Store.{HasDeadline, IsStoreOf}
use Rattle.index_laws.specs.LawsOfStores.{HistoriesHaveStores}
use Rattle.index_laws.specs.LawsOfPaths.{IsBestPathOf}
use Rattle.path_witness.specs.declared.mark.Mark.{Mark}
use Rattle.path_witness.specs.BestPaths.{IsBestFor}
use Rattle.path_witness.specs.Cuts.{IsSimpleCut}
use Rattle.path_witness.specs.Found.{IsFound, IsBestMark, position_of}
use Rattle.path_witness.specs.Marks.{MarksValue, StandsFor}
use Rattle.path_witness.specs.Shows.{Shown, Shows, IsWindowPath, IsLeastDeadline}
use Rattle.path_witness.specs.Told.{IsSeen, IsBestOf, AreMarked, IsTold, least_with, least_of}
use Rattle.path_witness.proofs.Cutting.{cut_all, cut_keeps}
use Rattle.path_witness.proofs.Enough.{same}
use Rattle.path_witness.proofs.WindowPaths.{NoneBelow, least_is_end, inserted_more}

-- ---- one edge

-- an edge of the window has a mark
pub has_mark : (marks : MarksValue) (number : ℕ) (edge : Edge) → IsSeen marks number edge →
    ((history : List Entry) (query : Query) → slice_get marks.queries number ≡ Some query →
    StandsFor marks history → IsFound query.window history edge None) → ⊥
has_mark marks number edge seen found =
    let window = seen.query.window in
    let history = seen.history in
    let now = clock history in
    let none = (found history seen.query seen.there seen.stands).none in
    let at = (edges_by_places same window now history edge).0 seen.member in
    let live : Placed = record { place = at.0; entry = at.1 } in
    none (record { position = position_of live; deadline = deadline_of window live.entry.tuple })
    (record {
      live = live;
      seen = (live_by_places same window now history live).1 (edge, at.2);
      inserts = at.2.undeleted.inserts;
      position = refl;
      deadline = deadline_is window live.entry.tuple seen.slide;
    })

-- and the value of the edge is at most the deadline of its best mark
best_reaches : (window : WindowValue) (history : List Entry) (store : Edge → Option ℕ)
    (until : ℕ) (edge : Edge) (mark : Mark) → IsStoreOf window history store →
    IsBestMark window history edge mark → IsAtLeast until (store edge) → until ≤ mark.deadline
best_reaches window history store until edge mark is best reached =
    let there = value_of (store edge) until reached in
    let has = greatest_is (store edge) (HasDeadline window history edge) there.0 (is edge)
    there.1 in
    let most = best.best
    (record { position = position_of has.live; deadline = there.0 })
    (record {
      live = has.live;
      seen = has.member;
      inserts = has.inserts;
      position = refl;
      deadline = has.due;
    }) in
    ⊎_elim
    (λ less. omega (arith, there.2, less))
    (λ equal. omega (arith, there.2, equal.0))
    most

-- ---- edge by edge

zip_push : {A B : Type 0} (R : A → B → Type 0) (xs : List A) (ys : List B) (x : A) (y : B) →
    AllZip R xs ys → R x y → AllZip R (xs ++ x ∷ []) (ys ++ y ∷ [])
zip_push R [] [] x y all here = (here, tt)
zip_push R [] (first ∷ ys) x y all here = absurd all
zip_push R (first ∷ xs) [] x y all here = absurd all
zip_push R (first ∷ xs) (other ∷ ys) x y all here = (all.0, zip_push R xs ys x y all.1 here)

zip_weaker : {A B : Type 0} (R S : A → B → Type 0) → ((x : A) (y : B) → R x y → S x y) →
    (xs : List A) (ys : List B) → AllZip R xs ys → AllZip S xs ys
zip_weaker R S gives [] [] all = tt
zip_weaker R S gives [] (other ∷ ys) all = absurd all
zip_weaker R S gives (first ∷ xs) [] all = absurd all
zip_weaker R S gives (first ∷ xs) (other ∷ ys) all =
    (gives first other all.0, zip_weaker R S gives xs ys all.1)

-- at first nothing is marked
pub marked_at_first : (kind : Edge → Mark → Type 0) (edges : List Edge) (positions : List ℕ)
    (least : Option ℕ) → positions ≡ [] → least ≡ None →
    AreMarked kind (take 0 edges) positions least
marked_at_first kind edges positions least none never = record {
  marks = [];
  each = subst (λ (some : List Edge). AllZip kind some []) (sym (take_none edges)) tt;
  positions_are = sym none;
  least_is = sym never;
}
  where
    take_none : (some : List Edge) → take 0 some ≡ []
    take_none [] = refl
    take_none (first ∷ some) = refl

-- one edge more
pub marked_more : (kind : Edge → Mark → Type 0) (edges : List Edge) (place : ℕ) (edge : Edge)
    (mark : Mark) (positions more : List ℕ) (least : Option ℕ) → place < length edges →
    edge ≡ get_or edges place edge → kind edge mark → more ≡ positions ++ mark.position ∷ [] →
    AreMarked kind (take place edges) positions least →
    AreMarked kind (take (place + 1) edges) more (Some (least_with least mark.deadline))
marked_more kind edges place edge mark positions more least below is here pushed so_far =
    let marks = so_far.marks in
    let position = λ (each : Mark). each.position in
    let cut : take (place + 1) edges ≡ take place edges ++ edge ∷ [] =
    take_more edges place edge below
    ∙ ap (λ (each : Edge). take place edges ++ each ∷ []) (sym is) in
    record {
      marks = marks ++ mark ∷ [];
      each = subst (λ (some : List Edge). AllZip kind some (marks ++ mark ∷ [])) (sym cut)
          (zip_push kind (take place edges) marks edge mark so_far.each here);
      positions_are = map_push position marks mark
          ∙ (ap (λ (some : List ℕ). some ++ mark.position ∷ []) so_far.positions_are
          ∙ sym pushed);
      least_is = fold-append
          (λ (most : Option ℕ) (each : Mark). Some (least_with most each.deadline)) None marks
          (mark ∷ [])
          ∙ ap (λ (most : Option ℕ). Some (least_with most mark.deadline)) so_far.least_is;
    }

-- ---- the path of the marks' entries

-- entries of the window whose edges are these and which have these marks
record HaveEntries (window : WindowValue) (history : List Entry) (edges : List Edge)
    (marks : List Mark) : Type 0 where
  pub path : List Placed
  pub seen : All (Contains (live_entries window (clock history) history)) path
  pub edges_are : inserted_edges path ≡ edges
  pub positions_are : map position_of path ≡ map (λ (mark : Mark). mark.position) marks
  pub due : AllZip (λ (each : Placed) (mark : Mark).
      IsTupleDeadline window each.entry.tuple mark.deadline) path marks

have_entries : (edges : List Edge) (marks : List Mark) (window : WindowValue)
    (history : List Entry) → AllZip (IsBestMark window history) edges marks →
    HaveEntries window history edges marks
have_entries [] [] window history all = record {
  path = [];
  seen = All-nil (Contains (live_entries window (clock history) history));
  edges_are = refl;
  positions_are = refl;
  due = tt;
}
have_entries [] (mark ∷ marks) window history all = absurd all
have_entries (edge ∷ edges) [] window history all = absurd all
have_entries (edge ∷ edges) (mark ∷ marks) window history all =
    let is = all.0.live in
    let rest = have_entries edges marks window history all.1 in
    record {
      path = is.live ∷ rest.path;
      seen = All-cons (Contains (live_entries window (clock history) history)) is.live rest.path
          is.seen rest.seen;
      edges_are = inserted_more _ edge (inserted_edges rest.path) edges is.inserts rest.edges_are;
      positions_are = λ i. sym is.position i ∷ rest.positions_are i;
      due = (is.deadline, rest.due);
    }

-- no mark's deadline is below what all values reach
all_reach : (edges : List Edge) (marks : List Mark) (window : WindowValue) (history : List Entry)
    (store : Edge → Option ℕ) (until : ℕ) → IsStoreOf window history store →
    AllZip (IsBestMark window history) edges marks →
    All (λ edge. IsAtLeast until (store edge)) edges →
    All (λ (mark : Mark). until ≤ mark.deadline) marks
all_reach [] [] window history store until is all reached =
    All-nil (λ (mark : Mark). until ≤ mark.deadline)
all_reach [] (mark ∷ marks) window history store until is all reached = absurd all
all_reach (edge ∷ edges) [] window history store until is all reached = absurd all
all_reach (edge ∷ edges) (mark ∷ marks) window history store until is all reached =
    let reaches = λ (each : Edge). IsAtLeast until (store each) in
    All-cons (λ (each : Mark). until ≤ each.deadline) mark marks
    (best_reaches window history store until edge mark is all.0
    (All-head reaches edge edges reached))
    (all_reach edges marks window history store until is all.1
    (All-tail reaches edge edges reached))

-- what stands beside an element
beside : {A B : Type 0} (R : A → B → Type 0) (xs : List A) (ys : List B) (x : A) → AllZip R xs ys →
    Contains xs x → (y : B) × Contains ys y × R x y
beside R [] ys x all member = absurd (none_in x member)
beside R (first ∷ xs) [] x all member = absurd all
beside R (first ∷ xs) (other ∷ ys) x all member = ⊎_elim
    (λ here.
    (other, (cons_members other ys other).1 (inl refl), subst (λ each. R each other) here all.0))
    (λ later.
    let found = beside R xs ys x all.1 later in
    (found.0, (cons_members other ys found.0).1 (inr found.1), found.2))
    ((cons_members first xs x).0 member)

-- ---- the least deadline

abbrev step : Option ℕ → Mark → Option ℕ
step least mark = Some (least_with least mark.deadline)

-- a number that is met, and below which there is nothing, is the least
least_from : (marks : List Mark) (start until : ℕ) → until ≤ start →
    All (λ (mark : Mark). until ≤ mark.deadline) marks →
    (start ≡ until) ⊎ ((mark : Mark) × Contains marks mark × (mark.deadline ≡ until)) →
    fold step (Some start) marks ≡ Some until
least_from [] start until le all met = ⊎_elim
    (λ is. ap (λ (number : ℕ). Some number) is)
    (λ found. absurd (none_in found.0 found.1))
    met
least_from (first ∷ marks) start until le all met =
    let above = λ (mark : Mark). until ≤ mark.deadline in
    let head = All-head above first marks all in
    least_from marks (min start first.deadline) until (omega (arith, le, head))
    (All-tail above first marks all)
    (⊎_elim
    (λ is. inl (omega (arith, is, head)))
    (λ found. ⊎_elim
    (λ here.
    let is : first.deadline ≡ until =
    ap (λ (mark : Mark). mark.deadline) here ∙ found.2 in inl (omega (arith, is, le)))
    (λ later. inr (found.0, later, found.2))
    ((cons_members first marks found.0).0 found.1))
    met)

least_found : (marks : List Mark) (until : ℕ) →
    All (λ (mark : Mark). until ≤ mark.deadline) marks → (mark : Mark) → Contains marks mark →
    mark.deadline ≡ until → least_of marks ≡ Some until
least_found [] until all mark member is = absurd (none_in mark member)
least_found (first ∷ marks) until all mark member is =
    let above = λ (each : Mark). until ≤ each.deadline in
    least_from marks first.deadline until (All-head above first marks all)
    (All-tail above first marks all)
    (⊎_elim
    (λ here. inl (ap (λ (each : Mark). each.deadline) here ∙ is))
    (λ later. inr (mark, later, is))
    ((cons_members first marks mark).0 member))

-- ---- paths that last

-- the edges are a path that the query takes, all of whose values reach the end of the answer
pub record LastsToEnd (query : Query) (history : List Entry) (pair : Pair)
    (edges : List Edge) : Type 0 where
  pub joins : Joins (edges_at query.window (clock history) history) (language_of query) query.mode
      pair edges
  pub until : ℕ
  pub ends : IsUntil (path_query query) history pair until
  pub reached : (store : Edge → Option ℕ) → IsStoreOf query.window history store →
      All (λ edge. IsAtLeast until (store edge)) edges

-- a best path does so for a query that takes all paths
lasts_anyhow : (query : Query) (history : List Entry) (pair : Pair) (path : List Edge) →
    query.mode ≡ Arbitrary → IsBestPathOf query history pair path →
    LastsToEnd query history pair path
lasts_anyhow query history pair path is best = record {
  joins = subst
      (λ (mode : Mode). Joins (edges_at query.window (clock history) history) (language_of query)
      mode pair path) (sym is) best.joins;
  until = best.until;
  ends = best.is_until;
  reached = λ store store_is. (best.least store store_is).least;
}

-- and without its loops for an accepted one that takes simple paths
lasts_without_loops : (query : Query) (history : List Entry) (pair : Pair)
    (path cut : List Edge) → query.mode ≡ Simple → IsAccepted query →
    IsBestPathOf query history pair path →
    ((from to : List ℕ) → (from ≡ to → ⊥) → Leads from path to → IsSimpleCut from to path cut) →
    LastsToEnd query history pair cut
lasts_without_loops query history pair path cut is accepted best cuts =
    let now = clock history in
    let edges = edges_at query.window now history in
    let language = language_of query in
    let answer = subst (λ (mode : Mode). IsJoinedBy edges language mode pair) is
    best.is_until.answer in
    let apart = simple_answers_are_apart language query.window now history pair answer in
    let simple = cuts pair.from pair.to apart best.joins.leads.leads in
    let keeps = cut_keeps language (accepted is) edges pair path cut
    (record { apart = apart; joins = best.joins; is = simple.is }) in
    record {
      joins = subst (λ (mode : Mode). Joins edges language mode pair cut) (sym is) (record {
        leads = keeps.joins.leads;
        word = keeps.joins.word;
        taken = simple.simple;
      });
      until = best.until;
      ends = best.is_until;
      reached = λ store store_is.
          cut_all (λ (edge : Edge). IsAtLeast best.until (store edge)) simple.is
          (best.least store store_is).least;
    }

-- a best path does either, by the mode of its query
pub lasts_by_mode : (marks : MarksValue) (number : ℕ) (path : List Edge) (history : List Entry)
    (query : Query) (pair : Pair) (mode : Mode) → mode ≡ query.mode → mode ≡ Arbitrary →
    IsBestFor marks number path history query pair → LastsToEnd query history pair path
lasts_by_mode marks number path history query pair mode mode_is is best =
    lasts_anyhow query history pair path (sym mode_is ∙ is) best.best

pub cut_lasts : (marks : MarksValue) (number : ℕ) (path cut lent : List Edge)
    (history : List Entry) (query : Query) (pair : Pair) (mode : Mode) → mode ≡ query.mode →
    mode ≡ Simple → lent ≡ cut →
    ((from to : List ℕ) → (from ≡ to → ⊥) → Leads from path to → IsSimpleCut from to path cut) →
    IsBestFor marks number path history query pair → LastsToEnd query history pair lent
cut_lasts marks number path cut lent history query pair mode mode_is is lent_is cuts best =
    subst (LastsToEnd query history pair) (sym lent_is)
    (lasts_without_loops query history pair path cut (sym mode_is ∙ is) best.accepted best.best
    cuts)

-- what its best marks tell shows the answer
told_shows : HistoriesHaveStores → (query : Query) (history : List Entry) (pair : Pair)
    (edges : List Edge) (shown : Shown) → 0 < query.window.slide →
    LastsToEnd query history pair edges → IsTold (IsBestMark query.window history) edges shown →
    Shows query history pair shown
told_shows have_stores query history pair edges shown some lasts told =
    let window = query.window in
    let until = lasts.until in
    let marked = told.marked in
    let marks = marked.marks in
    let store = have_stores.some window history some in
    let above = all_reach edges marks window history store.0 until store.1 marked.each
    (lasts.reached store.0 store.1) in
    let have = have_entries edges marks window history marked.each in
    let path = have.path in
    let is_due = λ (each : Placed) (mark : Mark). IsTupleDeadline window each.entry.tuple
    mark.deadline in
    let is_path : IsWindowPath query history pair path = record {
      seen = have.seen;
      joins = subst
          (λ (all : List Edge). Joins (edges_at window (clock history) history)
          (language_of query) query.mode pair all) (sym have.edges_are) lasts.joins;
    } in
    let from : NoneBelow window path until = λ each deadline member due.
    let found = beside is_due path marks each have.due member in
    let same_deadline = one_deadline window each.entry.tuple found.0.deadline deadline found.2
    due in
    let reach = All-contains (λ (mark : Mark). until ≤ mark.deadline) marks found.0 above
    found.1 in
    omega (arith, reach, same_deadline) in
    let least = least_is_end query history pair until path some lasts.ends is_path from in
    let met = beside is_due path marks least.met.0 have.due least.met.1 in
    let met_is = one_deadline window least.met.0.entry.tuple met.0.deadline until met.2
    least.met.2 in
    let least_is = sym marked.least_is ∙ least_found marks until above met.0 met.1 met_is in
    let until_is : shown.until ≡ until =
    told.until ∙ ap (λ (each : Option ℕ). unwrap_or each 0) least_is in
    record {
      path = path;
      positions = have.positions_are ∙ marked.positions_are;
      is_path = is_path;
      least = subst (IsLeastDeadline window path) (sym until_is) least;
      until = subst (IsUntil (path_query query) history pair) (sym until_is) lasts.ends;
    }

-- ---- a query of the marks

-- the one with a number
pub query_here : (queries : List Query) (marks : MarksValue) (number : ℕ) (here query : Query) →
    queries ≡ marks.queries → here ≡ get_or queries number here →
    slice_get marks.queries number ≡ Some query → here ≡ query
query_here queries marks number here query are is there =
    is
    ∙ get_or_from_slice_get queries number query here
    (ap (λ (some : List Query). slice_get some number) are ∙ there)

module _ (marks : MarksValue) (number : ℕ) (query : Query) (history : List Entry) (pair : Pair)
    (edges : List Edge) (slide : 0 < query.window.slide) (stands : StandsFor marks history)
    (there : slice_get marks.queries number ≡ Some query)
    (lasts : LastsToEnd query history pair edges) where
  -- the edges of a path that lasts are in its window
  pub all_seen : All (IsSeen marks number) edges
  all_seen = All-weaker (Contains (edges_at query.window (clock history) history))
      (IsSeen marks number)
      (λ edge member. record {
        history = history;
        query = query;
        stands = stands;
        there = there;
        slide = slide;
        member = member;
      }) edges lasts.joins.leads.members

  -- and what is told of it shows the answer
  pub shows_told : HistoriesHaveStores → (shown : Shown) →
      IsTold (IsBestOf marks number) edges shown → Shows query history pair shown
  shows_told have_stores shown told =
      let marked = told.marked in
      told_shows have_stores query history pair edges shown slide lasts (record {
        least = told.least;
        marked = record {
          marks = marked.marks;
          each = zip_weaker (IsBestOf marks number) (IsBestMark query.window history)
              (λ edge mark best. best history query there stands) edges marked.marks marked.each;
          positions_are = marked.positions_are;
          least_is = marked.least_is;
        };
        until = told.until;
      })
