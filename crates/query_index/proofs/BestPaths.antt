-- Paths that show answers, from the paths of a forest.
use Rattle.std.proofs.Common.{◌≡◌, ◌==◌, ℕ, ◌+◌, ◌<◌, ◌≤◌, Bool, true, false, not, cond, List, [], ◌∷◌, ◌++◌, length, get_or, take}
use Rattle.std.proofs.Common.{Option, Some, None, Vec, Global, refl, sym, ap, subst, ◌∙◌, ⊎_elim, true≢false, arith}
use Rattle.std.specs.Prelude.{IfNone, IfSome, nat_lt, option_map}
use Rattle.std.proofs.lemmas.Bool.{cases_order, eqb-true, ltb-false, ltb-true}
use Rattle.std.proofs.lemmas.List.{get_or_past, take_more}
use Rattle.std.proofs.lemmas.Option.{none-some, same_Some, slice_get-get_or}
use Rattle.std.proofs.lemmas.Slice.Zip.{all_zipped_more}
use Rattle.rpq_base.specs.declared.data.Edge.{Edge}
use Rattle.rpq_base.specs.declared.data.Entry.{Entry}
use Rattle.rpq_base.specs.declared.data.Label.{Label}
use Rattle.rpq_base.specs.declared.data.Pair.{Pair}
use Rattle.dfa_table.specs.DfaValue.{DfaValue, IsDfa, is_final, place_of}
use Rattle.dfa_table.proofs.Places.{labels_have_places}
use Rattle.rpq_model.specs.declared.mode.Mode.{Mode}
use Rattle.rpq_model.specs.declared.mode.Mode.TheVariants.{Arbitrary, Simple}
use Rattle.rpq_model.specs.Answers.{IsAnswer}
use Rattle.rpq_model.specs.Query.{path_query}
use Rattle.name_table.specs.Names.{number_of}
use Rattle.edge_store.specs.declared.edge.EdgeId.{EdgeId}
use Rattle.edge_store.specs.Edges.{value_of}
use Rattle.delta_tree.specs.Laws.{IsWalk}
use Rattle.tree_insert.specs.Best.{IsLeast}
use Rattle.delta_forest.specs.Forest.{ForestValue, IsEnd, IsFinalValue, kept}
use Rattle.delta_forest.specs.Laws.{KeptIsBest}
use Rattle.delta_forest.specs.Paths.{IsBestPath}
use Rattle.end_events.specs.Changes.{counts}
use Rattle.index_laws.specs.Index.{MayAnswer, TellsOfPair}
use Rattle.index_laws.specs.LawsOfIndexes.{IndexTellsAnswers, TellsAnswers}
use Rattle.index_laws.specs.LawsOfPaths.{HaveNumbers, IsPathBy, LeadsBy, PathsShowAnswers}
use Rattle.index_laws.specs.Numbered.{AreNumbersOf, HasNumbers}
use Rattle.query_file.specs.Compiled.{CompiledValue, IsCompiled}
use Rattle.query_index.specs.IndexValue.{IndexValue}
use Rattle.query_index.specs.Index.{IsIndexFor}
use Rattle.query_index.specs.Paths.{AddsEdge, IsBestBelow, IsBestState}
use Rattle.query_index.specs.Paths.{ShowsEnd, ShowsPair, better, final_value}
use Rattle.query_index.proofs.Rows.{numbers_apart}
use Rattle.query_index.proofs.Stepping.{is_index}
use Rattle.query_index.proofs.Telling.{below, one_name}

-- ---- the best of the final states

-- what is kept for a final state is of a state that is final
final_of : (test : Bool) (there : Option ℕ) (value : ℕ) → cond test there None ≡ Some value →
    (test ≡ true) × (there ≡ Some value)
final_of true there value is = (refl, is)
final_of false there value is = absurd (none-some value is)

value_of_final : (test : Bool) (there : Option ℕ) (value : ℕ) → test ≡ true →
    there ≡ Some value → cond test there None ≡ Some value
value_of_final test there value final is = ap (λ (b : Bool). cond b there None) final ∙ is

module _ (forest : ForestValue) (root vertex : ℕ) where
  pub none_below : IsBestBelow forest root vertex 0 None
  none_below = record {
    is = λ state value there. absurd (none-some (state, value) there);
    most = λ state value below there. absurd (omega (arith, below));
  }

  module _ (count : ℕ) (best : Option (ℕ × ℕ)) (was : IsBestBelow forest root vertex count best)
    where
      -- the next state has no value, or none that is greater
      stays : ((value : ℕ) → final_value forest root vertex count ≡ Some value →
          (other : ℕ) × (greatest : ℕ) × (best ≡ Some (other, greatest)) × (value ≤ greatest)) →
          IsBestBelow forest root vertex (count + 1) best
      stays lower = record {
        is = was.is;
        most = λ state value inside there. ⊎_elim
            (λ (here : state ≡ count).
            lower value (ap (final_value forest root vertex) (sym here) ∙ there))
            (λ differ. ⊎_elim
            (λ (before : state < count). was.most state value before there)
            (λ after. absurd (omega (arith, inside, after)))
            differ)
            (cases_order state count);
      }

      -- it has one that is greater than all before
      rises : (value : ℕ) → final_value forest root vertex count ≡ Some value →
          ((other greatest : ℕ) → best ≡ Some (other, greatest) → greatest ≤ value) →
          IsBestBelow forest root vertex (count + 1) (Some (count, value))
      rises value is above = record {
        is = λ state other there.
            let same = same_Some (count, value) (state, other) there in
            let state_same : count ≡ state = ap (λ (each : ℕ × ℕ). each.0) same in
            let value_same : value ≡ other = ap (λ (each : ℕ × ℕ). each.1) same in
            ap (final_value forest root vertex) (sym state_same)
            ∙ (is ∙ ap (λ (each : ℕ). Some each) value_same);
        most = λ state other inside there. ⊎_elim
            (λ (here : state ≡ count).
            let same : other ≡ value = same_Some other value
            (sym there ∙ (ap (final_value forest root vertex) here ∙ is)) in
            (count, value, refl, omega (arith, same)))
            (λ differ. ⊎_elim
            (λ (before : state < count).
            let found = was.most state other before there in
            let low : found.1 ≤ value = above found.0 found.1 found.2 in
            (count, value, refl, omega (arith, low, found.3)))
            (λ after. absurd (omega (arith, inside, after)))
            differ)
            (cases_order state count);
      }

  by_test : (count other most value : ℕ) (test : Bool) →
      IsBestBelow forest root vertex count (Some (other, most)) →
      final_value forest root vertex count ≡ Some value → nat_lt most value ≡ test →
      IsBestBelow forest root vertex (count + 1)
      (cond test (Some (count, value)) (Some (other, most)))
  by_test count other most value true was is less =
      rises count (Some (other, most)) was value is
      (λ each greatest there.
      let same : most ≡ greatest =
      ap (λ (one : ℕ × ℕ). one.1) (same_Some (other, most) (each, greatest) there) in
      omega (arith, same, ltb-true most value less))
  by_test count other most value false was is more =
      stays count (Some (other, most)) was
      (λ each there.
      let same : each ≡ value = same_Some each value (sym there ∙ is) in
      (other, most, refl, omega (arith, same, ltb-false most value more)))

  better_by : (count : ℕ) (best : Option (ℕ × ℕ)) (found : Option ℕ) →
      IsBestBelow forest root vertex count best →
      final_value forest root vertex count ≡ found →
      IsBestBelow forest root vertex (count + 1) (better best count found)
  better_by count best None was is =
      stays count best was (λ value there. absurd (none-some value (sym is ∙ there)))
  better_by count None (Some value) was is =
      rises count None was value is
      (λ other greatest there. absurd (none-some (other, greatest) there))
  better_by count (Some (other, most)) (Some value) was is =
      by_test count other most value (nat_lt most value) was is refl

  pub better_below : (count : ℕ) (best new : Option (ℕ × ℕ)) (found : Option ℕ) →
      IsBestBelow forest root vertex count best →
      found ≡ final_value forest root vertex count → new ≡ better best count found →
      IsBestBelow forest root vertex (count + 1) new
  better_below count best new found was is made =
      subst (IsBestBelow forest root vertex (count + 1)) (sym made)
      (better_by count best found was (sym is))

  -- a state that is final is one of the automaton
  final_within : (state : ℕ) → IsDfa forest.dfa → is_final forest.dfa state ≡ true →
      state < length forest.dfa.rows
  final_within state valid final = ⊎_elim
      (λ (here : state ≡ length forest.dfa.rows). absurd (past (omega (arith, here))))
      (λ differ. ⊎_elim
      (λ (before : state < length forest.dfa.rows). before)
      (λ after. absurd (past (omega (arith, after))))
      differ)
      (cases_order state (length forest.dfa.rows))
    where
      past : length forest.dfa.rows ≤ state → ⊥
      past above = true≢false (sym final
          ∙ get_or_past forest.dfa.finals state false (omega (arith, valid.finals, above)))

  module _ (count : ℕ) (valid : IsDfa forest.dfa) (all : length forest.dfa.rows ≤ count) where
    -- all final states are below the count
    at_final : (best : Option (ℕ × ℕ)) → IsBestBelow forest root vertex count best →
        (number : ℕ) → IsFinalValue forest root vertex number →
        (other : ℕ) × (greatest : ℕ) × (best ≡ Some (other, greatest)) × (number ≤ greatest)
    at_final best is number final =
        let within = final_within final.0 valid final.1 in
        is.most final.0 number (omega (arith, within, all))
        (value_of_final (is_final forest.dfa final.0) (kept forest root vertex final.0) number
        final.1 final.2)

    no_end : (best : Option (ℕ × ℕ)) → best ≡ None →
        IsBestBelow forest root vertex count best → IsEnd forest root vertex None
    no_end best none is = λ number final.
        let found = at_final best is number final in
        none-some (found.0, found.1) (sym none ∙ found.2)

    best_state : (best : Option (ℕ × ℕ)) (state value : ℕ) → best ≡ Some (state, value) →
        IsBestBelow forest root vertex count best → IsBestState forest root vertex state
    best_state best state value there is =
        let both = final_of (is_final forest.dfa state) (kept forest root vertex state) value
        (is.is state value there) in
        record {
          final = both.0;
          until = value;
          kept_is = both.1;
          end = record {
            is = (state, both.0, both.1);
            most = λ number final.
                let found = at_final best is number final in
                let same : value ≡ found.1 = ap (λ (one : ℕ × ℕ). one.1)
                (same_Some (state, value) (found.0, found.1) (sym there ∙ found.2)) in
                omega (arith, same, found.3);
          };
        }

  module _ (count : ℕ) (valid : IsDfa forest.dfa) (all : length forest.dfa.rows ≤ count)
      (best : Option (ℕ × ℕ)) (is : IsBestBelow forest root vertex count best) (state : Option ℕ)
      (made : state ≡ option_map (λ (each : ℕ × ℕ). each.0) best) where
    pub none_is : IfNone state (IsEnd forest root vertex None)
    none_is = subst (λ (each : Option ℕ). IfNone each (IsEnd forest root vertex None)) (sym made)
        (by best refl)
      where
        by : (found : Option (ℕ × ℕ)) → best ≡ found →
            IfNone (option_map (λ (each : ℕ × ℕ). each.0) found) (IsEnd forest root vertex None)
        by None there = no_end count valid all best there is
        by (Some each) there = tt

    pub some_is : IfSome state (IsBestState forest root vertex)
    some_is = subst (λ (each : Option ℕ). IfSome each (IsBestState forest root vertex)) (sym made)
        (by best refl)
      where
        by : (found : Option (ℕ × ℕ)) → best ≡ found →
            IfSome (option_map (λ (each : ℕ × ℕ). each.0) found) (IsBestState forest root vertex)
        by None there = tt
        by (Some (one, value)) there = best_state count valid all best one value there is

-- ---- edges of numbers

-- a copy of the label at a place has this place as its number
pub label_placed : (dfa : DfaValue) (labels : List Label) (number : ℕ) (label copy : Label) →
    IsDfa dfa → labels ≡ dfa.labels → number < length dfa.labels →
    label ≡ get_or labels number label → copy ≡ label → place_of dfa copy ≡ Some number
label_placed dfa labels number label copy valid same within is copied =
    ap (place_of dfa) copied
    ∙ (labels_have_places dfa label number valid).1
    (slice_get-get_or dfa.labels number label within
    ∙ ap (λ (each : Label). Some each)
    (sym (is ∙ ap (λ (all : List Label). get_or all number label) same)))

-- one edge more
pub named_more : (names : List (List ℕ)) (dfa : DfaValue) (ids : List EdgeId) (place : ℕ)
    (d : EdgeId) (old new : List Edge) → place < length ids →
    HaveNumbers names dfa old (take place ids) →
    AddsEdge names dfa (get_or ids place d) old new →
    HaveNumbers names dfa new (take (place + 1) ids)
named_more names dfa ids place d old new inside so_far adds =
    subst (λ (path : List Edge). HaveNumbers names dfa path (take (place + 1) ids)) (sym adds.1)
    (subst (HaveNumbers names dfa (old ++ adds.0 ∷ [])) (sym (take_more ids place d inside))
    (all_zipped_more (HasNumbers names dfa) old (take place ids) adds.0 (get_or ids place d) so_far
    adds.2))

-- ---- what is shown

leads_by : (ids : List EdgeId) (root vertex : ℕ) → IsWalk root ids vertex →
    LeadsBy root ids vertex
leads_by [] root vertex walk = walk
leads_by (id ∷ ids) root vertex walk = (walk.0, leads_by ids id.to vertex walk.1)

path_by : (forest : ForestValue) (root vertex state until : ℕ) (ids : List EdgeId) →
    kept forest root vertex state ≡ Some until → IsBestPath forest root vertex state ids →
    IsPathBy forest.dfa (value_of forest.store) root vertex state until ids
path_by forest root vertex state until ids kept_is is = record {
  some = is.some;
  leads = leads_by ids root vertex is.leads.walk_is;
  runs = is.leads.run_is;
  least = subst (IsLeast (value_of forest.store) ids)
      (same_Some is.value until (sym is.best ∙ kept_is)) is.least;
}

-- a pair that doesn't count is one of a vertex with itself
not_counted : (mode : Mode) (root vertex : ℕ) → counts mode root vertex ≡ false →
    (mode ≡ Simple) × (root ≡ vertex)
not_counted Arbitrary root vertex not_so = absurd (true≢false not_so)
not_counted Simple root vertex not_so =
    (refl, eqb-true root vertex (not_false (root == vertex) not_so))
  where
    not_false : (b : Bool) → not b ≡ false → b ≡ true
    not_false true is = refl
    not_false false is = absurd (true≢false is)

module _ (best : KeptIsBest) (tells : IndexTellsAnswers) (show : PathsShowAnswers)
    (query : CompiledValue) (names : List (List ℕ)) (index : IndexValue)
    (some : 0 < query.def.window.slide) (compiled : IsCompiled query) (pair : Pair) where
  told : (history : List Entry) (fed : ℕ) → IsIndexFor query history fed names index →
      TellsAnswers query.def history names index.forest.dfa (kept index.forest)
  told history fed is =
      tells query.def history names index.forest.dfa (kept index.forest)
      (is_index best query history fed names index some compiled is)

  -- a vertex without a number is in no answer
  pub none_unnumbered : ((root vertex : ℕ) → AreNumbersOf names pair.from pair.to root vertex → ⊥) →
      (history : List Entry) (fed : ℕ) → IsIndexFor query history fed names index →
      IsAnswer (path_query query.def) history pair → ⊥
  none_unnumbered none history fed is answer =
      let found = (told history fed is).numbered pair answer in
      none found.0 found.1 found.2

  module _ (root vertex : ℕ) (numbers : AreNumbersOf names pair.from pair.to root vertex) where
    pair_told : (history : List Entry) (fed : ℕ) → IsIndexFor query history fed names index →
        TellsOfPair query.def history pair index.forest.dfa (kept index.forest root vertex)
    pair_told history fed is = (told history fed is).pairs pair root vertex numbers

    pub none_counted : counts query.def.mode root vertex ≡ false →
        (history : List Entry) (fed : ℕ) → IsIndexFor query history fed names index →
        IsAnswer (path_query query.def) history pair → ⊥
    none_counted not_so history fed is answer =
        let both = not_counted query.def.mode root vertex not_so in
        (((pair_told history fed is).answer.0 answer).0 both.0)
        (one_name names pair.from pair.to root numbers.0
        (numbers.1 ∙ ap (λ (each : ℕ). Some each) (sym both.1)))

    may : counts query.def.mode root vertex ≡ true → MayAnswer query.def pair
    may counted simple same =
        numbers_apart query.def.mode root vertex counted simple
        (same_Some root vertex (sym numbers.0 ∙ (ap (number_of names) same ∙ numbers.1)))

    pub shows : counts query.def.mode root vertex ≡ true →
        (found : Option (Vec Edge Global)) → ShowsEnd names index.forest root vertex found →
        (history : List Entry) (fed : ℕ) → IsIndexFor query history fed names index →
        ShowsPair query.def history pair found
    shows counted None end history fed is =
        λ answer.
        let final = ((pair_told history fed is).answer.0 answer).1 in
        end final.0 final.1
    shows counted (Some path) end history fed is =
        show query.def history names index.forest.dfa index.forest.store pair root vertex
        end.state end.best.until path.items end.ids some
        (is_index best query history fed names index some compiled is).words is.holds numbers
        end.numbers
        (path_by index.forest root vertex end.state end.best.until end.ids end.best.kept_is
        end.is_path)
        end.best.final
        (((pair_told history fed is).until end.best.until).1 (may counted, end.best.end))
