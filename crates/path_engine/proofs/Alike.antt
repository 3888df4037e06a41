-- An engine stands for each history that its queries see alike with one for which it stands.
use Rattle.std.proofs.Common.{◌≡◌, ℕ, zero, suc, ◌*◌, ◌<◌, ◌≤◌, List, [], ◌∷◌, map, Option, Some, None}
use Rattle.std.proofs.Common.{refl, sym, ap, subst, ◌∙◌, inl, inr, ⊎_elim, arith}
use Rattle.std.specs.Prelude.{Contains}
use Rattle.std.proofs.lemmas.Bool.{and_parts, cases_lt, ltb-true}
use Rattle.std.proofs.lemmas.Option.{same_Some}
use Rattle.rpq_base.specs.declared.data.Edge.{Edge}
use Rattle.rpq_base.specs.declared.data.Entry.{Entry}
use Rattle.rpq_base.specs.OwnEnds.{own_end, is_before_end}
use Rattle.rpq_base.proofs.Members.{cons_members}
use Rattle.rpq_model.specs.Window.{WindowValue, Placed, clock, edges_at, is_in_window}
use Rattle.rpq_model.specs.WindowLaws.{IsLiveAt, LiveByPlaces, EdgesByPlaces, LiveBelowDeadline}
use Rattle.rpq_model.proofs.OwnDeadlines.{deadline_of, deadline_is}
use Rattle.alike_histories.specs.Alike.{SeeAlike, AllSeeAlike}
use Rattle.tree_insert.specs.Best.{IsGreatestOf}
use Rattle.index_laws.specs.Store.{HasDeadline, IsStoreOf}
use Rattle.query_file.specs.Compiled.{CompiledValue}
use Rattle.query_index.specs.Index.{IsIndexFor}
use Rattle.query_index.specs.IndexValue.{IndexValue}
use Rattle.path_engine.specs.Alike.{StandsForAlike}
use Rattle.path_engine.proofs.Each.{AreIndexes}

module _ (places : LiveByPlaces) (edges_are : EdgesByPlaces) (below : LiveBelowDeadline) where
  module _ (window : WindowValue) where
    -- ---- deadlines tell when an edge is live

    -- an edge that is live at a clock has a deadline above it
    lasts : (history : List Entry) (edge : Edge) (now : ℕ) → 0 < window.slide →
        clock history ≤ now → Contains (edges_at window now history) edge →
        (deadline : ℕ) × HasDeadline window history edge deadline × (now < deadline)
    lasts history edge now some after member =
        let found = (edges_are window now history edge).0 member in
        let live : Placed = record { place = found.0; entry = found.1 } in
        let undeleted = found.2.undeleted in
        let deadline = deadline_of window found.1.tuple in
        let due = deadline_is window found.1.tuple some in
        let less =
        (below window now history edge live deadline some undeleted due).0
        ((places window now history live).1 (edge, found.2)) in (
          deadline,
          record {
            live = live;
            member = (below window (clock history) history edge live deadline some undeleted due).1
                (omega (arith, less, after));
            inserts = undeleted.inserts;
            due = due;
          },
          less,
        )

    module _ (history : List Entry) (edge : Edge) (deadline : ℕ)
        (has : HasDeadline window history edge deadline) where
      -- a deadline is above the clock
      ahead : 0 < window.slide → clock history < deadline
      ahead some =
          let was = (places window (clock history) history has.live).0 has.member in
          (below window (clock history) history was.0 has.live deadline some was.1.undeleted
          has.due).0 has.member

      -- below its deadline an edge is live
      seen : (now : ℕ) → 0 < window.slide → now < deadline →
          Contains (edges_at window now history) edge
      seen now some less =
          let was = (places window (clock history) history has.live).0 has.member in
          let member =
          (below window now history was.0 has.live deadline some was.1.undeleted has.due).1 less in
          let is = (places window now history has.live).0 member in
          let same : is.0 ≡ edge =
          same_Some is.0 edge (sym is.1.undeleted.inserts ∙ has.inserts) in
          (edges_are window now history edge).1 (
            has.live.place,
            has.live.entry,
            subst (λ (each : Edge).
                IsLiveAt window now history each has.live.place has.live.entry) same is.1,
          )

      -- windows that never slide see nothing
      never : window.slide ≡ 0 → ⊥
      never none =
          let was = (places window (clock history) history has.live).0 has.member in
          let tuple = has.live.entry.tuple in
          let parts =
          and_parts (is_in_window window (clock history) tuple.time)
          (is_before_end (clock history) (own_end tuple.act)) was.1.seen in
          let of_time = has.due.1 in
          let count = of_time.multiple.0 in
          omega (
            arith,
            ltb-true _ _ parts.0,
            of_time.reached,
            of_time.multiple.1,
            ap (λ (slide : ℕ). count * slide) none,
          )

    -- ---- stores

    module _ (history other : List Entry) (alike : SeeAlike window history other) (edge : Edge)
      where
        -- no deadline over the one is above the greatest over the other
        no_later : (value number : ℕ) → 0 < window.slide →
            IsGreatestOf (HasDeadline window history edge) (Some value) →
            HasDeadline window other edge number → number ≤ value
        no_later value number some greatest has = ⊎_elim
            (λ less.
            let after = ahead history edge value greatest.is some in
            let there = seen other edge number has value some less in
            let here = lasts history edge value some (omega (arith, after))
            ((alike.edges value (omega (arith, after)) edge).1 there) in
            let most = greatest.most here.0 here.1 in
            absurd (omega (arith, here.2, most)))
            (λ le. le)
            (cases_lt value number)

        -- the greatest deadline over the one is that over the other
        greatest_alike : (value : Option ℕ) → 0 < window.slide →
            IsGreatestOf (HasDeadline window history edge) value →
            IsGreatestOf (HasDeadline window other edge) value
        greatest_alike None some none = λ number has.
            let now = clock history in
            let above = ahead other edge number has some in
            let there = seen other edge number has now some (omega (arith, above, alike.clocks)) in
            let here = lasts history edge now some (omega arith)
            ((alike.edges now (omega arith) edge).1 there) in
            none here.0 here.1
        greatest_alike (Some zero) some greatest =
            absurd (omega (arith, ahead history edge 0 greatest.is some))
        greatest_alike (Some (suc now)) some greatest =
            let after = ahead history edge (suc now) greatest.is some in
            let here = seen history edge (suc now) greatest.is now some (omega arith) in
            let there = lasts other edge now some (omega (arith, after, alike.clocks))
            ((alike.edges now (omega (arith, after)) edge).0 here) in
            let most = no_later (suc now) there.0 some greatest there.1 in
            record {
              is = subst (HasDeadline window other edge) (omega (arith, there.2, most)) there.1;
              most = λ number has. no_later (suc now) number some greatest has;
            }

        -- without deadlines there is none
        nothing_alike : (value : Option ℕ) → window.slide ≡ 0 →
            IsGreatestOf (HasDeadline window history edge) value →
            IsGreatestOf (HasDeadline window other edge) value
        nothing_alike None never_slides none = λ number has.
            never other edge number has never_slides
        nothing_alike (Some value) never_slides greatest =
            absurd (never history edge value greatest.is never_slides)

    -- histories that are seen alike have the same store
    store_alike : (history other : List Entry) → SeeAlike window history other →
        (store : Edge → Option ℕ) → IsStoreOf window history store → IsStoreOf window other store
    store_alike history other alike store is edge = ⊎_elim
        (λ some. greatest_alike history other alike edge (store edge) some (is edge))
        (λ none. nothing_alike history other alike edge (store edge) (omega (arith, none)) (is edge))
        (cases_lt 0 window.slide)

  -- ---- indexes

  index_alike : (query : CompiledValue) (history other : List Entry) (fed : ℕ)
      (names : List (List ℕ)) (index : IndexValue) → SeeAlike query.def.window history other →
      IsIndexFor query history fed names index → IsIndexFor query other fed names index
  index_alike query history other fed names index alike is = record {
    size = is.size;
    slide = is.slide;
    time = is.time ∙ alike.clocks;
    automaton = is.automaton;
    holds = record {
      store = is.holds.store;
      is = store_alike query.def.window history other alike is.holds.store is.holds.is;
      numbers = is.holds.numbers;
    };
    indexed = is.indexed;
    unbroken = is.unbroken;
    few = is.few;
    rows = is.rows;
  }

  indexes_alike : (queries : List CompiledValue) (indexes : List IndexValue)
      (history other : List Entry) (fed : ℕ) (names : List (List ℕ)) →
      AllSeeAlike (map (λ (each : CompiledValue). each.def) queries) history other →
      AreIndexes history fed names queries indexes → AreIndexes other fed names queries indexes
  indexes_alike [] [] history other fed names alike are = tt
  indexes_alike [] (index ∷ indexes) history other fed names alike are = absurd are
  indexes_alike (query ∷ queries) [] history other fed names alike are = absurd are
  indexes_alike (query ∷ queries) (index ∷ indexes) history other fed names alike are =
      let rest = map (λ (each : CompiledValue). each.def) queries in (
        index_alike query history other fed names index
            (alike query.def ((cons_members query.def rest query.def).1 (inl refl))) are.0,
        indexes_alike queries indexes history other fed names
            (λ each member. alike each ((cons_members query.def rest each).1 (inr member))) are.1,
      )

  -- ---- engines

  pub stands_alike : StandsForAlike
  stands_alike engine history other alike stands = record {
    unspent = stands.unspent;
    few_names = stands.few_names;
    indexes = indexes_alike engine.queries engine.indexes history other engine.position engine.names
        alike stands.indexes;
  }
