-- A search over a table, after one batch more was taken.
use Rattle.std.proofs.Common.{◌≡◌, ℕ, ◌≤◌, ◌<◌, ◌+◌, ◌-◌, ◌⊎◌, inl, inr, ⊎_elim, List, [], ◌∷◌, ◌++◌, length, map, take, drop, Option, Some, None, refl, sym, ap, subst, ◌∙◌, arith, Contains, length-append, length-drop}
use Rattle.std.specs.Prelude.{nat_eq}
use Rattle.std.specs.List.{IsDistinct}
use Rattle.std.proofs.lemmas.List.{take-append-le, drop-append-le, take_all}
use Rattle.std.proofs.lemmas.Option.{same_Some}
use Rattle.std.proofs.Math.Seq.{drop-append_seam}
use Rattle.edge_store.specs.declared.edge.EdgeId.{EdgeId}
use Rattle.edge_store.specs.Edges.{outs_of}
use Rattle.dfa_table.specs.DfaValue.{LeadsToStates, step_of}
use Rattle.delta_tree.specs.declared.node.NodeId.{NodeId}
use Rattle.delta_tree.specs.Nodes.{node_id}
use Rattle.tree_insert.specs.Best.{IsAtLeast}
use Rattle.tree_insert.proofs.Bests.{at_least}
use Rattle.tree_insert.proofs.Members.{contains_head, contains_tail, contains_cases, contains_none}
use Rattle.place_table.specs.declared.gain.Gain.{Gain}
use Rattle.place_table.specs.Table.{TableValue, gain_roots, tree_in}
use Rattle.place_table.specs.Lifts.{CanLift, between, lifted_gains}
use Rattle.wide_search.specs.declared.batch.Batch.{Batch}
use Rattle.wide_search.specs.declared.graph.Graph.{Graph}
use Rattle.wide_search.specs.declared.offers.Span.{Span}
use Rattle.wide_search.specs.Batches.{BatchesValue, Gains, Takes, target_of, try_of}
use Rattle.wide_search.specs.Searching.{IsOut, AreOffered, Follows}
use Rattle.wide_search.specs.Spans.{IsOffered, IsOfSpan}
use Rattle.wide_search.specs.declared.lifts.Lift.{Lift}
use Rattle.wide_search.specs.Counts.{CountsPlaces}
use Rattle.wide_search.specs.Lifts.{ReportsLifts, lift_at}
use Rattle.wide_search.specs.Ready.{Start, task_of, held, StandsIn, IsUnderWay, IsLiftedBy}
use Rattle.wide_search.proofs.Searching.{same_itself, settle_at, settled_here, settled_cases, settled_still, searching_alike, searching_more, searching_same}
use Rattle.wide_search.proofs.Ended.{again_none, again_same}
use Rattle.wide_search.proofs.Counts.{counts_more, counts_still}
use Rattle.wide_search.proofs.Lifted.{reports_more}
use Rattle.wide_search.proofs.Tables.{adds_lifted, lifts_trees}

-- ---- parts of a list of gains

-- the gains of a batch are where they were
pub held_before : (gains added : List Gain) (batch : Batch) → StandsIn gains batch →
    held (gains ++ added) batch ≡ held gains batch
held_before gains added batch stands =
    ap (take (batch.high - batch.low))
    (drop-append-le batch.low gains added (omega (arith, stands.some, stands.within)))
    ∙ take-append-le (batch.high - batch.low) (drop batch.low gains) added
    (omega (arith, stands.some, stands.within, length-drop batch.low gains))

-- and those that came in are behind them
pub held_behind : (gains added : List Gain) (low high : ℕ) → low ≡ length gains →
    high ≡ length (gains ++ added) → between low high (gains ++ added) ≡ added
held_behind gains added low high low_is high_is =
    ap (λ (at : ℕ). take (high - low) (drop at (gains ++ added))) low_is
    ∙ (ap (take (high - low)) (drop-append_seam gains added)
    ∙ take_all (high - low) added (omega (arith, low_is, high_is, length-append gains added)))

-- where there are more, one came in
pub some_added : (added : List Gain) → 0 < length added → (more : Gain) × Contains added more
some_added [] some = absurd (omega (arith, some))
some_added (x ∷ xs) some = (x, contains_head x xs)

none_added : (added : List Gain) (more : Gain) → length added ≡ 0 → Contains added more → ⊥
none_added added more none has = omega (arith, none, has.1)

-- ---- a batch can be taken on

pub can_lift : (graph : Graph) (start : Start) (table : TableValue) (gains : List Gain)
    (waits : List Batch) (level : ℕ) (batch : Batch) →
    IsUnderWay graph start table gains waits level → Contains waits batch →
    LeadsToStates graph.dfa.now → CanLift table (try_of batch) batch.width (held gains batch)
can_lift graph start table gains waits level batch under has leads =
    let open_one = under.1.1.searching.open_ones batch has in
    record {
      from = λ gain there. open_one.carries gain there;
      state = (leads batch.before batch.edge.label batch.state open_one.leads).0;
      joins = record { leaves = refl; ends = refl };
      once = open_one.once;
    }

-- ---- a batch for a marked place

pub ready_dropped : (graph : Graph) (start : Start) (table : TableValue) (gains : List Gain)
    (waits : List Batch) (level : ℕ) (batch : Batch) →
    IsUnderWay graph start table gains (batch ∷ waits) level → level ≡ batch.width →
    Contains table.marked (target_of batch) → IsUnderWay graph start table gains waits level
ready_dropped graph start table gains waits level batch under is marked =
    let task = task_of graph start in
    let settled = under.1.0 in
    let ready = under.1.1 in
    let there = ready.marked (target_of batch) marked in
    let wide : batch.width ≤ there.0 =
    omega (arith, is, ready.firm (target_of batch) there.0 there.1) in (
      under.0,
      (
        settled,
        record {
          searching =
              searching_same task settled (tree_in table) (tree_in table) batch (batch ∷ waits) waits
              (held gains) (held gains) ready.searching (same_itself (tree_in table))
              (at_least (settled (target_of batch)) batch.width there.0 there.1 wide)
              (λ each has. contains_cases batch waits each has)
              (λ each has. (contains_tail batch waits each has, refl));
          firm = ready.firm;
          marked = ready.marked;
          stand = λ each has. ready.stand each (contains_tail batch waits each has);
        },
      ),
    )

-- ---- a batch that was taken on

module _ (graph : Graph) (start : Start) (old new : TableValue) (before after : List Gain)
    (batch : Batch) (span : Span) (waits news : List Batch) (level : ℕ)
    (lifted : IsLiftedBy old new before after batch span) (is : level ≡ batch.width) where
  added : List Gain
  added = lifted_gains old (target_of batch) batch.width (held before batch)

  module _ (rest : (each : Batch) → Contains waits each → Contains news each)
      (only : (each : Batch) → Contains news each →
      Contains waits each
      ⊎ (IsOut (task_of graph start) batch each
      × (held after each
      ≡ lifted_gains old (target_of batch) batch.width (held before batch))
      × StandsIn after each
      × ((more : Gain)
      × Contains (lifted_gains old (target_of batch) batch.width (held before batch)) more)))
      (offered : AreOffered (task_of graph start) batch
      (lifted_gains old (target_of batch) batch.width (held before batch)) news)
      (under : IsUnderWay graph start old before (batch ∷ waits) level) where
    same_held : (each : Batch) → Contains (batch ∷ waits) each → held after each ≡ held before each
    same_held each has =
        ap (λ (gains : List Gain). held gains each) lifted.added
        ∙ held_before before (lifted_gains old (target_of batch) batch.width (held before batch))
        each (under.1.1.stand each has)

    follows : Follows (task_of graph start) batch
        (lifted_gains old (target_of batch) batch.width (held before batch)) (batch ∷ waits) news
        (held before) (held after)
    follows = record {
      rest = λ each has. ⊎_elim (λ (same : batch ≡ each). inl same)
          (λ (other : Contains waits each). inr (rest each other))
          (contains_cases batch waits each has);
      only = λ each has. ⊎_elim
          (λ (was : Contains waits each).
          inl (
            contains_tail batch waits each was,
            same_held each (contains_tail batch waits each was),
          ))
          (λ (out : IsOut (task_of graph start) batch each
          × (held after each ≡ lifted_gains old (target_of batch) batch.width (held before batch))
          × StandsIn after each
          × ((more : Gain) ×
          Contains (lifted_gains old (target_of batch) batch.width (held before batch)) more)).
          inr (out.0, out.1, out.3))
          (only each has);
      offered = offered;
    }

    stand_after : (each : Batch) → Contains news each → StandsIn after each
    stand_after each has = ⊎_elim
        (λ (was : Contains waits each).
        let stands = under.1.1.stand each (contains_tail batch waits each was) in
        record {
          some = stands.some;
          within = omega (
            arith,
            stands.within,
            ap (λ (gains : List Gain). length gains) lifted.added,
            length-append before
                (lifted_gains old (target_of batch) batch.width (held before batch)),
          );
        })
        (λ (out : IsOut (task_of graph start) batch each
        × (held after each ≡ lifted_gains old (target_of batch) batch.width (held before batch))
        × StandsIn after each
        × ((more : Gain) ×
        Contains (lifted_gains old (target_of batch) batch.width (held before batch)) more)).
        out.2)
        (only each has)

    -- at a place that was settled before
    again : (width : ℕ) → under.1.0 (target_of batch) ≡ Some width →
        IsUnderWay graph start new after news level
    again width there =
        let task = task_of graph start in
        let settled = under.1.0 in
        let ready = under.1.1 in
        let wide : IsAtLeast batch.width (settled (target_of batch)) =
        at_least (settled (target_of batch)) batch.width width there
        (omega (arith, is, ready.firm (target_of batch) width there)) in
        let first : Contains (batch ∷ waits) batch = contains_head batch waits in
        let trees =
        lifts_trees old new batch (held before batch) lifted.lifts in
        let adds =
        adds_lifted old new batch (held before batch) lifted.lifts
        (ready.searching.open_ones batch first).once in (
          under.0,
          (
            settled,
            record {
              searching =
                  searching_same task settled (tree_in old) (tree_in new) batch (batch ∷ waits) news
                  (held before) (held after) ready.searching
                  (again_same task settled (tree_in old) (tree_in new) batch (batch ∷ waits)
                  (held before) ready.searching first wide trees)
                  wide follows.rest
                  (λ each has. ⊎_elim
                  (λ (was : Contains (batch ∷ waits) each × (held after each ≡ held before each)). was)
                  (λ (out : IsOut task batch each
                  × (held after each
                  ≡ lifted_gains old (target_of batch) batch.width (held before batch))
                  × ((more : Gain) ×
                  Contains (lifted_gains old (target_of batch) batch.width (held before batch)) more)).
                  absurd (again_none task settled (tree_in old) (tree_in new) batch (batch ∷ waits)
                  (held before) ready.searching first wide
                  (lifted_gains old (target_of batch) batch.width (held before batch)) adds
                  out.2.0 out.2.1))
                  (follows.only each has));
              firm = ready.firm;
              marked = λ id has. ⊎_elim (λ (was : Contains old.marked id). ready.marked id was)
                  (λ (at : id ≡ target_of batch). (width, ap settled at ∙ there))
                  (lifted.marks id has);
              stand = stand_after;
            },
          ),
        )

    -- at another
    anew : under.1.0 (target_of batch) ≡ None → IsUnderWay graph start new after news level
    anew none =
        let task = task_of graph start in
        let settled = under.1.0 in
        let ready = under.1.1 in
        let to = target_of batch in
        let first : Contains (batch ∷ waits) batch = contains_head batch waits in
        let trees =
        lifts_trees old new batch (held before batch) lifted.lifts in
        let adds =
        adds_lifted old new batch (held before batch) lifted.lifts
        (ready.searching.open_ones batch first).once in
        let here = settled_here settled (target_of batch) batch.width in (
          under.0,
          (
            settle_at settled (target_of batch) batch.width,
            record {
              searching =
                  searching_more task under.0 settled (tree_in old) (tree_in new) batch (batch ∷ waits)
                  news (held before) (held after)
                  (lifted_gains old (target_of batch) batch.width (held before batch)) ready.searching
                  first trees adds follows none;
              firm = λ id width there. ⊎_elim
                  (λ (same : target_of batch ≡ id).
                  let equal : batch.width ≡ width =
                  same_Some batch.width width
                  (sym here ∙ (ap (settle_at settled (target_of batch) batch.width) same ∙ there)) in
                  omega (arith, is, equal))
                  (λ (kept : settle_at settled (target_of batch) batch.width id ≡ settled id).
                  ready.firm id width (sym kept ∙ there))
                  (settled_cases settled (target_of batch) batch.width id);
              marked = λ id has. ⊎_elim
                  (λ (was : Contains old.marked id).
                  let there = ready.marked id was in (
                    there.0,
                    settled_still settled (target_of batch) batch.width none id there.0 there.1,
                  ))
                  (λ (at : id ≡ target_of batch).
                  (batch.width, ap (settle_at settled (target_of batch) batch.width) at ∙ here))
                  (lifted.marks id has);
              stand = stand_after;
            },
          ),
        )

    pub ready_after : IsUnderWay graph start new after news level
    ready_after = by (under.1.0 (target_of batch)) refl
      where
        by : (found : Option ℕ) → under.1.0 (target_of batch) ≡ found →
            IsUnderWay graph start new after news level
        by None none = anew none
        by (Some width) there = again width there

-- ---- whether roots were lifted, and what is offered for them

module _ (graph : Graph) (start : Start) (old new : TableValue) (before after : List Gain)
    (batch : Batch) (span : Span) (lifted : IsLiftedBy old new before after batch span) where
  as_many : length after
      ≡ length before + length (lifted_gains old (target_of batch) batch.width (held before batch))
  as_many =
      ap (λ (gains : List Gain). length gains) lifted.added
      ∙ length-append before (lifted_gains old (target_of batch) batch.width (held before batch))

  pub ready_lifted : span.low ≡ span.high → (waits : List Batch) (level : ℕ) →
      level ≡ batch.width → IsUnderWay graph start old before (batch ∷ waits) level →
      IsUnderWay graph start new after waits level
  ready_lifted same waits level is under =
      ready_after graph start old new before after batch span waits waits level lifted is
      (λ each has. has) (λ each has. inl has)
      (λ edge number next from low wide leads.
      inr (λ more has. absurd (none_added
      (lifted_gains old (target_of batch) batch.width (held before batch)) more
      (omega (arith, as_many, same, lifted.low, lifted.high)) has)))
      under

  module _ (apart : span.low ≡ span.high → ⊥) (batches more : BatchesValue)
      (gains : Gains batches more (IsOfSpan graph span))
      (offered : (edge : EdgeId) → edge.from ≡ span.id.vertex →
      IsOffered graph span more.waiting edge)
      (is : batches.level ≡ batch.width) where
    only_out : (each : Batch) → Contains more.waiting each →
        Contains batches.waiting each
        ⊎ (IsOut (task_of graph start) batch each
        × (held after each ≡ lifted_gains old (target_of batch) batch.width (held before batch))
        × StandsIn after each
        × ((one : Gain)
        × Contains (lifted_gains old (target_of batch) batch.width (held before batch)) one))
    only_out each has = ⊎_elim (λ (was : Contains batches.waiting each). inl was)
        (λ (of_span : IsOfSpan graph span each).
        let low : each.low ≡ length before = of_span.low ∙ lifted.low in
        let high : each.high ≡ length after = of_span.high ∙ lifted.high in
        let behind : each.high
        ≡ length (before
        ++ lifted_gains old (target_of batch) batch.width (held before batch)) =
        high ∙ ap (λ (gains : List Gain). length gains) lifted.added in
        inr (
          record {
            source = of_span.source ∙ lifted.id;
            lower = omega (arith, of_span.lower, lifted.width);
            edge = of_span.edge;
            leads = of_span.leads;
          },
          ap (λ (gains : List Gain). held gains each) lifted.added
              ∙ held_behind before
              (lifted_gains old (target_of batch) batch.width (held before batch))
              each.low each.high low behind,
          record {
            some = omega (arith, low, high, as_many);
            within = omega (arith, high);
          },
          some_added (lifted_gains old (target_of batch) batch.width (held before batch))
              (let less : 0 < length
              (lifted_gains old (target_of batch) batch.width (held before batch)) =
              omega (arith, as_many, apart, lifted.low, lifted.high) in less),
        ))
        (gains.only each has)

    offers : AreOffered (task_of graph start) batch
        (lifted_gains old (target_of batch) batch.width (held before batch)) more.waiting
    offers edge number next from low wide leads = ⊎_elim
        (λ (other : (other : Batch) × Contains more.waiting other ×
        (target_of other ≡ node_id edge.to next) × (number ≤ other.width)). inl other)
        (λ (least : IsAtLeast number span.least).
        inr (λ one has. lifted.least one number has least))
        (offered edge (from ∙ sym (ap (λ (id : NodeId). id.vertex) lifted.id)) number next
        (omega (arith, low, lifted.width))
        (subst (λ (id : NodeId). IsAtLeast number ((task_of graph start).widths id.state edge))
        (sym lifted.id) wide)
        (subst (λ (id : NodeId). step_of graph.dfa.now id.state edge.label ≡ Some next)
        (sym lifted.id) leads))

    pub ready_offered : IsUnderWay graph start old before (batch ∷ batches.waiting) batches.level →
        IsUnderWay graph start new after more.waiting more.level
    ready_offered under =
        subst (IsUnderWay graph start new after more.waiting) (sym gains.level)
        (ready_after graph start old new before after batch span batches.waiting more.waiting
        batches.level lifted is gains.kept only_out offers under)

-- ---- taking a batch, and the end

pub ready_taken : (graph : Graph) (start : Start) (table : TableValue) (gains : List Gain)
    (old new : BatchesValue) (taken : Batch) → Takes old new taken →
    IsUnderWay graph start table gains old.waiting old.level →
    IsUnderWay graph start table gains (taken ∷ new.waiting) new.level
ready_taken graph start table gains old new taken takes under =
    let task = task_of graph start in
    let settled = under.1.0 in
    let ready = under.1.1 in
    let back : (each : Batch) → Contains (taken ∷ new.waiting) each → Contains old.waiting each =
    λ each has. ⊎_elim
    (λ (same : taken ≡ each). subst (λ (x : Batch). Contains old.waiting x) same takes.there)
    (λ (other : Contains new.waiting each). takes.only each other)
    (contains_cases taken new.waiting each has) in (
      under.0,
      (
        settled,
        record {
          searching =
              searching_alike task settled (tree_in table) old.waiting (taken ∷ new.waiting)
              (held gains) takes.rest back ready.searching;
          firm = λ id width there.
              omega (arith, ready.firm id width there, takes.level, takes.greatest);
          marked = ready.marked;
          stand = λ each has. ready.stand each (back each has);
        },
      ),
    )

pub ready_end : (graph : Graph) (start : Start) (table : TableValue) (gains : List Gain)
    (waits : List Batch) (level : ℕ) → ((each : Batch) → Contains waits each → ⊥) →
    IsUnderWay graph start table gains waits level → IsUnderWay graph start table gains [] 0
ready_end graph start table gains waits level none under =
    let task = task_of graph start in
    let settled = under.1.0 in
    let ready = under.1.1 in (
      under.0,
      (
        settled,
        record {
          searching =
              searching_alike task settled (tree_in table) waits [] (held gains)
              (λ each has. absurd (none each has)) (λ each has. absurd (contains_none each has))
              ready.searching;
          firm = λ id width there. omega arith;
          marked = ready.marked;
          stand = λ each has. absurd (contains_none each has);
        },
      ),
    )

-- ---- the gains that came in, as a part of the list

pub behind_there : (before added all : List Gain) (low : ℕ) → all ≡ before ++ added →
    low ≡ length before → (one : Gain) → Contains added one →
    Contains (take (length all - low) (drop low all)) one
behind_there before added all low is low_is one has =
    subst (λ (list : List Gain). Contains (take (length list - low) (drop low list)) one) (sym is)
    (subst (λ (list : List Gain). Contains list one)
    (sym (held_behind before added low (length (before ++ added)) low_is refl)) has)

-- ---- what is reported of it

pub lifts_after : (old new : TableValue) (before after : List Gain) (batch : Batch) (span : Span) →
    IsLiftedBy old new before after batch span → (first : TableValue) (lifts later : List Lift)
    (all : List Gain) → all ≡ after →
    later ≡ lifts ++ map (lift_at span.id) (take (length all - span.low) (drop span.low all)) →
    IsDistinct nat_eq (gain_roots (held before batch)) → ReportsLifts first old lifts →
    ReportsLifts first new later
lifts_after old new before after batch span lifted first lifts later all all_is later_is once are =
    let added = lifted_gains old (target_of batch) batch.width (held before batch) in
    let list : all ≡ before ++ added = all_is ∙ lifted.added in
    let behind : take (length all - span.low) (drop span.low all) ≡ added =
    ap (λ (gains : List Gain). take (length gains - span.low) (drop span.low gains)) list
    ∙ held_behind before added span.low (length (before ++ added)) lifted.low refl in
    let items : later ≡ lifts ++ map (lift_at (target_of batch)) added =
    later_is
    ∙ (ap (λ (gains : List Gain). lifts ++ map (lift_at span.id) gains) behind
    ∙ ap (λ (id : NodeId). lifts ++ map (lift_at id) added) lifted.id) in
    subst (ReportsLifts first new) (sym items)
    (reports_more first old new batch (held before batch) lifts are lifted.lifts once lifted.shown)

module _ (graph : Graph) (start : Start) (old new : TableValue) (before after : List Gain)
    (batch : Batch) (span : Span) (lifted : IsLiftedBy old new before after batch span)
    (waits : List Batch) (level : ℕ)
    (under : IsUnderWay graph start old before (batch ∷ waits) level) (begin steps : ℕ)
    (counts : CountsPlaces graph.store.now start.trees (tree_in old) begin steps) where
  pub counts_kept : CountsPlaces graph.store.now start.trees (tree_in new) begin steps
  counts_kept =
      counts_still (task_of graph start) under.1.0 (tree_in old) (tree_in new) batch (batch ∷ waits)
      (held before) under.1.1.searching (contains_head batch waits)
      (lifts_trees old new batch (held before batch) lifted.lifts) graph.store.now begin steps counts

  pub counts_out : (span.low ≡ span.high → ⊥) → level ≡ batch.width → (later : ℕ) →
      later ≤ steps + length (outs_of graph.store.now span.id.vertex) →
      CountsPlaces graph.store.now start.trees (tree_in new) begin later
  counts_out apart is later bound =
      let added = lifted_gains old (target_of batch) batch.width (held before batch) in
      let less : 0 < length added =
      omega (
        arith,
        as_many graph start old new before after batch span lifted,
        apart,
        lifted.low,
        lifted.high,
      ) in
      let some = some_added added less in
      counts_more (task_of graph start) under.1.0 (tree_in old) (tree_in new) batch (batch ∷ waits)
      (held before) under.1.1.searching (contains_head batch waits)
      (lifts_trees old new batch (held before batch) lifted.lifts) added
      (adds_lifted old new batch (held before batch) lifted.lifts
      (under.1.1.searching.open_ones batch (contains_head batch waits)).once)
      some.0 some.1
      (λ width there. omega (arith, is, under.1.1.firm (target_of batch) width there))
      graph.store.now begin steps later
      (subst (λ (id : NodeId). later ≤ steps + length (outs_of graph.store.now id.vertex)) lifted.id
      bound)
      counts
