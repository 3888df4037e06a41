-- The values of a store, against clocks.
use Rattle.std.proofs.Common.{◌≡◌, ℕ, ◌+◌, ◌<◌, ◌≤◌, List, Option, subst, arith}
use Rattle.std.specs.Prelude.{◌↔◌, Contains}
use Rattle.rpq_base.specs.Laws.{SameIsEqual}
use Rattle.rpq_base.specs.declared.data.Edge.{Edge}
use Rattle.rpq_base.specs.declared.data.Entry.{Entry}
use Rattle.rpq_base.proofs.Equality.{names, labels, edges as edge_test, pairs}
use Rattle.rpq_model.specs.Window.{WindowValue, Placed, Inserts, clock, live_entries, edges_at}
use Rattle.rpq_model.specs.WindowLaws.{IsLiveAt}
use Rattle.rpq_model.proofs.Places.{edges_by_places, live_by_places, live_below_deadline}
use Rattle.rpq_model.proofs.Places.{later_sees_less}
use Rattle.rpq_model.proofs.LiveEdges.{one_inserted}
use Rattle.rpq_model.proofs.OwnDeadlines.{deadline_of, deadline_is}
use Rattle.tree_insert.specs.Best.{IsAtLeast}
use Rattle.tree_insert.proofs.Bests.{weaker, value_of, greatest_reached, greatest_is}
use Rattle.index_laws.specs.Store.{HasDeadline, IsStoreOf}

-- equal names, labels, edges and pairs are told by their tests
pub same : SameIsEqual
same = record { names = names; labels = labels; edges = edge_test; pairs = pairs }

-- an entry that is live and inserts the edge is live at its place
live_at : (window : WindowValue) (now : ℕ) (entries : List Entry) (edge : Edge) (live : Placed) →
    Contains (live_entries window now entries) live → Inserts live.entry.tuple.act edge →
    IsLiveAt window now entries edge live.place live.entry
live_at window now entries edge live member inserts =
    let found = (live_by_places same window now entries live).0 member in
    let same_edge : found.0 ≡ edge =
    one_inserted live.entry.tuple.act found.0 edge found.1.undeleted.inserts inserts in
    subst (λ (each : Edge). IsLiveAt window now entries each live.place live.entry) same_edge
    found.1

module _ (window : WindowValue) (history : List Entry) (store : Edge → Option ℕ)
    (some : 0 < window.slide) (is : IsStoreOf window history store) where
  -- a live edge, at a clock from that of the history on, has a deadline above the clock
  to_value : (now : ℕ) (edge : Edge) → clock history ≤ now →
      Contains (edges_at window now history) edge → IsAtLeast (now + 1) (store edge)
  to_value now edge le member =
      let found = (edges_by_places same window now history edge).0 member in
      let live : Placed = record { place = found.0; entry = found.1 } in
      let here = (live_by_places same window now history live).1 (edge, found.2) in
      let deadline = deadline_of window found.1.tuple in
      let due = deadline_is window found.1.tuple some in
      let above = (live_below_deadline same window now history edge live deadline some
      found.2.undeleted due).0 here in
      let has : HasDeadline window history edge deadline = record {
        live = live;
        member = later_sees_less same window (clock history) now history live some le here;
        inserts = found.2.undeleted.inserts;
        due = due;
      } in
      weaker (store edge) deadline (now + 1)
      (greatest_reached (store edge) (HasDeadline window history edge) deadline (is edge) has)
      (omega (arith, above))

  -- the deadline that is an edge's value
  deadline_of_value : (number : ℕ) (edge : Edge) → IsAtLeast number (store edge) →
      (deadline : ℕ) × HasDeadline window history edge deadline × (number ≤ deadline)
  deadline_of_value number edge reached =
      let there = value_of (store edge) number reached in (
        there.0,
        greatest_is (store edge) (HasDeadline window history edge) there.0 (is edge) there.1,
        there.2,
      )

  -- an edge whose value is above a clock is live at it
  from_value : (now : ℕ) (edge : Edge) → IsAtLeast (now + 1) (store edge) →
      Contains (edges_at window now history) edge
  from_value now edge reached =
      let found = deadline_of_value (now + 1) edge reached in
      let has = found.1 in
      let before = live_at window (clock history) history edge has.live has.member has.inserts in
      let here = (live_below_deadline same window now history edge has.live found.0 some
      before.undeleted has.due).1 (omega (arith, found.2)) in
      let at_now = live_at window now history edge has.live here has.inserts in
      (edges_by_places same window now history edge).1
      (has.live.place, has.live.entry, at_now)

  -- from the clock of the history on, the live edges are those whose values are above the clock
  pub live_above : (now : ℕ) (edge : Edge) → clock history ≤ now →
      Contains (edges_at window now history) edge ↔ IsAtLeast (now + 1) (store edge)
  live_above now edge le = (to_value now edge le, from_value now edge)

  -- each value is above the clock of the history
  pub value_above : (number : ℕ) (edge : Edge) → IsAtLeast number (store edge) →
      IsAtLeast (clock history + 1) (store edge)
  value_above number edge reached =
      let found = deadline_of_value number edge reached in
      let has = found.1 in
      let now = clock history in
      let at_now = live_at window now history edge has.live has.member has.inserts in
      let above = (live_below_deadline same window now history edge has.live found.0 some
      at_now.undeleted has.due).0 has.member in
      weaker (store edge) found.0 (now + 1)
      (greatest_reached (store edge) (HasDeadline window history edge) found.0 (is edge) has)
      (omega (arith, above))

  -- an edge with a value is live at the clock of the history
  pub live_now : (number : ℕ) (edge : Edge) → IsAtLeast number (store edge) →
      Contains (edges_at window (clock history) history) edge
  live_now number edge reached = from_value (clock history) edge (value_above number edge reached)
