-- Paths of live entries, and the least of their deadlines.
use Rattle.std.proofs.Common.{◌≡◌, ℕ, ◌+◌, ◌-◌, ◌<◌, ◌≤◌, max, List, [], ◌∷◌, map, Option, Some}
use Rattle.std.proofs.Common.{refl, sym, subst, ◌⊎◌, inl, inr, ⊎_elim, arith}
use Rattle.std.specs.Prelude.{◌↔◌, All, Contains}
use Rattle.std.specs.List.{cons_option}
use Rattle.std.proofs.lemmas.Bool.{cases_lt}
use Rattle.std.proofs.lemmas.List.Elements.{All-cons, All-nil, All-head, All-tail, All-weaker}
use Rattle.std.proofs.lemmas.List.Elements.{All-contains}
use Rattle.rpq_base.specs.declared.data.Edge.{Edge}
use Rattle.rpq_base.specs.declared.data.Entry.{Entry}
use Rattle.rpq_base.specs.declared.data.Pair.{Pair}
use Rattle.rpq_base.proofs.Members.{cons_members}
use Rattle.rpq_model.specs.Window.{WindowValue, Placed, clock, live_entries, inserted_edges}
use Rattle.rpq_model.specs.Window.{edges_at}
use Rattle.rpq_model.specs.WindowLaws.{IsTupleDeadline}
use Rattle.rpq_model.specs.Answers.{IsAnswerAt, Joins}
use Rattle.rpq_model.specs.Ends.{IsUntil}
use Rattle.rpq_model.specs.Query.{Query, language_of, path_query}
use Rattle.rpq_model.proofs.Ends.{ended_at, lasts_below}
use Rattle.rpq_model.proofs.OwnDeadlines.{deadline_of, deadline_is}
use Rattle.rpq_model.proofs.Places.{edges_by_places, live_by_places, live_below_deadline}
use Rattle.rpq_model.proofs.Places.{later_sees_less}
use Rattle.index_laws.specs.LawsOfBests.{AcceptedAnswersEnd}
use Rattle.path_witness.specs.Found.{position_of}
use Rattle.path_witness.specs.Shows.{Shown, Shows, IsWindowPath, IsLeastDeadline, AnswersAreShown}
use Rattle.path_witness.proofs.Enough.{same}
use Rattle.path_witness.proofs.PathFinding.{edges_among}

-- ---- clocks and deadlines

-- an entry that is live at one clock is live at another one exactly where that is below its
-- deadline
pub live_below : (window : WindowValue) (history : List Entry) (now other : ℕ) (live : Placed)
    (deadline : ℕ) → 0 < window.slide → Contains (live_entries window now history) live →
    IsTupleDeadline window live.entry.tuple deadline →
    Contains (live_entries window other history) live ↔ (other < deadline)
live_below window history now other live deadline some member is =
    let found = (live_by_places same window now history live).0 member in
    live_below_deadline same window other history found.0 live deadline some found.1.undeleted is

-- no deadline of the entries is below the number
abbrev pub NoneBelow : WindowValue → List Placed → ℕ → Type 0
NoneBelow window path number = (each : Placed) (deadline : ℕ) → Contains path each →
    IsTupleDeadline window each.entry.tuple deadline → number ≤ deadline

-- ---- the least deadline

-- one of the entries has the deadline
abbrev IsMet : WindowValue → List Placed → ℕ → Type 0
IsMet window path deadline =
    (each : Placed) × Contains path each × IsTupleDeadline window each.entry.tuple deadline

met_later : (window : WindowValue) (first : Placed) (path : List Placed) (deadline : ℕ) →
    IsMet window path deadline → IsMet window (first ∷ path) deadline
met_later window first path deadline met =
    (met.0, (cons_members first path met.0).1 (inr met.1), met.2)

-- of live entries with no deadline below a number, one has this deadline, or all are still live
-- when the clock gets there
met_or_live : (path : List Placed) (window : WindowValue) (history : List Entry) (until : ℕ) →
    0 < window.slide → All (Contains (live_entries window (clock history) history)) path →
    NoneBelow window path until →
    IsMet window path until
    ⊎ All (Contains (live_entries window (max (clock history) until) history)) path
met_or_live [] window history until some seen from =
    inr (All-nil (Contains (live_entries window (max (clock history) until) history)))
met_or_live (first ∷ path) window history until some seen from =
    let now = clock history in
    let live_now = Contains (live_entries window now history) in
    let live_then = Contains (live_entries window (max now until) history) in
    let deadline = deadline_of window first.entry.tuple in
    let due = deadline_is window first.entry.tuple some in
    let here = All-head live_now first path seen in
    let member = (cons_members first path first).1 (inl refl) in
    ⊎_elim
    (λ less.
    let above = (live_below window history now now first deadline some here due).0 here in
    let still = (live_below window history now (max now until) first deadline some here due).1
    (omega (arith, less, above)) in
    ⊎_elim
    (λ met. inl (met_later window first path until met))
    (λ live. inr (All-cons live_then first path still live))
    (met_or_live path window history until some (All-tail live_now first path seen)
    (λ each other there is. from each other ((cons_members first path each).1 (inr there)) is)))
    (λ le.
    let at : deadline ≡ until = omega (arith, le, from first deadline member due) in
    inl (first, member, subst (IsTupleDeadline window first.entry.tuple) at due))
    (cases_lt until deadline)

-- where an answer ends, a path of live entries that shows the pair, and no deadline of which is
-- below the end, has it as its least deadline: else the path would still be there
pub least_is_end : (query : Query) (history : List Entry) (pair : Pair) (until : ℕ)
    (path : List Placed) → 0 < query.window.slide → IsUntil (path_query query) history pair until →
    IsWindowPath query history pair path → NoneBelow query.window path until →
    IsLeastDeadline query.window path until
least_is_end query history pair until path some ends is from =
    let window = query.window in
    let then = max (clock history) until in
    let joins = is.joins in
    let still : All (Contains (live_entries window then history)) path →
    IsAnswerAt (path_query query) then history pair =
    λ live. (
      inserted_edges path,
      record {
        leads = record {
          some = joins.leads.some;
          members = edges_among path (live_entries window then history) live;
          leads = joins.leads.leads;
        };
        word = joins.word;
        taken = joins.taken;
      },
    ) in
    record {
      met = ⊎_elim
          (λ met. met)
          (λ live. absurd (ended_at (path_query query) history pair until ends (still live)))
          (met_or_live path window history until some is.seen from);
      from = from;
    }

-- so it shows the answer
shows_by : (query : Query) (history : List Entry) (pair : Pair) (until : ℕ)
    (path : List Placed) → 0 < query.window.slide → IsUntil (path_query query) history pair until →
    IsWindowPath query history pair path → NoneBelow query.window path until →
    Shows query history pair (record { until = until; positions = map position_of path })
shows_by query history pair until path some ends is from = record {
  path = path;
  positions = refl;
  is_path = is;
  least = least_is_end query history pair until path some ends is from;
  until = ends;
}

-- ---- each answer has a path that shows it

-- one more entry, which inserts an edge
pub inserted_more : (found : Option Edge) (edge : Edge) (rest edges : List Edge) →
    found ≡ Some edge → rest ≡ edges → cons_option found rest ≡ edge ∷ edges
inserted_more found edge rest edges is rest_is = λ i. cons_option (is i) (rest_is i)

-- edges of the window are those of live entries
record AreInserted (window : WindowValue) (now : ℕ) (history : List Entry)
    (edges : List Edge) : Type 0 where
  pub path : List Placed
  pub seen : All (Contains (live_entries window now history)) path
  pub edges_are : inserted_edges path ≡ edges

are_inserted : (edges : List Edge) (window : WindowValue) (now : ℕ) (history : List Entry) →
    All (Contains (edges_at window now history)) edges → AreInserted window now history edges
are_inserted [] window now history members =
    let live = Contains (live_entries window now history) in
    record { path = []; seen = All-nil live; edges_are = refl }
are_inserted (edge ∷ edges) window now history members =
    let live = Contains (live_entries window now history) in
    let at = Contains (edges_at window now history) in
    let found = (edges_by_places same window now history edge).0 (All-head at edge edges members) in
    let one : Placed = record { place = found.0; entry = found.1 } in
    let here = (live_by_places same window now history one).1 (edge, found.2) in
    let rest = are_inserted edges window now history (All-tail at edge edges members) in
    record {
      path = one ∷ rest.path;
      seen = All-cons live one rest.path here rest.seen;
      edges_are = inserted_more _ edge (inserted_edges rest.path) edges found.2.undeleted.inserts
          rest.edges_are;
    }

-- a path that joins the pair at the last clock before the end shows the answer
shown_by_last : (query : Query) (history : List Entry) (pair : Pair) (until last : ℕ)
    (edges : List Edge) → 0 < query.window.slide → clock history ≤ last → until ≤ last + 1 →
    IsUntil (path_query query) history pair until →
    Joins (edges_at query.window last history) (language_of query) query.mode pair edges →
    (shown : Shown) × Shows query history pair shown
shown_by_last query history pair until last edges some from to ends joins =
    let window = query.window in
    let now = clock history in
    let inserted = are_inserted edges window last history joins.leads.members in
    let path = inserted.path in
    let live_last = Contains (live_entries window last history) in
    let live_now = Contains (live_entries window now history) in
    let seen = All-weaker live_last live_now
    (λ live member. later_sees_less same window now last history live some from member) path
    inserted.seen in
    let joined = subst
    (λ (each : List Edge). Joins (edges_at window last history) (language_of query) query.mode pair
    each) (sym inserted.edges_are) joins in
    let is_path : IsWindowPath query history pair path = record {
      seen = seen;
      joins = record {
        leads = record {
          some = joined.leads.some;
          members = edges_among path (live_entries window now history) seen;
          leads = joined.leads.leads;
        };
        word = joined.word;
        taken = joined.taken;
      };
    } in
    let none_below : NoneBelow window path until = λ each deadline member due.
    let here = All-contains live_last path each inserted.seen member in
    let below = (live_below window history last last each deadline some here due).0 here in
    omega (arith, below, to) in (
      record { until = until; positions = map position_of path },
      shows_by query history pair until path some ends is_path none_below,
    )

pub answers_are_shown : AcceptedAnswersEnd → AnswersAreShown
answers_are_shown have_ends query history pair some accepted answer =
    let end = have_ends query history pair some accepted answer in
    let until = end.0 in
    let lasts = λ (now : ℕ) (le : clock history ≤ now).
    lasts_below same (path_query query) history pair until now some le end.1 in
    let above = (lasts (clock history) (omega arith)).0 answer in
    let last = (lasts (until - 1) (omega (arith, above))).1 (omega (arith, above)) in
    shown_by_last query history pair until (until - 1) last.0 some (omega (arith, above))
    (omega (arith, above)) end.1 last.1
