-- Two paths of which the one that lasts longer shows an answer.
use Rattle.std.proofs.Common.{◌≡◌, ◌≢◌, ℕ, ◌<◌, ◌≤◌, max, List, [], ◌∷◌, refl, sym, subst, inl, arith}
use Rattle.std.specs.Prelude.{All, Contains, codes}
use Rattle.std.proofs.lemmas.List.Elements.{All-cons, All-nil, All-contains}
use Rattle.rpq_base.specs.declared.data.Label.{Label}
use Rattle.rpq_base.specs.declared.data.Edge.{Edge}
use Rattle.rpq_base.specs.declared.data.Pair.{Pair}
use Rattle.rpq_base.proofs.Members.{cons_members, none_in}
use Rattle.rpq_model.specs.declared.mode.Mode.{Mode}
use Rattle.rpq_model.specs.declared.mode.Mode.TheVariants.{Arbitrary}
use Rattle.rpq_model.specs.Window.{WindowValue, Placed, live_from, live_entries, inserted_edges, edges_at}
use Rattle.rpq_model.specs.WindowLaws.{IsDeadline, IsTupleDeadline}
use Rattle.rpq_model.specs.Answers.{PathQuery, IsJoinedBy, Joins}
use Rattle.rpq_model.specs.AnswerLaws.{query_for}
use Rattle.rpq_model.specs.Ends.{IsUntil}
use Rattle.rpq_model.specs.Query.{language_of, path_query}
use Rattle.rpq_model.proofs.Ends.{later_answers_less, until_from_clocks}
use Rattle.rpq_model.proofs.Queries.{until_is_one}
use Rattle.path_witness.specs.Shows.{IsLeastDeadline}
use Rattle.path_witness.specs.Example.{label, insert, some_history, some_pair, some_word, ShownExample}
use Rattle.path_witness.proofs.Enough.{same}

abbrev window : WindowValue
window = record { size = 10; slide = 5 }

-- what holds of three elements holds of all of them
three : {X : Type 0} (P : X → Type 0) (first second third : X) → P first → P second → P third → All P (first ∷ second ∷ third ∷ [])
three P first second third here next last =
    All-cons P first (second ∷ third ∷ []) here (All-cons P second (third ∷ []) next (All-cons P third [] last (All-nil P)))

abbrev first : Placed
first = record { place = 1; entry = insert 6 (codes "x") (codes "a") (codes "w") }

abbrev second : Placed
second = record { place = 3; entry = insert 8 (codes "w") (codes "b") (codes "u") }

abbrev third : Placed
third = record { place = 4; entry = insert 9 (codes "u") (codes "c") (codes "z") }

abbrev edge : List ℕ → List ℕ → List ℕ → Edge
edge from name to = record { from = from; label = label name; to = to }

-- the entries of the later way
abbrev later_path : List Placed
later_path = first ∷ second ∷ third ∷ []

-- they are live at the clocks 9 and 19
live_at_nine : All (Contains (live_entries window 9 some_history)) later_path
unfolding live_from
live_at_nine =
    three (Contains (live_entries window 9 some_history)) first second third (1, omega arith, refl) (3, omega arith, refl) (4, omega arith, refl)

edges_at_nine : All (Contains (edges_at window 9 some_history)) (inserted_edges later_path)
unfolding live_from
edges_at_nine =
    three (Contains (edges_at window 9 some_history)) (edge (codes "x") (codes "a") (codes "w")) (edge (codes "w") (codes "b") (codes "u"))
    (edge (codes "u") (codes "c") (codes "z")) (1, omega arith, refl) (3, omega arith, refl) (4, omega arith, refl)

edges_at_nineteen : All (Contains (edges_at window 19 some_history)) (inserted_edges later_path)
unfolding live_from
edges_at_nineteen =
    three (Contains (edges_at window 19 some_history)) (edge (codes "x") (codes "a") (codes "w")) (edge (codes "w") (codes "b") (codes "u"))
    (edge (codes "u") (codes "c") (codes "z")) (0, omega arith, refl) (2, omega arith, refl) (3, omega arith, refl)

-- at 20 there are none
none_at_twenty : edges_at window 20 some_history ≡ []
unfolding live_from
none_at_twenty = refl

-- the path joins the pair
joins : (language : List Label → Type 0) (edges : List Edge) → language some_word → All (Contains edges) (inserted_edges later_path) →
    Joins edges language Arbitrary some_pair (inserted_edges later_path)
joins language edges word members = record {
  leads = record { some = λ none. cons_is_some none; members = members; leads = (refl, (refl, (refl, refl))) };
  word = word;
  taken = tt;
}
  where
    cons_is_some : inserted_edges later_path ≡ [] → ⊥
    cons_is_some e = cc

-- no path is made of no edges
none_joined : (language : List Label → Type 0) (mode : Mode) (pair : Pair) (edges : List Edge) → edges ≡ [] → IsJoinedBy edges language mode pair → ⊥
none_joined language mode pair edges none joined =
    no_members joined.0 joined.1.leads.some (subst (λ (some : List Edge). All (Contains some) joined.0) none joined.1.leads.members)
  where
    no_members : (path : List Edge) → path ≢ [] → All (Contains []) path → ⊥
    no_members [] some members = some refl
    no_members (edge ∷ path) some members = none_in edge (All-contains (Contains []) (edge ∷ path) edge members ((cons_members edge path edge).1 (inl refl)))

-- the answer ends at 20
ends : (language : List Label → Type 0) → language some_word → IsUntil (query_for language Arbitrary window) some_history some_pair 20
ends language word =
    until_from_clocks (query_for language Arbitrary window) some_history some_pair 20
    (inserted_edges later_path, joins language (edges_at window 9 some_history) word edges_at_nine)
    (none_joined language Arbitrary some_pair (edges_at window 20 some_history) none_at_twenty)
    (λ time less.
    later_answers_less same (query_for language Arbitrary window) (max 9 time) 19 some_history some_pair (omega arith) (omega (arith, less))
    (inserted_edges later_path, joins language (edges_at window 19 some_history) word edges_at_nineteen))

-- ---- the least deadline

-- a deadline of a time from 6 to 10 is 20
deadline_twenty : (time : ℕ) → 6 ≤ time → time ≤ 10 → IsDeadline window time 20
deadline_twenty time from to = record {
  multiple = (4, refl);
  reached = omega (arith, to);
  least = λ n reached. omega (arith, from, reached);
}

from_twenty : (time deadline : ℕ) → 6 ≤ time → IsDeadline window time deadline → 20 ≤ deadline
from_twenty time deadline from is = omega (arith, from, is.reached, is.multiple.1)

-- each deadline of an entry is at least 20
abbrev From : Placed → Type 0
From some = (number : ℕ) → IsTupleDeadline window some.entry.tuple number → 20 ≤ number

own : (time number of_time : ℕ) → 6 ≤ time → IsDeadline window time of_time → number ≡ of_time → 20 ≤ number
own time number of_time from is same_number = omega (arith, from_twenty time of_time from is, same_number)

least : IsLeastDeadline window later_path 20
least = record {
  met = (first, (0, omega arith, refl), (20, deadline_twenty 6 (omega arith) (omega arith), refl));
  from = λ each deadline member is.
      All-contains From later_path each
      (three From first second third (λ number of. own 6 number of.0 (omega arith) of.1 of.2) (λ number of. own 8 number of.0 (omega arith) of.1 of.2)
      (λ number of. own 9 number of.0 (omega arith) of.1 of.2)) member deadline is;
}

-- ---- all of it

pub shown_example : ShownExample
shown_example query window_is mode_is word =
    let until : IsUntil (path_query query) some_history some_pair 20 =
    subst (λ (each : PathQuery). IsUntil each some_history some_pair 20) (λ i. record { language = language_of query; mode = sym mode_is i; window = sym window_is i })
    (ends (language_of query) word) in
    record {
      later = record {
        path = later_path;
        positions = refl;
        is_path = record {
          seen = subst (λ (each : WindowValue). All (Contains (live_entries each 9 some_history)) later_path) (sym window_is) live_at_nine;
          joins = subst (λ (mode : Mode). Joins (edges_at query.window 9 some_history) (language_of query) mode some_pair (inserted_edges later_path)) (sym mode_is)
              (joins (language_of query) (edges_at query.window 9 some_history) word
              (subst (λ (each : WindowValue). All (Contains (edges_at each 9 some_history)) (inserted_edges later_path)) (sym window_is) edges_at_nine));
        };
        least = subst (λ (each : WindowValue). IsLeastDeadline each later_path 20) (sym window_is) least;
        until = until;
      };
      earlier = λ shows. apart (until_is_one (path_query query) some_history some_pair 20 15 until shows.until) (omega arith);
    }
  where
    apart : {first second : ℕ} → first ≡ second → second < first → ⊥
    apart e less = omega (arith, e, less)
