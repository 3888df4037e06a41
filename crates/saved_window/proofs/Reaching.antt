-- What is kept for all queries is what the window that reaches back furthest sees.
use Rattle.std.proofs.Common.{◌≡◌, ℕ, suc, Bool, true, false, not, ◌&&◌, ◌||◌, List, [], ◌∷◌, Option, Some, None, refl, sym, ap, ◌∙◌}
use Rattle.std.specs.Prelude.{if◌then◌else◌}
use Rattle.std.specs.List.{list_any}
use Rattle.rpq_base.specs.OwnEnds.{is_before_end}
use Rattle.rpq_base.specs.TupleValue.{TupleValue}
use Rattle.rpq_base.specs.declared.data.Act.{Act}
use Rattle.rpq_base.specs.declared.data.Act.TheVariants.{Insert, Delete, Tick}
use Rattle.rpq_base.specs.declared.data.Entry.{Entry}
use Rattle.rpq_model.specs.Window.{WindowValue, Placed, is_in_window, is_seen, is_deleted, is_live_act, is_live, live_from}
use Rattle.rpq_model.specs.Query.{Query}
use Rattle.saved_window.specs.Reach.{reaches, ReachesForAll, tuples_of}
use Rattle.saved_window.specs.Saved.{kept_tuples}

-- a test that all members share stands before or behind
any_and : {X : Type 0} (test : X → Bool) (shared : Bool) (xs : List X) → list_any (λ x. test x && shared) xs ≡ (list_any test xs && shared)
any_and {X = X} test shared [] = refl
any_and {X = X} test shared (x ∷ xs) = by_tests (test x) shared (list_any test xs) (any_and test shared xs)
  where
    by_tests : (here shared later : Bool) → list_any (λ (x : X). test x && shared) xs ≡ (later && shared) →
        ((here && shared) || list_any (λ (x : X). test x && shared) xs) ≡ ((here || later) && shared)
    by_tests true true later is = refl
    by_tests true false true is = is
    by_tests true false false is = is
    by_tests false shared later is = is

none_passes : {X : Type 0} (xs : List X) → list_any (λ x. false) xs ≡ false
none_passes [] = refl
none_passes (x ∷ xs) = none_passes xs

-- ---- one window for all

-- an insert is seen by one of the queries where its time is in the window, and its end isn't over
seen_by_one : (queries : List Query) (now time : ℕ) (until : Option ℕ) (found : Option WindowValue) (kept : Bool) → ReachesForAll queries now found →
    list_any (λ query. is_seen query.window now time until && kept) queries ≡ ((reaches found now time && is_before_end now until) && kept)
seen_by_one queries now time until found kept sees =
    any_and (λ (query : Query). is_seen query.window now time until) kept queries
    ∙ (ap (λ (seen : Bool). seen && kept) (any_and (λ (query : Query). is_in_window query.window now time) (is_before_end now until) queries)
    ∙ ap (λ (in_window : Bool). (in_window && is_before_end now until) && kept) (sees time))

act_kept : (act : Act) (queries : List Query) (now time : ℕ) (window : WindowValue) (later : List Entry) → ReachesForAll queries now (Some window) →
    list_any (λ query. is_live_act query.window now time act later) queries ≡ is_live_act window now time act later
act_kept (Insert edge until) queries now time window later sees = seen_by_one queries now time until (Some window) (not (is_deleted later edge)) sees
act_kept (Delete edge) queries now time window later sees = none_passes queries
act_kept Tick queries now time window later sees = none_passes queries

act_dropped : (act : Act) (queries : List Query) (now time : ℕ) (later : List Entry) → ReachesForAll queries now None →
    list_any (λ query. is_live_act query.window now time act later) queries ≡ false
act_dropped (Insert edge until) queries now time later sees = seen_by_one queries now time until None (not (is_deleted later edge)) sees
act_dropped (Delete edge) queries now time later sees = none_passes queries
act_dropped Tick queries now time later sees = none_passes queries

choice : (test : Bool) (first : Placed) (rest : List Placed) →
    tuples_of (if test then first ∷ rest else rest) ≡ (if test then first.entry.tuple ∷ tuples_of rest else tuples_of rest)
choice true first rest = refl
choice false first rest = refl

pub kept_by_one : (entries : List Entry) (queries : List Query) (now first : ℕ) (window : WindowValue) → ReachesForAll queries now (Some window) →
    kept_tuples queries now entries ≡ tuples_of (live_from window now first entries)
unfolding kept_tuples live_from
kept_by_one [] queries now first window sees = refl
kept_by_one (entry ∷ later) queries now first window sees =
    let rest = live_from window now (suc first) later in
    ap (λ (test : Bool). if test then entry.tuple ∷ kept_tuples queries now later else kept_tuples queries now later)
    (act_kept entry.tuple.act queries now entry.tuple.time window later sees)
    ∙ (ap (λ (tuples : List TupleValue). if is_live window now entry later then entry.tuple ∷ tuples else tuples)
    (kept_by_one later queries now (suc first) window sees)
    ∙ sym (choice (is_live window now entry later) (record { place = first; entry = entry }) rest))

pub kept_by_none : (entries : List Entry) (queries : List Query) (now : ℕ) → ReachesForAll queries now None → kept_tuples queries now entries ≡ []
unfolding kept_tuples
kept_by_none [] queries now sees = refl
kept_by_none (entry ∷ later) queries now sees =
    ap (λ (test : Bool). if test then entry.tuple ∷ kept_tuples queries now later else kept_tuples queries now later)
    (act_dropped entry.tuple.act queries now entry.tuple.time later sees)
    ∙ kept_by_none later queries now sees
