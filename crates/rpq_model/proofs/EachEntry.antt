-- Each entry of a history has its list, whatever ties the list to the step.
use Rattle.std.proofs.Common.{◌≡◌, ℕ, zero, suc, List, [], ◌∷◌, ◌++◌, length, take, refl, sym, ap, subst, ◌∙◌}
use Rattle.std.proofs.lemmas.List.{append_assoc, append-nil}
use Rattle.rpq_base.specs.declared.data.Entry.{Entry}
use Rattle.rpq_base.specs.declared.data.Event.{Event}
use Rattle.rpq_model.specs.Events.{AreEachFrom}

-- if each step has at most one list, so has each of the entries that follow a history
pub each_are_one : (entries before : List Entry) (step : List Entry → List Entry → List Event → Type 0) (lists others : List (List Event)) →
    ((old new : List Entry) (events others : List Event) → step old new events → step old new others → events ≡ others) →
    AreEachFrom step before entries lists → AreEachFrom step before entries others → lists ≡ others
each_are_one [] before step [] [] one first second = refl
each_are_one [] before step [] (block ∷ others) one first second = absurd second
each_are_one [] before step (block ∷ lists) others one first second = absurd first
each_are_one (entry ∷ later) before step [] others one first second = absurd first
each_are_one (entry ∷ later) before step (block ∷ lists) [] one first second = absurd second
each_are_one (entry ∷ later) before step (block ∷ lists) (other ∷ others) one first second =
    let here = one before (before ++ entry ∷ []) block other first.0 second.0 in
    let there = each_are_one later (before ++ entry ∷ []) step lists others one first.1 second.1 in
    ap (λ (each : List Event). each ∷ lists) here ∙ ap (λ (rest : List (List Event)). other ∷ rest) there

-- there are as many lists as entries
pub each_as_many : (later before : List Entry) (step : List Entry → List Entry → List Event → Type 0) (lists : List (List Event)) →
    AreEachFrom step before later lists → length lists ≡ length later
each_as_many [] before step [] are = refl
each_as_many [] before step (one ∷ rest) are = absurd are
each_as_many (next ∷ later) before step [] are = absurd are
each_as_many (next ∷ later) before step (one ∷ rest) are = ap suc (each_as_many later (before ++ next ∷ []) step rest are.1)

-- one entry more brings one list more
pub each_push : (later : List Entry) (lists : List (List Event)) (step : List Entry → List Entry → List Event → Type 0) (before : List Entry) (entry : Entry)
    (found : List Event) →
    AreEachFrom step before later lists → step (before ++ later) ((before ++ later) ++ entry ∷ []) found →
    AreEachFrom step before (later ++ entry ∷ []) (lists ++ found ∷ [])
each_push [] [] step before entry found so_far brings = (subst (λ (all : List Entry). step all (all ++ entry ∷ []) found) (append-nil before) brings, tt)
each_push [] (one ∷ rest) step before entry found so_far brings = absurd so_far
each_push (next ∷ later) [] step before entry found so_far brings = absurd so_far
each_push (next ∷ later) (one ∷ rest) step before entry found so_far brings =
    let regrouped : before ++ next ∷ later ≡ (before ++ next ∷ []) ++ later = sym (append_assoc before (next ∷ []) later) in (
      so_far.0,
      each_push later rest step (before ++ next ∷ []) entry found so_far.1
          (subst (λ (all : List Entry). step all (all ++ entry ∷ []) found) regrouped brings),
    )

-- the first entries have the first lists
pub each_fronts : (later : List Entry) (lists : List (List Event)) (count : ℕ) (step : List Entry → List Entry → List Event → Type 0) (before : List Entry) →
    AreEachFrom step before later lists → AreEachFrom step before (take count later) (take count lists)
each_fronts [] [] zero step before are = tt
each_fronts [] [] (suc count) step before are = tt
each_fronts [] (one ∷ rest) count step before are = absurd are
each_fronts (next ∷ later) [] count step before are = absurd are
each_fronts (next ∷ later) (one ∷ rest) zero step before are = tt
each_fronts (next ∷ later) (one ∷ rest) (suc count) step before are = (are.0, each_fronts later rest count step (before ++ next ∷ []) are.1)
