-- Where a language isn't contained, simple paths miss a pair of a history.
use Rattle.std.proofs.Common.{◌≡◌, ◌≢◌, ℕ, ◌+◌, ◌*◌, ◌/◌, ◌≤◌, max, Bool, true, false, not, ◌&&◌}
use Rattle.std.proofs.Common.{List, [], ◌∷◌, ◌++◌, map, fold, Some, None, refl, sym, ap}
use Rattle.std.proofs.Common.{subst, ◌∙◌, arith}
use Rattle.std.specs.Prelude.{if◌then◌else◌}
use Rattle.std.specs.List.{cons_option}
use Rattle.std.proofs.lemmas.Bool.{lt-ltb}
use Rattle.std.proofs.lemmas.Nat.{div-add-mod'}
use Rattle.rpq_base.specs.declared.data.Label.{Label}
use Rattle.rpq_base.specs.declared.data.Edge.{Edge}
use Rattle.rpq_base.specs.declared.data.Act.TheVariants.{Insert}
use Rattle.rpq_base.specs.declared.data.Entry.{Entry}
use Rattle.rpq_model.specs.declared.mode.Mode.TheVariants.{Arbitrary, Simple}
use Rattle.rpq_model.specs.Window.{WindowValue, clock, is_in_window, is_seen}
use Rattle.rpq_model.specs.Window.{is_deleted, edges_at}
use Rattle.rpq_model.specs.Answers.{IsJoinedBy}
use Rattle.rpq_model.specs.Relations.{between}
use Rattle.rpq_model.proofs.LiveEdges.{first_live, none_live}
use Rattle.containment_test.specs.Containment.{Shows}
use Rattle.containment_laws.specs.Lines.{line_loop_line, inserts, IsMissed, SimpleMissesAPair}
use Rattle.containment_laws.proofs.Spelled.{is_enough, last, end_is_last, all_join}
use Rattle.containment_laws.proofs.Spelled.{none_simple, ends_differ}

-- ---- the history

-- none of its entries deletes an edge
not_deleted : (edges : List Edge) (stream time : ℕ) (edge : Edge) →
    is_deleted (inserts stream time edges) edge ≡ false
not_deleted [] stream time edge = refl
not_deleted (other ∷ edges) stream time edge = not_deleted edges stream time edge

-- in the window, all of them are its edges
all_live : (edges : List Edge) (window : WindowValue) (now stream time : ℕ) →
    is_in_window window now time ≡ true →
    edges_at window now (inserts stream time edges) ≡ edges
all_live [] window now stream time seen = none_live window now
all_live (edge ∷ edges) window now stream time seen =
    let later = inserts stream time edges in
    let live : (is_seen window now time None && not (is_deleted later edge)) ≡ true =
    λ i. (seen i && true) && not (not_deleted edges stream time edge i) in
    first_live window now
    (record { stream = stream; tuple = record { time = time; act = Insert edge None } }) later
    ∙ (ap (λ (test : Bool). cons_option (if test then Some edge else None)
    (edges_at window now later)) live
    ∙ ap (λ (rest : List Edge). edge ∷ rest) (all_live edges window now stream time seen))

-- its clock is at most the time of its entries
clock_below : (edges : List Edge) (stream time start : ℕ) → start ≤ time →
    fold max start (map (λ (entry : Entry). entry.tuple.time) (inserts stream time edges)) ≤ time
clock_below [] stream time start below = below
clock_below (edge ∷ edges) stream time start below =
    clock_below edges stream time (max start time) (omega (arith, below))

-- and at its clock it has all of them
all_inserted : (edges : List Edge) (window : WindowValue) (stream time : ℕ) → 1 ≤ window.size →
    edges_at window (clock (inserts stream time edges)) (inserts stream time edges) ≡ edges
all_inserted edges window stream time some =
    let now = clock (inserts stream time edges) in
    let none_later = clock_below edges stream time 0 (omega arith) in
    all_live edges window now stream time
    (lt-ltb (now / window.slide * window.slide) (time + window.size)
    (omega (arith, some, none_later, div-add-mod' now window.slide)))

-- ---- the law

-- a part that can't be left out isn't empty
some_middle : (p q w : List Label) (language : List Label → Type 0) → Shows language p q w → q ≢ []
some_middle p q w language shows none =
    shows.outside (subst (λ (middle : List Label). language (p ++ (middle ++ w))) none shows.inside)

-- the first vertex and the end of the edges are missed
pub simple_misses_a_pair : (language : List Label → Type 0) → SimpleMissesAPair language
simple_misses_a_pair language p q w shows first names distinct long window some stream time =
    let edges = line_loop_line first names p q w in
    let history = inserts stream time edges in
    let enough = is_enough p q w names (some_middle p q w language shows) long in
    let to = last p q w first names enough in
    let pair = between first to in
    let live : edges_at window (clock history) history ≡ edges =
    all_inserted edges window stream time some in
    let missed : IsMissed language window history pair = record {
      differ = ends_differ p q w first names enough shows.some distinct;
      joined = subst (λ (all : List Edge). IsJoinedBy all language Arbitrary pair) (sym live)
          (all_join p q w first names enough language shows distinct);
      missed = λ answer. none_simple p q w first names enough language shows distinct
          (subst (λ (all : List Edge). IsJoinedBy all language Simple pair) live answer);
    } in
    subst (λ (end : List ℕ). IsMissed language window history (between first end))
    (sym (end_is_last p q w first names enough distinct)) missed
