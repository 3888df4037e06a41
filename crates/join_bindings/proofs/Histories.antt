-- Going through the events of all entries leaves the bindings over the answers.
use Rattle.std.proofs.Common.{◌≡◌, ℕ, zero, suc, ◌<◌, Bool, false, List, [], ◌∷◌, ◌++◌, Some, length, refl, sym, subst, arith}
use Rattle.std.specs.Prelude.{◌↔◌, IsTrue, Contains, All, slice_get, flat_map, if◌then◌else◌, ◌==◌, ◌&&◌}
use Rattle.std.proofs.lemmas.Bool.{false≢true}
use Rattle.std.proofs.lemmas.List.{append_assoc, append-nil}
use Rattle.rpq_base.specs.declared.data.Entry.{Entry}
use Rattle.rpq_model.specs.Query.{Query, path_query}
use Rattle.rpq_model.proofs.Held.{none_at_first}
use Rattle.join_file.specs.declared.data.JoinAtom.{JoinAtom}
use Rattle.join_bindings.specs.declared.event.JoinEvent.{JoinEvent}
use Rattle.join_file.specs.Joins.{JoinValue}
use Rattle.join_bindings.specs.Bindings.{Family, IsBinding}
use Rattle.join_bindings.specs.Events.{join_held_from, same_names}
use Rattle.join_file.specs.Sound.{IsSound}
use Rattle.join_bindings.specs.Histories.{AreAnswersOf, IsBindingOver, AreJoinEventsFrom}
use Rattle.join_bindings.specs.Histories.{AreJoinEventsOn, JoinsHoldBindings}
use Rattle.join_bindings.proofs.Holding.{bindings_hold}

-- what stands at a place below the length
at_place : {X : Type 0} (xs : List X) (place : ℕ) → place < length xs → (x : X) × (slice_get xs place ≡ Some x)
at_place [] place below = absurd (omega (arith, below))
at_place (first ∷ xs) zero below = (first, refl)
at_place (first ∷ xs) (suc place) below = at_place xs place (omega (arith, below))

below_of : (queries : ℕ) (atoms : List JoinAtom) (atom : JoinAtom) → All (λ (each : JoinAtom). each.query < queries) atoms → Contains atoms atom →
    atom.query < queries
below_of queries atoms atom below member = subst (λ (each : JoinAtom). each.query < queries) member.2 (below member.0 atom member.1)

-- over the answers of queries, bindings are bindings over the answers
pub bindings_over : (queries : List Query) (history : List Entry) (join : JoinValue) (pairs : Family) (names : List (List ℕ)) → IsSound (length queries) join →
    AreAnswersOf queries history pairs → IsBinding join pairs names ↔ IsBindingOver queries history join names
bindings_over queries history join pairs names sound are = (
  (λ binding. record {
    as_many = binding.as_many;
    met = λ atom member.
        let found = at_place queries atom.query (below_of (length queries) join.atoms atom sound.below member) in
        let met = binding.met atom member in
        record {
          query = found.0;
          there = found.1;
          pair = met.0;
          has = met.1;
          answer = ((are atom.query found.0 found.1).exact met.0).0 met.2;
        };
  }),
  (λ binding. record {
    as_many = binding.as_many;
    met = λ atom member.
        let met = binding.met atom member in
        (met.pair, met.has, ((are atom.query met.query met.there).exact met.pair).1 met.answer);
  }),
)

-- events one after another
held_after : (events others : List JoinEvent) (before : Bool) (number : ℕ) (names : List (List ℕ)) →
    join_held_from before number names (events ++ others) ≡ join_held_from (join_held_from before number names events) number names others
held_after [] others before number names = refl
held_after (first ∷ events) others before number names =
    held_after events others (if first.join == number && same_names first.binding names then first.added else before) number names

-- one entry's events carry what is held
step : (queries : List Query) (joins : List JoinValue) (number : ℕ) (join : JoinValue) (before after : List Entry) (events : List JoinEvent)
    (held : Bool) (names : List (List ℕ)) → slice_get joins number ≡ Some join → IsSound (length queries) join →
    AreJoinEventsFrom queries joins before after events → IsTrue held ↔ IsBindingOver queries before join names →
    IsTrue (join_held_from held number names events) ↔ IsBindingOver queries after join names
step queries joins number join before after events held names there sound from holds =
    let old = bindings_over queries before join from.old names sound from.were in
    let new = bindings_over queries after join from.new names sound from.are in
    let now = bindings_hold joins number join from.old from.new events held names there from.changes (
      (λ e. old.1 (holds.0 e)),
      (λ binding. holds.1 (old.0 binding)),
    ) in (
      (λ e. new.0 (now.0 e)),
      (λ binding. now.1 (new.1 binding)),
    )

following : (entries before : List Entry) (queries : List Query) (joins : List JoinValue) (number : ℕ) (join : JoinValue) (held : Bool)
    (events : List (List JoinEvent)) (names : List (List ℕ)) → slice_get joins number ≡ Some join → IsSound (length queries) join →
    AreJoinEventsOn queries joins before entries events → IsTrue held ↔ IsBindingOver queries before join names →
    IsTrue (join_held_from held number names (flat_map (λ block. block) events)) ↔ IsBindingOver queries (before ++ entries) join names
following [] before queries joins number join held [] names there sound are holds =
    subst (λ (history : List Entry). IsTrue held ↔ IsBindingOver queries history join names) (sym (append-nil before)) holds
following [] before queries joins number join held (block ∷ events) names there sound are holds = absurd are
following (entry ∷ later) before queries joins number join held [] names there sound are holds = absurd are
following (entry ∷ later) before queries joins number join held (block ∷ events) names there sound are holds =
    let now = step queries joins number join before (before ++ entry ∷ []) block held names there sound are.0 holds in
    let further = following later (before ++ entry ∷ []) queries joins number join (join_held_from held number names block) events names there sound are.1 now in
    rw (held_after block (flat_map (λ block. block) events) held number names, ← append_assoc before (entry ∷ []) later) further

-- nothing is bound before the first entry
none_bound : (queries : List Query) (join : JoinValue) (names : List (List ℕ)) → IsSound (length queries) join → 0 < join.variables →
    IsBindingOver queries [] join names → ⊥
none_bound queries join names sound some binding =
    let first = sound.all 0 some in
    let met = binding.met first.0 first.1 in
    none_at_first (path_query met.query) met.pair met.answer

pub joins_hold_bindings : JoinsHoldBindings
joins_hold_bindings queries joins number join history events there sound some are names =
    following history [] queries joins number join false events names there sound are (
      (λ e. absurd (false≢true e)),
      (λ binding. absurd (none_bound queries join names sound some binding)),
    )
