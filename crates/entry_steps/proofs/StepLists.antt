-- The steps of the entries of a history: how many there are, those of one entry more and of the
-- first ones, and the events of each.
use Rattle.std.proofs.Common.{◌≡◌, ℕ, zero, suc, Bool, false, List, [], ◌∷◌, ◌++◌, length, take}
use Rattle.std.proofs.Common.{All, refl, ap, ap₂, sym, subst, ◌∙◌}
use Rattle.std.proofs.lemmas.List.{append_assoc, append-nil}
use Rattle.join_bindings.specs.HaveJoinEvents.{HaveJoinEvents}
use Rattle.join_file.specs.Joins.{JoinValue}
use Rattle.join_bindings.specs.JoinText.{join_lines}
use Rattle.join_file.specs.Sound.{IsSound}
use Rattle.rpq_base.specs.declared.data.Entry.{Entry}
use Rattle.rpq_base.specs.declared.data.Event.{Event}
use Rattle.rpq_model.specs.Query.{Query}
use Rattle.rpq_model.proofs.AllEvents.{under_one}
use Rattle.rpq_model.proofs.EachEntry.{each_are_one}
use Rattle.two_way.specs.TwoWay.{walked, AreWalkedEvents, AreAllWalkedEvents}
use Rattle.two_way.specs.TwoWay.{AreAllWalkedEventsFrom}
use Rattle.entry_steps.specs.Laws.{StepsHaveTheEvents}
use Rattle.entry_steps.specs.Steps.{OptionsValue, StepValue, IsStep, AreJoinLines, AreStepsFrom}
use Rattle.entry_steps.specs.Steps.{events_of}

-- there are as many steps as entries
pub steps_as_many : (later before : List Entry) (options : OptionsValue) (queries : List Query)
    (steps : List StepValue) → AreStepsFrom options queries before later steps →
    length steps ≡ length later
steps_as_many [] before options queries [] are = refl
steps_as_many [] before options queries (step ∷ rest) are = absurd are
steps_as_many (entry ∷ later) before options queries [] are = absurd are
steps_as_many (entry ∷ later) before options queries (step ∷ rest) are =
    ap suc (steps_as_many later (before ++ entry ∷ []) options queries rest are.1)

-- one entry more brings one step more
pub steps_push : (later : List Entry) (steps : List StepValue) (options : OptionsValue)
    (queries : List Query) (before : List Entry) (entry : Entry) (step : StepValue) →
    AreStepsFrom options queries before later steps →
    IsStep options queries (before ++ later) ((before ++ later) ++ entry ∷ []) step →
    AreStepsFrom options queries before (later ++ entry ∷ []) (steps ++ step ∷ [])
steps_push [] [] options queries before entry step are brings = (
  subst (λ (all : List Entry). IsStep options queries all (all ++ entry ∷ []) step)
      (append-nil before) brings,
  tt,
)
steps_push [] (own ∷ rest) options queries before entry step are brings = absurd are
steps_push (next ∷ later) [] options queries before entry step are brings = absurd are
steps_push (next ∷ later) (own ∷ rest) options queries before entry step are brings =
    let regrouped : before ++ next ∷ later ≡ (before ++ next ∷ []) ++ later =
    sym (append_assoc before (next ∷ []) later) in (
      are.0,
      steps_push later rest options queries (before ++ next ∷ []) entry step are.1
          (subst (λ (all : List Entry). IsStep options queries all (all ++ entry ∷ []) step)
          regrouped brings),
    )

-- the first entries have the first steps
pub steps_fronts : (later : List Entry) (steps : List StepValue) (count : ℕ)
    (options : OptionsValue) (queries : List Query) (before : List Entry) →
    AreStepsFrom options queries before later steps →
    AreStepsFrom options queries before (take count later) (take count steps)
steps_fronts [] [] zero options queries before are = tt
steps_fronts [] [] (suc count) options queries before are = tt
steps_fronts [] (step ∷ rest) count options queries before are = absurd are
steps_fronts (entry ∷ later) [] count options queries before are = absurd are
steps_fronts (entry ∷ later) (step ∷ rest) zero options queries before are = tt
steps_fronts (entry ∷ later) (step ∷ rest) (suc count) options queries before are =
    (are.0, steps_fronts later rest count options queries (before ++ entry ∷ []) are.1)

-- the steps have the events that the entries bring
pub steps_have_events : (later before : List Entry) (options : OptionsValue) (queries : List Query)
    (steps : List StepValue) → AreStepsFrom options queries before later steps →
    AreAllWalkedEventsFrom options.two_way queries before later (events_of steps)
steps_have_events [] before options queries [] are = tt
steps_have_events [] before options queries (step ∷ rest) are = absurd are
steps_have_events (entry ∷ later) before options queries [] are = absurd are
steps_have_events (entry ∷ later) before options queries (step ∷ rest) are =
    (are.0.events, steps_have_events later (before ++ entry ∷ []) options queries rest are.1)

-- a history has one list of events for each entry
events_are_one : (two_way : Bool) (queries : List Query) (history : List Entry)
    (first second : List (List Event)) → AreAllWalkedEvents two_way queries history first →
    AreAllWalkedEvents two_way queries history second → first ≡ second
events_are_one two_way queries history first second one other =
    each_are_one history [] (AreWalkedEvents two_way queries) first second
    (λ old new events others.
    under_one queries 0 (walked two_way old) (walked two_way new) events others) one other

-- so steps have the same events, whether paths are told or not
pub have_the_events : StepsHaveTheEvents
have_the_events = record {
  are = λ options queries history steps are.
      steps_have_events history [] options queries steps are;
  same = λ options others queries history first second alike one other.
      events_are_one options.two_way queries history (events_of first) (events_of second)
      (steps_have_events history [] options queries first one)
      (subst (λ (two_way : Bool).
      AreAllWalkedEvents two_way queries history (events_of second)) (sym alike)
      (steps_have_events history [] others queries second other));
}

-- the lines of joins over the queries are one text
lines_are_one : HaveJoinEvents → (queries : List Query) (joins : List JoinValue) →
    All (IsSound (length queries)) joins → (before after : List Entry) (first second : List ℕ) →
    AreJoinLines queries joins before after first →
    AreJoinLines queries joins before after second → first ≡ second
lines_are_one have queries joins sound before after first second one other =
    one.lines_are
    ∙ (ap (join_lines joins) (have.one queries joins sound before after one.changes other.changes
    one.are other.are)
    ∙ sym other.lines_are)

-- without paths a step is one
one_step : HaveJoinEvents → (options : OptionsValue) (queries : List Query)
    (before after : List Entry) (first second : StepValue) → options.paths ≡ false →
    All (IsSound (length queries)) options.joins →
    IsStep options queries before after first → IsStep options queries before after second →
    first ≡ second
one_step have options queries before after first second silent sound one other =
    let events : first.events ≡ second.events =
    under_one queries 0 (walked options.two_way before) (walked options.two_way after) first.events
    second.events one.events other.events in
    let shown = one.none_shown silent ∙ sym (other.none_shown silent) in
    let joined = lines_are_one have queries options.joins sound (walked options.two_way before)
    (walked options.two_way after) first.joined second.joined one.joined other.joined in
    λ i. record { events = events i; shown = shown i; joined = joined i }

-- and so are those of the entries that follow a history
pub steps_are_one : HaveJoinEvents → (later before : List Entry) (options : OptionsValue)
    (queries : List Query) (steps others : List StepValue) → options.paths ≡ false →
    All (IsSound (length queries)) options.joins →
    AreStepsFrom options queries before later steps →
    AreStepsFrom options queries before later others → steps ≡ others
steps_are_one have [] before options queries [] [] silent sound are others_are = refl
steps_are_one have [] before options queries [] (other ∷ others) silent sound are others_are =
    absurd others_are
steps_are_one have [] before options queries (step ∷ rest) others silent sound are others_are =
    absurd are
steps_are_one have (entry ∷ later) before options queries [] others silent sound are others_are =
    absurd are
steps_are_one have (entry ∷ later) before options queries (step ∷ rest) [] silent sound are
    others_are = absurd others_are
steps_are_one have (entry ∷ later) before options queries (step ∷ rest) (other ∷ others) silent
    sound are others_are =
    let after = before ++ entry ∷ [] in
    ap₂ (λ (own : StepValue) (next : List StepValue). own ∷ next)
    (one_step have options queries before after step other silent sound are.0 others_are.0)
    (steps_are_one have later after options queries rest others silent sound are.1 others_are.1)
