-- A history has one summary of what is said.
use Rattle.std.proofs.Common.{◌≡◌, ℕ, List, [], length, map, refl, sym, ap, ap₂, ◌∙◌}
use Rattle.rpq_base.specs.declared.data.Entry.{Entry}
use Rattle.rpq_base.specs.declared.data.Event.{Event}
use Rattle.rpq_model.specs.Query.{Query}
use Rattle.rpq_model.specs.Window.{clock}
use Rattle.rpq_model.proofs.AllEvents.{under_one}
use Rattle.rpq_model.proofs.EachEntry.{each_are_one}
use Rattle.two_way.specs.TwoWay.{walked, AreWalkedEvents}
use Rattle.answer_rows.specs.Answers.{Answer}
use Rattle.answer_view.specs.Laws.{ViewsAreOne}
use Rattle.answer_view.specs.View.{ViewValue}
use Rattle.generated_run.specs.Laws.{OneSummary}
use Rattle.generated_run.specs.Summary.{summary_text, all_of, additions, retractions}

-- the text of a summary by its events and answers
text_by : List Query → ℕ → List (List ℕ) → List (List Event) → List (List Answer) → List ℕ
text_by queries entries said events answers =
    summary_text entries (additions (all_of events)) (retractions (all_of events)) queries
    (map (λ (own : List Answer). length own) answers) said

-- the view of these answers over the history
view_of : (queries : List Query) (history : List Entry) (answers : List (List Answer)) → ViewValue
view_of queries history answers =
    record { position = length history; clock = clock history; rows = answers }

pub one_summary : ViewsAreOne → OneSummary
unfolding text_by view_of
one_summary one_view two_way queries history said text other first second =
    let events : first.events ≡ second.events =
    each_are_one history [] (AreWalkedEvents two_way queries) first.events second.events
    (λ old new own others.
    under_one queries 0 (walked two_way old) (walked two_way new) own others)
    first.are_events second.are_events in
    let answers : first.answers ≡ second.answers =
    ap (λ (view : ViewValue). view.rows) (one_view queries (walked two_way history)
    (view_of queries (walked two_way history) first.answers)
    (view_of queries (walked two_way history) second.answers)
    (record { position = refl; clock = refl; rows = first.are_answers })
    (record { position = refl; clock = refl; rows = second.are_answers })) in
    first.is
    ∙ (ap₂ (text_by queries (length history) said) events answers
    ∙ sym second.is)
