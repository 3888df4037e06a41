use Rattle.std.proofs.Common.{◌≡◌, ◌∷◌, [], ◌++◌, ℕ, ◌<◌, ◌≤◌, length, sym, ap, subst, ◌∙◌, arith}
use Rattle.answer_view.specs.View.{ViewValue}
use Rattle.history_model.specs.declared.line.CallAct.TheVariants.{Publish}
use Rattle.history_model.specs.declared.line.Call.{Call}
use Rattle.history_model.specs.Lines.{entries, IsShut}
use Rattle.stream_history.specs.Journal.{JournalValue, ShowsFront, with_view}
use Rattle.stream_history.proofs.Inside.{value}
use Rattle.stream_history.proofs.Keeping.{Adds, publish_adds}
use Rattle.stream_history.proofs.journal.Journal.publish.Goals as goal

-- what a publish adds
added : (c : goal.After-drop-self-inside) →
    Adds (value c.self.inside) (with_view (value c.self.inside) c.args.view.value)
    c.push.new.self c.self.inside.entries.items c.self.inside.entries.base
    c.self.inside.running.items c.self.inside.shut
added c =
    let inside = c.self.inside in
    let view = c.args.view.value in
    let number : c.position-number.result ≡ view.position = c.position-number.ensures
    ∙ ap (λ (each : ViewValue). each.position) c.deref-2.ensures in
    let last : c.position-last.result ≡ inside.view.value.position = c.position-last.ensures
    ∙ ap (λ (each : ViewValue). each.position) c.deref.ensures in
    let above : inside.view.value.position < view.position =
    omega (arith, c.if-number-last.false, number, last) in
    let call : Call = record { by = 0; act = Publish view.position } in
    let calls : c.push.new.self ≡ inside.calls ++ call ∷ [] =
    c.push.ensures
    ∙ ap (λ (each : ℕ). inside.calls ++ record { by = 0; act = Publish each } ∷ []) number in
    let going : IsShut (value inside).lines →
    ⊥ = subst (λ (journal : JournalValue). IsShut journal.lines → ⊥) (sym c.self.view_is)
    c.requires.goes_on in
    let below : view.position ≤ length (entries (value inside).lines) =
    subst (λ (journal : JournalValue). view.position ≤ length (entries journal.lines))
    (sym c.self.view_is) c.requires.there in
    let shows : ShowsFront (value inside).terms.queries (entries (value inside).lines) view =
    subst (λ (journal : JournalValue). ShowsFront journal.terms.queries (entries journal.lines)
    view) (sym c.self.view_is) c.requires.shows in
    publish_adds c.legal_by_lines.ensures c.lines_are_joined.ensures
    (value inside) inside.calls c.push.new.self inside.entries.items inside.running.items
    inside.shut view c.self.invariant going above below shows calls

pub invariant_of-self : goal.invariant_of-self
invariant_of-self c = let adds = added c in adds.kept

pub returns-clause-line : goal.returns-clause-line
returns-clause-line c =
    let adds = added c in
    adds.is ∙ ap (λ (journal : JournalValue). with_view journal c.args.view.value)
    c.self.view_is

pub returns-clause-sound : goal.returns-clause-sound
returns-clause-sound c = let adds = added c in adds.kept.sound
