use Rattle.std.proofs.Common.{Some, sym, ap, subst, ◌∙◌}
use Rattle.history_model.specs.Lines.{shut_line, IsShut}
use Rattle.stream_history.specs.Journal.{JournalValue, with_line}
use Rattle.stream_history.proofs.Inside.{value}
use Rattle.stream_history.proofs.Keeping.{Adds, shut_adds}
use Rattle.stream_history.proofs.journal.Journal.shut.Goals as goal

-- what a shut adds
added : (c : goal.After-self-1) →
    Adds (value c.self.inside) (with_line (value c.self.inside) (shut_line c.args.why))
    c.push.new.self c.self.inside.entries.items c.self.inside.entries.base
    c.self.inside.running.items (Some c.args.why)
added c =
    let inside = c.self.inside in
    let going : IsShut (value inside).lines →
    ⊥ = subst (λ (journal : JournalValue). IsShut journal.lines → ⊥) (sym c.self.view_is)
    c.requires in
    shut_adds c.legal_by_lines.ensures c.lines_are_joined.ensures
    (value inside) inside.calls c.push.new.self inside.entries.items inside.running.items
    inside.shut c.args.why c.self.invariant going c.push.ensures

pub invariant_of-self : goal.invariant_of-self
invariant_of-self c = let adds = added c in adds.kept

pub returns-clause-line : goal.returns-clause-line
returns-clause-line c =
    let adds = added c in
    adds.is ∙ ap (λ (journal : JournalValue). with_line journal (shut_line c.args.why))
    c.self.view_is

pub returns-clause-sound : goal.returns-clause-sound
returns-clause-sound c = let adds = added c in adds.kept.sound
