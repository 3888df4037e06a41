use Rattle.std.proofs.Common.{rules, ◌≡◌, filter, sym, ap, subst, ◌∙◌}
use Rattle.std.proofs.lemmas.Fn.{filter_same}
use Rattle.history_model.specs.Lines.{end_line}
use Rattle.stream_history.specs.Journal.{JournalValue, IsOpen, with_line}
use Rattle.stream_history.proofs.Inside.{value}
use Rattle.stream_history.proofs.Keeping.{Adds, is_other, end_adds}
use Rattle.stream_history.proofs.journal.Journal.end_stream.Goals as goal

-- the streams that go on
left : (c : goal.After-retain) →
    c.retain.new.self.items ≡ filter (is_other c.args.stream) c.self.inside.running.items
left c = filter_same _ (is_other c.args.stream) _ (λ x b f' k. search rules) _ _
    c.retain.ensures.filtered

-- what an end adds
added : (c : goal.After-retain) →
    Adds (value c.self.inside) (with_line (value c.self.inside) (end_line c.args.stream))
    c.push.new.self c.self.inside.entries.items c.self.inside.entries.base
    c.retain.new.self.items c.self.inside.shut
added c =
    let inside = c.self.inside in
    let going : IsOpen (value inside) c.args.stream =
    subst (λ (journal : JournalValue). IsOpen journal c.args.stream) (sym c.self.view_is)
    c.requires in
    end_adds c.legal_by_lines.ensures c.lines_are_joined.ensures (value inside) inside.calls
    c.push.new.self inside.entries.items inside.running.items c.retain.new.self.items inside.shut
    c.args.stream c.self.invariant going c.push.ensures (left c)

pub invariant_of-self : goal.invariant_of-self
invariant_of-self c = let adds = added c in adds.kept

pub returns-clause-line : goal.returns-clause-line
returns-clause-line c =
    let adds = added c in
    adds.is ∙ ap (λ (journal : JournalValue). with_line journal (end_line c.args.stream))
    c.self.view_is

pub returns-clause-sound : goal.returns-clause-sound
returns-clause-sound c = let adds = added c in adds.kept.sound
