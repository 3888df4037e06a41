use Rattle.std.proofs.Common.{refl, sym, subst}
use Rattle.stream_history.specs.Journal.{JournalValue, KeepsAll, Forgets}
use Rattle.stream_history.specs.Kept.{journal_of}
use Rattle.stream_history.proofs.Inside.{value}
use Rattle.stream_history.proofs.Forgetting.{GivesUp, gives_up}
use Rattle.stream_history.proofs.journal.Journal.forget_first.Goals as goal

-- what is left
left : (c : goal.After-forget_first) →
    GivesUp c.args.count (value c.self.inside) c.self.inside.calls c.forget_first.new.self
    c.self.inside.running.items c.self.inside.shut
left c =
    let inside = c.self.inside in
    gives_up c.args.count (value inside) inside.calls inside.entries c.forget_first.new.self
    inside.running.items inside.shut c.self.invariant refl
    (subst (λ (journal : JournalValue). KeepsAll journal.terms → ⊥) (sym c.self.view_is)
    c.requires.forgets) c.forget_first.ensures

pub invariant_of-self : goal.invariant_of-self
invariant_of-self c = let all = left c in all.kept

pub returns-clause-forgets : goal.returns-clause-forgets
returns-clause-forgets c =
    let inside = c.self.inside in
    let all = left c in
    subst (λ (journal : JournalValue). Forgets c.args.count journal
    (journal_of (value inside).terms inside.calls c.forget_first.new.self.items
    c.forget_first.new.self.base (value inside).view)) c.self.view_is all.forgets
