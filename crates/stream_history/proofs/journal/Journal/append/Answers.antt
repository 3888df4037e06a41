use Rattle.std.proofs.Common.{◌≡◌, ℕ, ◌<◌, ◌≤◌, Ok, Err, length, sym, ap, subst, ◌∙◌, arith, Result}
use Rattle.std.specs.Prelude.{◌↔◌}
use Rattle.history_model.specs.declared.line.Why.{Why}
use Rattle.history_model.specs.Lines.{append_line, entries, IsShutFor}
use Rattle.stream_history.specs.declared.fault.AppendFault.{AppendFault}
use Rattle.stream_history.specs.declared.fault.AppendFault.TheVariants.{Closed, Full}
use Rattle.stream_history.specs.Journal.{JournalValue, IsOpen, IsFullAt, with_line}
use Rattle.stream_history.proofs.Inside.{value}
use Rattle.stream_history.proofs.Keeping.{Adds, append_adds}
use Rattle.stream_history.proofs.Refusals.{closed_for, closed_not_full, full_at, not_closed}
use Rattle.stream_history.proofs.journal.Journal.append.Goals as goal

-- the answer tells whether this journal is shut
abbrev TellsClosed : Result ℕ AppendFault → JournalValue → Type 0
TellsClosed answer journal = (why : Why) → (answer ≡ Err (Closed why)) ↔ IsShutFor journal.lines why

-- and whether it is full
abbrev TellsFull : Result ℕ AppendFault → JournalValue → Type 0
TellsFull answer journal = (cap : ℕ) → (answer ≡ Err (Full cap)) ↔ IsFullAt journal cap

pub returns-in-Some-clause-closed : goal.returns-in-Some-clause-closed
returns-in-Some-clause-closed c = subst (TellsClosed (Err (Closed c.in-Some.why))) c.self.view_is
    (closed_for (value c.self.inside).lines c.self.inside.shut c.in-Some.why c.self.invariant.shut
    c.in-Some.is)

pub returns-in-Some-clause-full : goal.returns-in-Some-clause-full
returns-in-Some-clause-full c = subst (TellsFull (Err (Closed c.in-Some.why))) c.self.view_is
    (closed_not_full (value c.self.inside) c.self.inside.shut c.in-Some.why c.self.invariant.shut
    c.in-Some.is)

pub returns-then-length-self-clause-closed : goal.returns-then-length-self-clause-closed
returns-then-length-self-clause-closed c = subst (TellsClosed (Err (Full c.self.inside.cap)))
    c.self.view_is
    (λ why. not_closed (Err (Full c.self.inside.cap)) (value c.self.inside).lines c.self.inside.shut
    c.self.invariant.shut c.in_default.is why (λ same. cc))

pub returns-then-length-self-clause-full : goal.returns-then-length-self-clause-full
returns-then-length-self-clause-full c =
    let inside = c.self.inside in
    let full : length (entries (value inside).lines) ≡ inside.cap =
    omega (arith, ap length c.self.invariant.appended, c.if-length-self.true, c.length.ensures) in
    subst (TellsFull (Err (Full inside.cap))) c.self.view_is
    (full_at (value inside) inside.shut c.self.invariant.shut c.in_default.is full)

pub returns-in_err-push-clause-closed : goal.returns-in_err-push-clause-closed
returns-in_err-push-clause-closed c = subst (TellsClosed c.from_residual.result) c.self.view_is
    (λ why. not_closed c.from_residual.result (value c.self.inside).lines c.self.inside.shut
    c.self.invariant.shut c.in_default.is why
    (λ same. grind (arith, same, c.from_residual.ensures, c.in_err-push.is)))

-- what an append adds
added : (c : goal.After-length-2) →
    Adds (value c.self.inside)
    (with_line (value c.self.inside) (append_line c.args.stream c.args.tuple))
    c.push-2.new.self c.push.new.self.items c.push.new.self.base c.self.inside.running.items
    c.self.inside.shut
added c =
    let inside = c.self.inside in
    let going : IsOpen (value inside) c.args.stream =
    subst (λ (journal : JournalValue). IsOpen journal c.args.stream) (sym c.self.view_is)
    c.requires.open in
    let below : length inside.entries.items ≤ inside.cap =
    omega (arith, c.self.invariant.sound.legal.capped, ap length c.self.invariant.appended) in
    let short : length inside.entries.items < inside.cap =
    grind (arith, below, c.if-length-self.false, c.length.ensures) in
    append_adds c.legal_by_lines.ensures c.lines_are_joined.ensures
    (value inside) inside.calls c.push-2.new.self inside.entries.items c.push.new.self.items
    c.push.new.self.base inside.running.items inside.shut c.args.stream c.args.tuple
    c.self.invariant going c.requires.plain c.in_default.is short c.push-2.ensures
    c.in_ok-push.ensures.ok c.push.ensures.base

pub invariant_of-self-2 : goal.invariant_of-self-2
invariant_of-self-2 c = let adds = added c in adds.kept

pub returns-clause-line : goal.returns-clause-line
returns-clause-line c =
    let adds = added c in
    adds.is ∙ ap (λ (journal : JournalValue). with_line journal
    (append_line c.args.stream c.args.tuple)) c.self.view_is

pub returns-clause-position : goal.returns-clause-position
returns-clause-position c =
    let adds = added c in c.length-2.ensures ∙ sym (ap length adds.kept.appended)

pub returns-clause-closed : goal.returns-clause-closed
returns-clause-closed c = subst (TellsClosed (Ok c.length-2.result)) c.self.view_is
    (λ why. not_closed (Ok c.length-2.result) (value c.self.inside).lines c.self.inside.shut
    c.self.invariant.shut c.in_default.is why (λ same. cc))

pub returns-clause-sound : goal.returns-clause-sound
returns-clause-sound c = let adds = added c in adds.kept.sound
