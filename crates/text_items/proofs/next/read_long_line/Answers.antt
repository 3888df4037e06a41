use Rattle.std.proofs.Common.{◌≡◌, sym, subst, inl, inr}
use Rattle.std.specs.Prelude.{IfErr}
use Rattle.std.proofs.lemmas.Result.{err_from_is_err_and}
use Rattle.rpq_io.specs.Reader.{IsPassFault}
use Rattle.rpq_io.specs.declared.fault.LineFault.{LineFault}
use Rattle.text_items.specs.Progress.{EndsReading}
use Rattle.text_items.proofs.Steps.{long_line_ends, long_line_read, long_line_unread, long_line_cut}
use Rattle.text_items.proofs.next.read_long_line.Goals as goal

pub returns-in_err-found-clause-err : goal.returns-in_err-found-clause-err
returns-in_err-found-clause-err g c =
    let reading = g.L.LineItems.reading c.args.lines.now in
    let left = g.S.Source.left in
    let old = c.args.reader.now in
    let is = err_from_is_err_and c.from_residual.result c.from_residual.ensures.1 in
    let ends = long_line_ends reading left old c.requires.sound c.args.number c.requires.number
    c.requires.long c.front.result.now c.front.ensures c.in_err-found.field-0.0 c.in_err-found.ensures.err in
    subst (λ r. IfErr r (EndsReading reading left old old)) (sym is.1)
    (subst (λ e. EndsReading reading left old old e) (sym is.2) ends)

pub returns-in-Ok-clause-ok : goal.returns-in-Ok-clause-ok
returns-in-Ok-clause-ok g c =
    long_line_read (g.L.LineItems.reading c.args.lines.now) g.S.Source.left c.args.reader.now
    c.requires.sound c.args.number c.requires.number c.requires.long c.front.result.now c.front.ensures
    g.S.Source.has_told_end c.pass_long_line.new.self c.pass_long_line.ensures.sound
    c.in_ok-found.found c.in_ok-found.ensures.ok c.in-Ok.ensures.ok

pub returns-in-Err-Read-clause-err : goal.returns-in-Err-Read-clause-err
returns-in-Err-Read-clause-err g c =
    long_line_unread (g.L.LineItems.reading c.args.lines.now) g.S.Source.left c.args.reader.now
    c.requires.sound c.args.number c.requires.number c.requires.long c.front.result.now c.front.ensures
    g.S.Source.has_told_end c.pass_long_line.new.self c.pass_long_line.ensures.sound
    c.in_ok-found.found c.in_ok-found.ensures.ok c.in-Err-Read.ensures.err

pub returns-in-Err-LongStream-clause-err : goal.returns-in-Err-LongStream-clause-err
returns-in-Err-LongStream-clause-err g c =
    let new = c.pass_long_line.new.self in
    let cause : (fault : LineFault) → fault ≡ LineFault.LongStream → IsPassFault new fault
    → new.taken_count ≡ new.byte_limit = λ fault is which. elim which [
      | inl met ↦ absurd (cc)
      | inr full ↦ full.1
    ] in
    long_line_cut (g.L.LineItems.reading c.args.lines.now) g.S.Source.left c.args.reader.now
    c.requires.sound c.args.number c.requires.number c.requires.long c.front.result.now c.front.ensures
    g.S.Source.has_told_end new c.pass_long_line.ensures.sound
    c.in_ok-found.found c.in_ok-found.ensures.ok c.in-Err-LongStream.ensures.err
    (cause _ c.in-Err-LongStream.field-0-is c.in-Err-LongStream.ensures.cause)
