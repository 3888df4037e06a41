use Rattle.std.proofs.Common.{◌≡◌, ◌+◌, ℕ, List, Option, Result, Ok, Err, Bor, ap, subst, ◌∙◌}
use Rattle.std.specs.Prelude.{option_to_list, IfOk, IfSome, IfNone, OnErr}
use Rattle.std.proofs.lemmas.Result.{IfOk-weaker, IfErr-weaker}
use Rattle.rpq_io.specs.Reader.{GivesLine, IsAtEnd, LosesNothing}
use Rattle.rpq_io.specs.declared.fault.LineFault.{LineFault}
use Rattle.text_items.specs.Reading.{EndsLine}
use Rattle.text_items.specs.Progress.{ReadsOn, EndsReading}
use Rattle.text_items.proofs.Reading.{ends_whole, ends_long_text, ends_read}
use Rattle.text_items.proofs.Steps.{line_read, line_ends, then_reads, then_ends}
use Rattle.text_items.proofs.next.read_line.Goals as goal

-- what a call of the reader answers
abbrev Answer : Type 0
Answer = Result (Option (Bor (List ℕ))) LineFault

pub returns-in-Ok-Some-clause-ok : goal.returns-in-Ok-Some-clause-ok
returns-in-Ok-Some-clause-ok g c =
    let reading = g.L.LineItems.reading c.args.lines.now in
    let left = g.S.Source.left in
    let old = c.args.reader.now in
    let new = c.lend_line.follows.lender-at-none in
    let n = c.lend_line.follows.holds-at-none in
    let line = c.in-Ok-Some.line.now in
    let is = c.in-Ok-Some.is ∙ ap (λ (answer : Option (Bor (List ℕ))). Ok answer) c.in-Ok-Some.field-0-is in
    let gives : GivesLine left old new line =
    subst (λ (r : Answer). IfOk r (λ answer. IfSome answer (λ lent. GivesLine left old new lent.now))) is n.line in
    let number = c.lines-number.result + 1 in
    let numbered : number ≡ old.line_count + 1 = ap (λ k. k + 1) c.lines-number.ensures in
    IfOk-weaker c.of_line.result
    (λ found. reading.line number line ≡ Ok found)
    (λ found. ReadsOn reading left old new (option_to_list found))
    (line_read reading left g.S.Source.has_told_end old new c.requires.sound n.sound n.unread number
    numbered line gives)
    c.of_line.ensures.ok

pub returns-in-Ok-Some-clause-err : goal.returns-in-Ok-Some-clause-err
returns-in-Ok-Some-clause-err g c =
    let reading = g.L.LineItems.reading c.args.lines.now in
    let left = g.S.Source.left in
    let old = c.args.reader.now in
    let new = c.lend_line.follows.lender-at-none in
    let n = c.lend_line.follows.holds-at-none in
    let line = c.in-Ok-Some.line.now in
    let is = c.in-Ok-Some.is ∙ ap (λ (answer : Option (Bor (List ℕ))). Ok answer) c.in-Ok-Some.field-0-is in
    let gives : GivesLine left old new line =
    subst (λ (r : Answer). IfOk r (λ answer. IfSome answer (λ lent. GivesLine left old new lent.now))) is n.line in
    let number = c.lines-number.result + 1 in
    let numbered : number ≡ old.line_count + 1 = ap (λ k. k + 1) c.lines-number.ensures in
    IfErr-weaker c.of_line.result
    (EndsLine (reading.line number line))
    (EndsReading reading left old new)
    (line_ends reading left g.S.Source.has_told_end old new c.requires.sound n.sound n.unread number
    numbered line gives)
    c.of_line.ensures.err

pub returns-in-Ok-None-clause-err : goal.returns-in-Ok-None-clause-err
returns-in-Ok-None-clause-err g c =
    let reading = g.L.LineItems.reading c.args.lines.now in
    let left = g.S.Source.left in
    let old = c.args.reader.now in
    let new = c.lend_line.follows.lender-at-none in
    let n = c.lend_line.follows.holds-at-none in
    let is = c.in-Ok-None.is ∙ ap (λ (answer : Option (Bor (List ℕ))). Ok answer) c.in-Ok-None.field-0-is in
    let ends : IsAtEnd left old new =
    subst (λ (r : Answer). IfOk r (λ answer. IfNone answer (IsAtEnd left old new))) is n.none in
    record {
      tied = λ file items read.
          ends_whole reading left g.S.Source.has_told_end old new c.requires.sound n.sound n.unread
          file items ends read;
      met = tt;
    }

pub returns-in-Err-Read-clause-err : goal.returns-in-Err-Read-clause-err
returns-in-Err-Read-clause-err g c =
    let reading = g.L.LineItems.reading c.args.lines.now in
    let left = g.S.Source.left in
    let old = c.args.reader.now in
    let new = c.lend_line.follows.lender-at-none in
    let n = c.lend_line.follows.holds-at-none in
    let is = c.in-Err-Read.is ∙ ap (λ (f : LineFault). Err f) c.in-Err-Read.field-0-is in
    let loses : LosesNothing left old new =
    subst (λ (r : Answer). OnErr r (LosesNothing left old new)) is n.err in
    record {
      tied = λ file items read.
          ends_read reading left g.S.Source.has_told_end old new c.requires.sound n.sound n.unread
          file items loses (n.cause.read is) read;
      met = tt;
    }

pub returns-in-Err-LongLine-clause-ok : goal.returns-in-Err-LongLine-clause-ok
returns-in-Err-LongLine-clause-ok g c =
    let reading = g.L.LineItems.reading c.args.lines.now in
    let left = g.S.Source.left in
    let old = c.args.reader.now in
    let middle = c.lend_line.follows.lender-at-none in
    let new = c.read_long_line.new.reader in
    let n = c.lend_line.follows.holds-at-none in
    let is = c.in-Err-LongLine.is ∙ ap (λ (f : LineFault). Err f) c.in-Err-LongLine.field-0-is in
    let loses : LosesNothing left old middle =
    subst (λ (r : Answer). OnErr r (LosesNothing left old middle)) is n.err in
    IfOk-weaker c.read_long_line.result
    (λ found. ReadsOn reading left middle new (option_to_list found))
    (λ found. ReadsOn reading left old new (option_to_list found))
    (λ found. then_reads reading left g.S.Source.has_told_end old middle new c.requires.sound n.sound
    n.unread loses (option_to_list found))
    c.read_long_line.ensures.ok

pub returns-in-Err-LongLine-clause-err : goal.returns-in-Err-LongLine-clause-err
returns-in-Err-LongLine-clause-err g c =
    let reading = g.L.LineItems.reading c.args.lines.now in
    let left = g.S.Source.left in
    let old = c.args.reader.now in
    let middle = c.lend_line.follows.lender-at-none in
    let new = c.read_long_line.new.reader in
    let n = c.lend_line.follows.holds-at-none in
    let is = c.in-Err-LongLine.is ∙ ap (λ (f : LineFault). Err f) c.in-Err-LongLine.field-0-is in
    let loses : LosesNothing left old middle =
    subst (λ (r : Answer). OnErr r (LosesNothing left old middle)) is n.err in
    IfErr-weaker c.read_long_line.result
    (EndsReading reading left middle new)
    (EndsReading reading left old new)
    (then_ends reading left g.S.Source.has_told_end old middle new c.requires.sound n.sound n.unread loses)
    c.read_long_line.ensures.err

pub returns-in-Err-LongStream-clause-err : goal.returns-in-Err-LongStream-clause-err
returns-in-Err-LongStream-clause-err g c =
    let reading = g.L.LineItems.reading c.args.lines.now in
    let left = g.S.Source.left in
    let old = c.args.reader.now in
    let new = c.lend_line.follows.lender-at-none in
    let n = c.lend_line.follows.holds-at-none in
    let is = c.in-Err-LongStream.is ∙ ap (λ (f : LineFault). Err f) c.in-Err-LongStream.field-0-is in
    let loses : LosesNothing left old new =
    subst (λ (r : Answer). OnErr r (LosesNothing left old new)) is n.err in
    record {
      tied = λ file items read.
          ends_long_text reading left g.S.Source.has_told_end old new c.requires.sound n.sound n.unread
          file items loses (n.cause.long_stream is) read;
      met = tt;
    }
