use Rattle.std.proofs.Common.{◌+◌, ◌<◌, ◌≤◌, ℕ, List, Option, Result, Bor, length, take, drop}
use Rattle.std.proofs.Common.{refl, sym, ap, subst, ◌∙◌, arith}
use Rattle.std.specs.Prelude.{IfOk, IfSome}
use Rattle.text_parts.specs.Lines.{line_length, without_return}
use Rattle.rpq_io.specs.declared.fault.LineFault.{LineFault}
use Rattle.rpq_io.specs.declared.fault.LineFault.TheVariants.{Memory}
use Rattle.rpq_io.proofs.FoundLines.{handed, same_fault, lent_found, lent_none, lent_fault, short_line}
use Rattle.rpq_io.proofs.ReaderSteps.{allowed_some}
use Rattle.rpq_io.proofs.line_reader.LineReader.lend_line.Goals as goal

pub returns-in_err-has_line : goal.returns-in_err-has_line
returns-in_err-has_line g c =
    let found = c.find_line in
    let fault = c.in_err-has_line.field-0.0 in
    let is = handed c.from_residual.result fault c.from_residual.ensures.1 in (
      (
        refl,
        λ _. tt,
        lent_fault g.S.Source.left g.S.Source.has_told_end g.S.Source.faults c.args.self.now
            found.new.self found.ensures.unread found.ensures.sound _ c.from_residual.result fault refl
            is found.ensures.kept c.in_err-has_line.ensures.faults c.in_err-has_line.ensures.cause,
      ),
      record {
        lent = tt;
        short = subst (λ (r : Result (Option (Bor (List ℕ))) LineFault). IfOk r (λ answer.
            IfSome answer (λ line. length line.now ≤ c.args.self.now.line_limit))) (sym is) tt;
        memory = λ met. c.in_err-has_line.ensures.memory
            (same_fault c.from_residual.result _ fault Memory is refl met);
      },
    )

pub returns-then-not-has_line : goal.returns-then-not-has_line
returns-then-not-has_line g c =
    let found = c.find_line in
    let quiet = c.in_ok-has_line.ensures.faults.quiet (λ met. cc) in (
      (
        refl,
        λ _. tt,
        lent_none g.S.Source.left g.S.Source.has_told_end g.S.Source.faults c.args.self.now
            found.new.self found.ensures.unread found.ensures.sound
            (c.in_ok-has_line.ensures.none c.if-not-has_line.true) quiet,
      ),
      record { lent = tt; short = tt; memory = λ met. cc met },
    )

pub remove_line-requires : goal.remove_line-requires
remove_line-requires g c =
    let found = c.find_line.new.self in
    let some : 0 < length found.held_bytes =
    allowed_some _ _ _ (c.in_ok-has_line.ensures.line c.if-not-has_line.false) in
    omega (arith, some, ap (λ reader. length reader.held_bytes) c.self.view_is)

pub returns : goal.returns
returns g c =
    let found = c.find_line in
    let allows = c.in_ok-has_line.ensures.line c.if-not-has_line.false in
    let quiet = c.in_ok-has_line.ensures.faults.quiet (λ met. cc) in
    let dropped = c.without_return.ensures.line ∙ (ap without_return c.removed_line.ensures
    ∙ (ap without_return c.remove_line.ensures.line
    ∙ ap (λ reader. without_return (take (line_length reader.held_bytes) reader.held_bytes))
    c.self.view_is)) in
    let short = short_line _ _ _ _ allows dropped in (
      (
        refl,
        λ _. tt,
        lent_found g.S.Source.left g.S.Source.has_told_end c.args.self.now found.new.self _
            found.ensures.kept found.ensures.sound allows
            (record {
              held = c.remove_line.ensures.bytes
                  ∙ ap (λ reader. drop (line_length reader.held_bytes + 1) reader.held_bytes)
                  c.self.view_is;
              counted = ap (λ reader. reader.line_count + 1) c.self.view_is;
              taken = record {
                source = ap (λ reader. reader.source) c.self.view_is;
                count = ap (λ reader. reader.taken_count) c.self.view_is;
                end = ap (λ reader. reader.is_at_end) c.self.view_is;
              };
              line_limit = ap (λ reader. reader.line_limit) c.self.view_is;
              byte_limit = ap (λ reader. reader.byte_limit) c.self.view_is;
            })
            g.S.Source.faults found.ensures.unread quiet c.without_return.result dropped,
      ),
      record {
        lent = tt;
        short = subst (λ most. length c.without_return.result.now ≤ most)
            found.ensures.sound.line_limit short;
        memory = λ met. cc met;
      },
    )
