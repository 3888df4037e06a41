use Rattle.std.proofs.Common.{◌≢◌, ◌+◌, [], ◌++◌, length, refl, sym, ap, ◌∙◌, subst, arith}
use Rattle.std.proofs.lemmas.List.Elements.{All-nil}
use Rattle.std.proofs.lemmas.Result.{err_from_is_err_and}
use Rattle.std.specs.Prelude.{OnErr}
use Rattle.rpq_io.specs.Reader.{StaysInLine}
use Rattle.text_parts.proofs.LineLengths.{line_length_within}
use Rattle.rpq_io.proofs.PassedLines.{stays_there, one_piece, still_line, passes_line, stays_in_line}
use Rattle.rpq_io.proofs.line_reader.LineReader.pass_long_line.Goals as goal

pub loop-self-init : goal.loop-self-init
loop-self-init g c =
    let old = c.args.self.now in
    record {
      gone = [];
      whole = All-nil (λ byte. byte ≢ 10);
      had = stays_there g.S.Source.left old;
      counted = refl;
      room = omega (
        arith,
        c.requires,
        line_length_within old.held_bytes,
        c.self.invariant.0.counted,
        ap (λ reader. reader.line_count) c.self.view_is,
        ap (λ reader. reader.taken_count) c.self.view_is,
        ap (λ reader. length reader.held_bytes) c.self.view_is,
      );
      line_limit = refl;
      byte_limit = refl;
      quiet = refl;
    }

pub loop-self-preserved : goal.loop-self-preserved
loop-self-preserved g c =
    let old = c.args.self.now in
    let middle = c.loop-self.self in
    let new = c.pass_piece.new.self in
    let was = c.loop-self.invariant in
    let did = c.in_ok-pass_piece.ensures in
    record {
      gone = was.gone ++ did.had.gone;
      whole = still_line middle was.gone did.had.gone (c.is_line_open.ensures.0 c.loop-self-test.true)
          was.whole did.had.of_line;
      had = one_piece g.S.Source.left old middle new was.gone did.had.gone was.had did.had.had did.had.of_line;
      counted = did.had.counted ∙ was.counted;
      room = omega (arith, was.room, did.had.counted, did.had.had.counted);
      line_limit = did.sound.line_limit ∙ was.line_limit;
      byte_limit = did.sound.byte_limit ∙ was.byte_limit;
      quiet = did.faults.quiet (λ met. cc) ∙ was.quiet;
    }

pub returns-in_err-pass_piece-clause-err : goal.returns-in_err-pass_piece-clause-err
returns-in_err-pass_piece-clause-err g c =
    let old = c.args.self.now in
    let middle = c.loop-self.self in
    let new = c.pass_piece.new.self in
    let was = c.loop-self.invariant in
    let did = c.in_err-pass_piece.ensures in
    let is = err_from_is_err_and c.from_residual.result c.from_residual.ensures.1 in
    subst (λ r. OnErr r (StaysInLine g.S.Source.left old new)) (sym is.1)
    (stays_in_line g.S.Source.left old new (was.gone ++ did.had.gone)
    (still_line middle was.gone did.had.gone (c.is_line_open.ensures.0 c.loop-self-test.true)
    was.whole did.had.of_line)
    (one_piece g.S.Source.left old middle new was.gone did.had.gone was.had did.had.had did.had.of_line)
    did.open (did.had.counted ∙ was.counted))

pub returns-clause-ok : goal.returns-clause-ok
returns-clause-ok g c =
    let old = c.args.self.now in
    let middle = c.loop-self.self in
    let new = c.end_line.new.self in
    let was = c.loop-self.invariant in
    passes_line g.S.Source.left old middle new was.gone was.whole was.had
    (omega (arith, c.requires, line_length_within old.held_bytes))
    c.end_line.ensures.line c.end_line.ensures.sound.over
    (c.end_line.ensures.line.counted ∙ ap (λ n. n + 1) was.counted)
    (λ is_open. cc (c.is_line_open.ensures.1 is_open))

pub returns-clause-sound : goal.returns-clause-sound
returns-clause-sound g c =
    let was = c.loop-self.invariant in
    let sound = c.end_line.ensures.sound in
    record {
      line_limit = sound.line_limit ∙ was.line_limit;
      byte_limit = sound.byte_limit ∙ was.byte_limit;
      within = sound.within;
      fewer = sound.fewer;
      told = sound.told;
      over = sound.over;
      before_limit = sound.before_limit;
    }
