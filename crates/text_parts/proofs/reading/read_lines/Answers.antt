use Rattle.std.proofs.Common.{◌+◌, ℕ, List, length, map, ap, sym, ◌∙◌, arith}
use Rattle.text_parts.specs.Lines.{without_return}
use Rattle.text_parts.proofs.LineByLine.{err_out, turn, stop, end}
use Rattle.text_parts.proofs.reading.read_lines.Goals as goal

pub loop-line-preserved : goal.loop-line-preserved
loop-line-preserved g c =
    let loop = c.loop-line in
    let step = g.R.TextReader.step c.args.reader.now in
    let shorter = c.in-Some.ensures.shorter in
    let counted = loop.invariant.counted in
    let line = ap (step (loop.count + 1) loop.progress) (sym c.without_return.ensures.line) in
    record {
      so_far = turn step loop.rest.now c.in-Some.line.now c.in-Some.after.now loop.progress _ loop.count _
          loop.invariant.so_far c.in-Some.ensures.first (line ∙ c.in_ok-progress.ensures.ok);
      counted = omega (arith, shorter, counted);
      numbered = omega (
        arith,
        loop.invariant.numbered,
        ap (λ (raw : List (List ℕ)). length (map without_return raw)) c.in-Some.ensures.first,
      );
    }

pub returns-in_err-progress-clause-err : goal.returns-in_err-progress-clause-err
returns-in_err-progress-clause-err g c =
    let loop = c.loop-line in
    let step = g.R.TextReader.step c.args.reader.now in
    let line = ap (step (loop.count + 1) loop.progress) (sym c.without_return.ensures.line) in
    err_out c.from_residual.result c.in_err-progress.field-0.0 _ c.from_residual.ensures.1 (λ told.
    stop step loop.rest.now c.in-Some.line.now c.in-Some.after.now loop.progress loop.count _ _
    loop.invariant.so_far c.in-Some.ensures.first (line ∙ c.in_err-progress.ensures.err told))

pub returns-clause-ok : goal.returns-clause-ok
returns-clause-ok g c =
    let loop = c.loop-line in
    end (g.R.TextReader.step c.args.reader.now) loop.rest.now loop.progress loop.count _ loop.invariant.so_far
    c.in_default.ensures.end

pub returns-clause-count : goal.returns-clause-count
returns-clause-count g c = omega (
  arith,
  c.loop-line.invariant.numbered,
  ap (λ (raw : List (List ℕ)). length (map without_return raw)) c.in_default.ensures.end,
)
