use Rattle.std.proofs.Common.{subst, ◌<◌}
use Rattle.std.proofs.lemmas.Result.{IfOk-weaker}
use Rattle.text_parts.specs.Lines.{line_length}
use Rattle.rpq_io.proofs.TextAhead.{loses_nothing, finds_end, long_line_of_text}
use Rattle.rpq_io.proofs.line_reader.LineReader.find_line.Goals as goal

pub returns-clause-none : goal.returns-clause-none
returns-clause-none g c =
    let loop = c.loop-self.invariant in
    IfOk-weaker c.has_line.result _ _ (λ has_line over none.
    finds_end g.S.Source.left c.args.self.now c.loop-self.self loop.had loop.counted
    (over none).0 (over none).1 (c.has_line.ensures.sound.over (over none).0))
    c.has_line.ensures.none

pub returns-clause-kept : goal.returns-clause-kept
returns-clause-kept g c =
    let loop = c.loop-self.invariant in
    loses_nothing g.S.Source.left c.args.self.now c.loop-self.self loop.had loop.counted

pub returns-clause-cause : goal.returns-clause-cause
returns-clause-cause g c =
    let cause = c.has_line.ensures.cause in
    let loop = c.loop-self.invariant in
    record {
      read = λ met. absurd (cause.read met);
      long_line = λ met.
          let first = subst (λ most. most < line_length c.loop-self.self.held_bytes)
          loop.line_limit (cause.long_line met) in
          record {
            long = first;
            text = long_line_of_text g.S.Source.left c.args.self.now c.loop-self.self _ loop.had first;
          };
      long_stream = cause.long_stream;
    }
