use Rattle.std.proofs.Common.{rules, take, drop, sym, ◌∙◌, take-append-drop}
use Rattle.rpq_io.specs.Writes.{WritesProperPrefix}
use Rattle.rpq_io.proofs.Bytes.{append_known_more, drop-nonempty}
use Rattle.rpq_io.proofs.whole.put_all.Goals as goal

pub returns-in_err-done-clause-err : goal.returns-in_err-done-clause-err
returns-in_err-done-clause-err g c =
    let part : WritesProperPrefix c.args.bytes.now (g.S.Sink.written c.args.sink.now)
    (g.S.Sink.written c.write.new.self) = record {
      front = take c.loop-done.done c.args.bytes.now;
      rest = drop c.loop-done.done c.args.bytes.now;
      cut = sym (take-append-drop c.loop-done.done c.args.bytes.now);
      proper = drop-nonempty c.loop-done.done c.args.bytes.now c.loop-done-test.true;
      written = c.in_err-done.ensures.err ∙ c.loop-done.invariant.written;
    } in
    search (rules, part)

pub loop-done-preserved : goal.loop-done-preserved
loop-done-preserved g c = record {
  within = search rules;
  written = append_known_more _ _ _ c.loop-done.done _ c.args.bytes.now c.loop-done.invariant.written c.in_ok-done.ensures.given;
  quiet = search rules;
}
