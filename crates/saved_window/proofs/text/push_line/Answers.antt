use Rattle.tuple_text.specs.Written.{written}
use Rattle.saved_window.proofs.Texts.{in_stream}
use Rattle.saved_window.proofs.text.push_line.Goals as goal

pub returns-clause-stream : goal.returns-clause-stream
returns-clause-stream c =
    in_stream c.line_by_parts.ensures (written c.args.tuple.now) c.args.tuple.now c.in_ok-push_tuple.ensures.read
