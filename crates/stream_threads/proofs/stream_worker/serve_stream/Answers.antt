use Rattle.stream_threads.proofs.Streaming.{has_streamed}
use Rattle.stream_threads.proofs.stream_worker.serve_stream.Goals as goal

pub returns : goal.returns
returns g c =
    let did = c.take_all-end.ensures in
    has_streamed g.S.Source.left g.S.Source.faults g.K.Sink.written g.K.Sink.faults
    c.args.shared.now.history.now c.args.input c.take_all-end.new.input c.args.pass
    c.take_all-end.new.pass c.end_stream.new.pass _ c.take_all-end.result did.number did.taken
    c.end_stream.ensures c.into_source.ensures
