use Rattle.stream_threads.proofs.ReaderWorks.{have_served}
use Rattle.stream_threads.proofs.reader_threads.beside_readers.Goals as goal

pub returns-clause-served : goal.returns-clause-served
returns-clause-served g c = λ from passes.
    have_served g.S.Source.left g.S.Source.faults g.K.Sink.written g.K.Sink.faults
    c.args.shared.now.history.now c.args.works.items c.join.result.0.items
    c.join.ensures.first.0 c.join.ensures.first.1 from passes
