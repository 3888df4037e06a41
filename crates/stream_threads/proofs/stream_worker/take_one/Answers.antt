use Rattle.std.proofs.Common.{refl}
use Rattle.stream_threads.proofs.Taken.{met_end, tuple_taken, tuple_refused, fault_taken, fault_unwritten}
use Rattle.stream_threads.proofs.stream_worker.take_one.Goals as goal

pub returns-in-Err-clause-err : goal.returns-in-Err-clause-err
returns-in-Err-clause-err g c =
    let old = c.args.input.now in
    let pass = c.args.pass.now in
    met_end g.S.Source.left g.K.Sink.written old _ pass pass _ c.policy_of_sink-policy.ensures
    c.args.shared.now.history.now c.in-Err.end c.in-Err.ensures.err refl refl

pub returns-in-Tuple-clause-ok : goal.returns-in-Tuple-clause-ok
returns-in-Tuple-clause-ok g c =
    let old = c.args.input.now in
    let pass = c.args.pass.now in
    tuple_taken g.S.Source.left g.K.Sink.written old _ pass _ _ c.policy_of_sink-policy.ensures
    c.in-Ok.item c.in-Tuple.tuple c.in-Ok.ensures.ok c.in-Tuple.is refl c.append_tuple.result
    c.append_tuple.ensures.ok

pub returns-in-Tuple-clause-err : goal.returns-in-Tuple-clause-err
returns-in-Tuple-clause-err g c =
    let old = c.args.input.now in
    let pass = c.args.pass.now in
    tuple_refused g.S.Source.left g.K.Sink.written old _ pass _ _ c.policy_of_sink-policy.ensures
    c.in-Ok.item c.in-Tuple.tuple c.in-Ok.ensures.ok c.in-Tuple.is refl
    c.args.shared.now.history.now c.append_tuple.result c.append_tuple.ensures.err
    c.append_tuple.ensures.cause

pub returns-in-Fault-clause-ok : goal.returns-in-Fault-clause-ok
returns-in-Fault-clause-ok g c =
    let old = c.args.input.now in
    let pass = c.args.pass.now in
    fault_taken g.S.Source.left g.K.Sink.written old _ pass pass _ c.policy_of_sink-policy.ensures
    c.in-Ok.item c.in-Fault.report c.in-Ok.ensures.plain c.in-Ok.ensures.ok c.in-Fault.is
    c.put_report.ensures.there refl c.put_report.result c.put_report.ensures.ok

pub returns-in-Fault-clause-err : goal.returns-in-Fault-clause-err
returns-in-Fault-clause-err g c =
    let old = c.args.input.now in
    let pass = c.args.pass.now in
    fault_unwritten g.S.Source.left g.K.Sink.written old _ pass pass _
    c.policy_of_sink-policy.ensures c.in-Ok.item c.in-Fault.report c.in-Ok.ensures.plain
    c.in-Ok.ensures.ok c.in-Fault.is c.put_report.ensures.there refl
    c.args.shared.now.history.now c.put_report.result c.put_report.ensures.err
    c.put_report.ensures.only
