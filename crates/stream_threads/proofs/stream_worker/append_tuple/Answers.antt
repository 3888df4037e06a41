use Rattle.std.proofs.Common.{Err, ap, ◌∙◌, arith}
use Rattle.stream_history.specs.declared.fault.AppendFault.{AppendFault}
use Rattle.stream_threads.specs.Streams.{tuples_of}
use Rattle.stream_threads.proofs.Appending.{tuples_push}
use Rattle.stream_threads.proofs.stream_worker.append_tuple.Goals as goal

pub returns-in-Ok-clause-ok : goal.returns-in-Ok-clause-ok
returns-in-Ok-clause-ok g c =
    let old = c.args.pass.now in
    ap tuples_of c.in-Ok.ensures.line.mine ∙ tuples_push old.mine old.number c.args.tuple

pub returns-in-Err-Closed-clause-cause : goal.returns-in-Err-Closed-clause-cause
returns-in-Err-Closed-clause-cause g c =
    let said = c.in-Err-Closed.is ∙ ap (λ (f : AppendFault). Err f) c.in-Err-Closed.field-0-is in
    (c.append.ensures.closed c.in-Err-Closed.why).0 said

pub returns-in-Err-Full-clause-cause : goal.returns-in-Err-Full-clause-cause
returns-in-Err-Full-clause-cause g c =
    let said = ap (λ (f : AppendFault). Err f) c.in-Err-Full.field-0-is in
    let full = (c.in-Err-Full.ensures.full c.in-Err-Full._limit).0 said in
    omega (arith, full.cap_is, full.full)
