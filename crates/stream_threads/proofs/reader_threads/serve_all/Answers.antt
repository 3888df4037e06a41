use Rattle.std.proofs.Common.{◌<◌, length, get_or, sym, ap, subst, ◌∙◌, arith}
use denote.Exit as exit
use denote.Param.Send.{param_send, param_sync, arg_send, arg_sync, shr_sync, shr_slice_sync}
use Rattle.stream_threads.specs.Live.{IsNewReaderWork}
use Rattle.stream_threads.proofs.Crossing.{five_sync, global_sync}
use Rattle.stream_threads.proofs.ReaderWorks.{given_back, served_so}
use Rattle.stream_threads.proofs.reader_threads.serve_all.Goals as goal

pub for_each_mut-requires-sync-F : goal.for_each_mut-requires-sync-F
for_each_mut-requires-sync-F g c κs within =
    five_sync 2 _ _ _ _ _ _ _ (shr_sync _ _ _ c.type_bounds.sync-R)
    (shr_sync _ _ _ global_sync) (shr_sync _ _ _ c.type_bounds.sync-G)
    (shr_sync _ _ _ c.threads_share_histories.ensures)
    (shr_slice_sync _ _ _ c.threads_share_queries.ensures)

pub for_each_mut-requires-clause-accepts : goal.for_each_mut-requires-clause-accepts
for_each_mut-requires-clause-accepts g c κs within = λ i p below same.
    let value = c.deref_mut.ensures.value in
    let there : i < length c.args.works.items = omega (arith, below, ap length value) in
    let Is = IsNewReaderWork g.S.Source.left g.S.Source.faults g.K.Sink.written g.K.Sink.faults
    c.args.shared.now.history.now in (
      subst Is (sym (same ∙ ap (λ works. get_or works i p.now) value))
          (c.requires.new i p.now there),
      (
        c.requires.queries,
        (
          c.requires.few,
          (
            param_send 0 _ (arg_send _ exit.no _ c.type_bounds.send-S),
            param_send 1 _ (arg_send _ exit.no _ c.type_bounds.send-K),
            param_sync 2 _ (arg_sync _ exit.no _ c.type_bounds.sync-G),
            param_sync 3 _ (arg_sync _ exit.no _ c.type_bounds.sync-R),
          ),
        ),
      ),
    )

pub returns-clause-each : goal.returns-clause-each
returns-clause-each g c = λ i d below.
    let value = c.deref_mut.ensures.value in
    let old = c.args.works.items in
    let new = c.for_each_mut.new.s in
    let back = given_back old new c.args.works.len (c.for_each_mut.auto.s ∙ ap length value)
    (omega (arith, c.args.works.ok.0)) in
    let there : i < length c.deref_mut.result.now = omega (arith, below, ap length value) in
    let left = (c.for_each_mut.ensures i d there).1 in
    served_so g.S.Source.left g.S.Source.faults g.K.Sink.written g.K.Sink.faults
    c.args.shared.now.history.now left.argument.now (get_or old i d) left.after_call.now _
    (left.argument_is ∙ ap (λ works. get_or works i d) value)
    (left.left ∙ ap (λ works. get_or works i d) (sym back)) left.call
