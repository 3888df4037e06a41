use denote.Exit as exit
use denote.Param.Send.{param_send, arg_send}
use Rattle.stream_threads.proofs.Crossing.{result_send}
use Rattle.stream_threads.proofs.stream_thread.start_stream.Goals as goal

pub spawn_with-requires-send-T : goal.spawn_with-requires-send-T
spawn_with-requires-send-T g c κs within =
    param_send 3 _ (arg_send _ exit.no _ (result_send _ _ c.threads_take_passes.ensures
    c.type_bounds.send-S c.type_bounds.send-K))
