use denote.Exit as exit
use denote.Param.Send.{IsSend, param_send, arg_send, sendable}
use denote.Param.SendFields.{as_row_send, declared_send}
use Rattle.path_engine.specs.contracts.parts.Part.{the_row as part_row, the_type as part_type}
use Rattle.path_engine.proofs.sharing.threads_take_parts.Goals as goal

pub threads_take-requires-send-T : goal.threads_take-requires-send-T
threads_take-requires-send-T c κs =
    let part : IsSend part_row = declared_send part_type (
      search (sendable, as_row_send) depth 10,
      (
        search (sendable, as_row_send) depth 10,
        (c.threads_take_all_shares.ensures, tt),
      ),
    ) in
    param_send 0 _ (arg_send _ exit.yes _ part)
