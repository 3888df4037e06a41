use denote.Exit as exit
use denote.Param.Send.{IsSend, param_send, arg_send, sendable}
use denote.Param.SendFields.{as_row_send, declared_send}
use Rattle.path_engine.specs.contracts.front.Share.{the_row as share_row, the_type as share_type}
use Rattle.path_engine.proofs.sharing.threads_take_shares.Goals as goal

pub threads_take-requires-send-T : goal.threads_take-requires-send-T
threads_take-requires-send-T c κs =
    let share : IsSend share_row = declared_send share_type (
      search (sendable, as_row_send) depth 10,
      (
        search (sendable, as_row_send) depth 10,
        (c.threads_take_indexes.ensures, (c.threads_take_events.ensures, tt)),
      ),
    ) in
    param_send 0 _ (arg_send _ exit.yes _ share)
