use denote.Exit as exit
use denote.Param.Send.{IsSend, param_send, arg_send, view_send}
use denote.Param.SendFields.{declared_send, variants_send, VariantsHave}
use Rattle.query_index.specs.contracts.root_list.RootList.{the_row as list_row}
use Rattle.query_index.specs.contracts.root_list.RootList.TheInside.{the_type as list_type}
use Rattle.query_index.specs.contracts.stale.StaleRoots.{the_row as stale_row, the_type as stale_type, enum as stale_enum}
use Rattle.query_index.specs.contracts.index.QueryIndex.{the_row as query_row}
use Rattle.query_index.specs.contracts.index.QueryIndex.TheInside.{the_type as inside_type}
use Rattle.path_engine.proofs.sharing.threads_take_indexes.Goals as goal

pub threads_take-requires-send-T : goal.threads_take-requires-send-T
threads_take-requires-send-T c κs =
    let rows = c.threads_take_rows.ensures in
    let roots = c.threads_take_roots.ensures in
    let list : IsSend list_row =
    view_send _ _ _ _ _ (declared_send list_type (roots.numbers, (roots.flags, tt))) in
    let kinds : VariantsHave IsSend stale_type.parts = (tt, ((list, tt), tt)) in
    let stale : IsSend stale_row = variants_send stale_enum kinds in
    let index : IsSend query_row = view_send _ _ _ _ _ (declared_send inside_type (
      rows.clock,
      (c.threads_take_forests.ensures, (rows.rows, (stale, tt))),
    )) in
    param_send 0 _ (arg_send _ exit.yes _ index)
