use denote.Exit as exit
use denote.Param.Send.{IsSend, param_send, arg_send, view_send, sendable}
use denote.Param.SendFields.{as_row_send, declared_send}
use Rattle.delta_forest.specs.contracts.index.Index.{the_row as index_row, the_type as index_type}
use Rattle.delta_forest.specs.contracts.index.Findings.{the_row as findings_row, the_type as findings_type}
use Rattle.delta_forest.specs.contracts.index.ForestState.{the_row as state_row, the_type as state_type}
use Rattle.delta_forest.specs.contracts.forest.Forest.{the_row as forest_row}
use Rattle.delta_forest.specs.contracts.forest.Forest.TheInside.{the_type as inside_type}
use Rattle.path_engine.proofs.sharing.threads_take_forests.Goals as goal

pub threads_take-requires-send-T : goal.threads_take-requires-send-T
threads_take-requires-send-T c κs =
    let lists = c.threads_take_lists.ensures in
    let tables = c.threads_take_tables.ensures in
    let stores = c.threads_take_stores.ensures in
    let index : IsSend index_row =
    declared_send index_type (tables.table, (tables.holders, (tables.dues, tt))) in
    let findings : IsSend findings_row =
    declared_send findings_type (lists.numbers, (lists.changes, tt)) in
    let state : IsSend state_row = declared_send state_type (
      stores.store,
      (
        index,
        (
          lists.numbers,
          (findings, (search (sendable, as_row_send) depth 10, tt)),
        ),
      ),
    ) in
    let forest : IsSend forest_row = view_send _ _ _ _ _ (declared_send inside_type (
      lists.heap,
      (stores.dfa, (lists.numbers, (state, (search (sendable, as_row_send) depth 10, tt)))),
    )) in
    param_send 0 _ (arg_send _ exit.yes _ forest)
