-- What threads may share or hand over: what a closure holds or gives, where they may each of it.
use Prim.Native.Nat.{ℕ}
use mathlib.Core.List.{[], ◌∷◌}
use mir.Syntax.{Sym, Ty}
use denote.Exit as exit
use denote.RattleType.{RattleType}
use denote.Param.{param, arg}
use denote.Param.Send.{IsSend, IsSync, recorded_send, struct_send, sendable}
use denote.Struct.Declared.{shape}
use denote.Struct.Struct.{Struct}
use denote.Struct.Tuple.{TupleAt}
use Rattle.std.specs.contracts.alloc.Global.{the_row}
use Rattle.history_model.specs.contracts.line.Line.{the_row as line_row}
use Rattle.turn_lock.specs.contracts.pass.Pass.{the_row as pass_row}
use Rattle.stream_history.specs.contracts.journal.Journal.{the_row as journal_row}
use Rattle.stream_history.specs.contracts.terms.Terms.{the_row as terms_row}
use Rattle.stream_history.specs.contracts.terms.JournalKept.TheImpl.{ghosts}
use Rattle.stream_threads.specs.contracts.stream_worker.StreamResult.{the_row as result_row, the_type as result_type}

pub global_sync : IsSync the_row
global_sync = search sendable depth 20

module _ (i : ℕ) (δ : Ty) (ν : Sym) (A B C D E : RattleType) where
  pub five_sync : IsSync A → IsSync B → IsSync C → IsSync D → IsSync E →
      IsSync (param i (arg δ exit.no (TupleAt ν (A ∷ B ∷ C ∷ D ∷ E ∷ []))))
  five_sync a b c d e = search sendable depth 20

-- what the worker of a stream gives, where its pass, its source and its sink may be handed over
pub result_send : (S K : RattleType) → IsSend (pass_row journal_row line_row terms_row ghosts) →
    IsSend S → IsSend K → IsSend (result_row S K)
result_send S K pass source sink =
    let result = result_type S K in
    recorded_send (Struct (shape result)) result.D result.to result.to_one
    (struct_send (shape result) (
      pass,
      (source, (search sendable depth 20, (search sendable depth 20, tt))),
    ))
