use mir.Syntax.{of_param}
use denote.Exit.{unseen}
use denote.Param.Send.{Quiet-if}
use Rattle.rpq_threads.proofs.serving.feed_beside.Goals as goal

-- what the closure requires, and the bounds of the types
pub beside_readers-requires-clause-rest : goal.beside_readers-requires-clause-rest
beside_readers-requires-clause-rest g c κs within = (
  c.requires.start,
  (
    record {
      owned = c.type_bounds.send-K.owned;
      leaving = λ k. Quiet-if (k (of_param 0)) unseen unseen (λ x w. tt) (λ x w. tt);
    },
    record { shared = c.type_bounds.sync-G.shared },
    record { shared = c.type_bounds.sync-R.shared },
  ),
)
