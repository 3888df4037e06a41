use mir.Syntax.{of_param}
use denote.Exit.{unseen}
use denote.Param.Send.{Quiet-if}
use Rattle.rpq_threads.proofs.serving.serve.Goals as goal

-- what the closure requires, and the bounds of the types, of which `search` reads too little
pub scoped-requires : goal.scoped-requires
scoped-requires g c = record {
  at = λ scope. (
    c.requires,
    (
      record {
        owned = c.type_bounds.send-S.owned;
        leaving = λ k. Quiet-if (k (of_param 0)) unseen unseen (λ x w. tt) (λ x w. tt);
      },
      record {
        owned = c.type_bounds.send-A.owned;
        leaving = λ k. Quiet-if (k (of_param 1)) unseen unseen (λ x w. tt) (λ x w. tt);
      },
      record {
        owned = c.type_bounds.send-K.owned;
        leaving = λ k. Quiet-if (k (of_param 2)) unseen unseen (λ x w. tt) (λ x w. tt);
      },
      record { shared = c.type_bounds.sync-G.shared },
      record { shared = c.type_bounds.sync-R.shared },
    ),
  );
}
