use Rattle.std.proofs.Common.{inl, inr, ⊎_elim}
use Rattle.join_bindings.proofs.found.add_touched.Goals as goal

pub returns : goal.returns
returns c = λ each.
    let now = c.in_ok-add_bindings.ensures each in
    let given = c.in_ok-bindings.ensures each.binding in (
      (λ member. ⊎_elim (λ old. inl old) (λ of. inr (of.0, of.1, given.0 of.2)) (now.0 member)),
      (λ either. now.1 (⊎_elim (λ old. inl old) (λ of. inr (of.0, of.1, given.1 of.2)) either)),
    )
