use Rattle.std.proofs.Common.{◌≡◌, inl, inr, ⊎_elim}
use Rattle.std.specs.Cmp.{booleans_Decides}
use Rattle.join_bindings.proofs.touched.add_if.Goals as goal

pub returns-in_ok-add_by_event : goal.returns-in_ok-add_by_event
returns-in_ok-add_by_event c = λ names.
    let both = c.in_ok-add_by_event.ensures names in
    let same : c.args.event.now.added ≡ c.args.added =
    (booleans_Decides c.args.event.now.added c.args.added).0 c.if-event-added.true in (
      (λ new. ⊎_elim (λ old. inl old) (λ here. inr (same, here)) (both.0 new)),
      (λ either. both.1 (⊎_elim (λ old. inl old) (λ here. inr here.1) either)),
    )
