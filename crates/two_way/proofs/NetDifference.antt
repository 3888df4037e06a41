-- The net of two differences is a difference.
use Rattle.std.proofs.Common.{◌≡◌, Bool, true, false, not, List, refl, sym, ap, ◌∙◌, ◌⊎◌, inl, inr, ⊎_elim}
use Rattle.std.specs.Prelude.{Contains}
use Rattle.std.proofs.lemmas.Bool.{false≢true}
use Rattle.rpq_base.specs.declared.data.Pair.{Pair}
use Rattle.rpq_base.specs.declared.data.Event.{Event}
use Rattle.rpq_model.specs.EventLaws.{IsChange}
use Rattle.rpq_model.proofs.Pairs.{has, has_iff}
use Rattle.two_way.specs.Laws.{NetIsDifference}
use Rattle.two_way.specs.Net.{opposite, Stays}

-- a pair is among others or not
there_or_not : (pairs : List Pair) (pair : Pair) → Contains pairs pair ⊎ (Contains pairs pair → ⊥)
there_or_not pairs pair = by_test (has pairs pair) refl
  where
    by_test : (test : Bool) → has pairs pair ≡ test → Contains pairs pair ⊎ (Contains pairs pair → ⊥)
    by_test true is = inl ((has_iff pairs pair).0 is)
    by_test false is = inr (λ member. false≢true (sym is ∙ (has_iff pairs pair).1 member))

pub net_is_difference : NetIsDifference
net_is_difference before middle after first second events one two net = record {
  sorted = net.sorted;
  exact = λ each. ((λ member. to each ((net.exact each).0 member)), (λ change. (net.exact each).1 (from each change)));
}
  where
    to : (each : Event) → Stays first second each ⊎ Stays second first each → IsChange (Contains (before each.query)) (Contains (after each.query)) each
    to each either = ⊎_elim
        (λ stays. ⊎_elim
        (λ loss. inl (loss.0, loss.1, λ back. stays.1 ((two.exact (opposite each)).1 (inr (ap not loss.0, back, loss.2)))))
        (λ gain. ⊎_elim
        (λ there. inr (gain.0, there, gain.2))
        (λ gone. absurd (stays.1 ((two.exact (opposite each)).1 (inl (ap not gain.0, gain.1, gone)))))
        (there_or_not (after each.query) each.pair))
        ((one.exact each).0 stays.0))
        (λ stays. ⊎_elim
        (λ loss. ⊎_elim
        (λ there. inl (loss.0, there, loss.2))
        (λ absent. absurd (stays.1 ((one.exact (opposite each)).1 (inr (ap not loss.0, loss.1, absent)))))
        (there_or_not (before each.query) each.pair))
        (λ gain. inr (gain.0, gain.1, λ back. stays.1 ((one.exact (opposite each)).1 (inl (ap not gain.0, back, gain.2)))))
        ((two.exact each).0 stays.0))
        either

    from : (each : Event) → IsChange (Contains (before each.query)) (Contains (after each.query)) each → Stays first second each ⊎ Stays second first each
    from each change = ⊎_elim
        (λ loss. ⊎_elim
        (λ there. inr (
          (two.exact each).1 (inl (loss.0, there, loss.2)),
          λ undone. ⊎_elim (λ lost. lost.2 there) (λ gained. gained.2 loss.1) ((one.exact (opposite each)).0 undone),
        ))
        (λ absent. inl (
          (one.exact each).1 (inl (loss.0, loss.1, absent)),
          λ undone. ⊎_elim (λ lost. absent lost.1) (λ gained. loss.2 gained.1) ((two.exact (opposite each)).0 undone),
        ))
        (there_or_not (middle each.query) each.pair))
        (λ gain. ⊎_elim
        (λ there. inl (
          (one.exact each).1 (inr (gain.0, there, gain.2)),
          λ undone. ⊎_elim (λ lost. lost.2 gain.1) (λ gained. gained.2 there) ((two.exact (opposite each)).0 undone),
        ))
        (λ absent. inr (
          (two.exact each).1 (inr (gain.0, gain.1, absent)),
          λ undone. ⊎_elim (λ lost. gain.2 lost.1) (λ gained. absent gained.1) ((one.exact (opposite each)).0 undone),
        ))
        (there_or_not (middle each.query) each.pair))
        change
