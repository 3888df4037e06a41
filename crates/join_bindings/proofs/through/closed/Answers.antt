use Rattle.std.proofs.Common.{◌+◌, ℕ, List, take, sym, subst}
use Rattle.std.specs.Prelude.{◌↔◌, Contains}
use Rattle.std.proofs.lemmas.List.{take_all}
use Rattle.rpq_base.proofs.Members.{none_in, next_one}
use Rattle.join_bindings.specs.Partial.{Bound, Covers, IsFull}
use Rattle.join_bindings.proofs.Closed.{closed_more}
use Rattle.join_bindings.proofs.through.closed.Goals as goal

pub loop-bound-init : goal.loop-bound-init
loop-bound-init c = λ names. (
  (λ member. absurd (none_in names (subst (λ (items : List (List (List ℕ))). Contains items names) c.new-found.ensures.items member))),
  (λ covers. absurd (none_in covers.0 covers.1)),
)

pub loop-bound-preserved : goal.loop-bound-preserved
loop-bound-preserved c =
    let partials = c.args.partials.now in
    let index = c.loop-bound.bound-index in
    let one = c.bound-item.result in
    closed_more (take index partials) (take (index + 1) partials) one c.loop-bound.found.items c.push.new.self.items c.in_ok-closed.field-0
    (next_one partials index one c.loop-bound-test.true c.bound-item.is) c.in_ok-push.ensures.items c.in_ok-closed.ensures c.loop-bound.invariant

pub closed-requires : goal.closed-requires
closed-requires c = subst IsFull (sym c.bound-item.is) (c.requires c.loop-bound.bound-index c.bound-item.result c.loop-bound-test.true)

pub returns : goal.returns
returns c = λ names.
    subst (λ (list : List Bound). Contains c.loop-bound.found.items names ↔ Covers list names)
    (take_all c.loop-bound.bound-index c.args.partials.now c.loop-bound-test.false) (c.loop-bound.invariant names)
