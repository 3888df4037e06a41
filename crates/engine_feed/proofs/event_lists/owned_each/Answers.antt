use Rattle.std.proofs.Common.{◌++◌, ◌∷◌, [], List, length, Vec, Global}
use Rattle.std.proofs.Common.{sym, ap, ◌∙◌, append_assoc, arith}
use Rattle.std.proofs.lemmas.List.{append-nil, nil_from_length}
use Rattle.rpq_base.specs.declared.data.Event.{Event}
use Rattle.engine_feed.proofs.BothWays.{items_of}
use Rattle.engine_feed.proofs.event_lists.owned_each.Goals as goal

pub loop-own-init : goal.loop-own-init
loop-own-init c =
    let gives = c.into_iter-own-iterator.ensures.into_iter_gives in
    let rest = c.into_iter-own-iterator.result.rest.items in (
      tt,
      tt,
      omega (arith, gives.1, ap length gives.0),
      ap (λ (events : List (List Event)). events ++ items_of rest) c.in_ok-events.ensures.items
          ∙ ap items_of gives.0,
    )

pub loop-own-preserved : goal.loop-own-preserved
loop-own-preserved c =
    let was = c.loop-own.invariant in
    let steps = c.in-Some.ensures.steps in
    let rest = c.next.new.self.rest.items in
    let own = c.in-Some.own in
    let olds = c.loop-own.events.items in (
      tt,
      tt,
      omega (arith, was.2, steps.1, ap (λ (all : List (Vec Event Global)). length all) steps.0),
      ap (λ (all : List (List Event)). all ++ items_of rest) c.in_ok-push.ensures.items
          ∙ (ap (λ (one : List Event). (olds ++ one ∷ []) ++ items_of rest) c.owned.ensures
          ∙ (append_assoc olds (own.items ∷ []) (items_of rest)
          ∙ (ap (λ (all : List (Vec Event Global)). olds ++ items_of all) (sym steps.0) ∙ was.3))),
    )

pub returns : goal.returns
returns c =
    let was = c.loop-own.invariant in
    let olds = c.loop-own.events.items in
    let left = c.loop-own.own-iterator.rest.items in
    sym (append-nil olds)
    ∙ (ap (λ (all : List (Vec Event Global)). olds ++ items_of all)
    (sym (nil_from_length left (omega (arith, was.2, c.in-None.ensures.steps.0)))) ∙ was.3)
