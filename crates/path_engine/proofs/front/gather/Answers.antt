use Rattle.std.proofs.Common.{◌++◌, ◌∷◌, [], List, length, map, Vec, Global, refl}
use Rattle.std.proofs.Common.{sym, ap, subst, ◌∙◌, append_assoc, arith}
use Rattle.std.proofs.lemmas.List.{append-nil}
use Rattle.end_events.specs.declared.numbered_event.NumberedEvent.{NumberedEvent}
use Rattle.query_index.specs.IndexValue.{IndexValue}
use Rattle.path_engine.specs.declared.front.Share.{Share}
use Rattle.path_engine.specs.Front.{AreGathered}
use Rattle.path_engine.proofs.Fronts.{index_of, items_of, nothing_left}
use Rattle.path_engine.proofs.front.gather.Goals as goal

pub loop-share-init : goal.loop-share-init
loop-share-init c =
    let gives = c.into_iter-share-iterator.ensures.into_iter_gives in
    let rest = c.into_iter-share-iterator.result.rest.items in (
      tt,
      tt,
      omega (arith, gives.1, ap length gives.0),
      ap (λ (all : List IndexValue). all ++ map index_of rest) c.requires.none
          ∙ ap (λ (all : List Share). map index_of all) gives.0,
      λ all given.
          subst (λ (shares : List Share). AreGathered [] shares all) {x = rest} {y = c.args.shares.items}
          gives.0
          (subst (λ (events : List (Vec NumberedEvent Global)). AreGathered (items_of events) rest all)
          c.new-events.ensures.items given),
    )

pub loop-share-preserved : goal.loop-share-preserved
loop-share-preserved c =
    let was = c.loop-share.invariant in
    let steps = c.in-Some.ensures.steps in
    let before = c.loop-share.share-iterator.rest.items in
    let rest = c.next.new.self.rest.items in
    let share = c.in-Some.share in
    let olds = c.loop-share.indexes.items in
    let events = items_of c.loop-share.events.items in (
      tt,
      tt,
      omega (arith, was.2, steps.1, ap (λ (xs : List Share). length xs) steps.0),
      ap (λ (all : List IndexValue). all ++ map index_of rest) c.in_ok-push.ensures.items
          ∙ (append_assoc olds (share.index ∷ []) (map index_of rest)
          ∙ (ap (λ (all : List Share). olds ++ map index_of all) (sym steps.0) ∙ was.3)),
      λ all given.
          was.4 all
          (subst (λ (shares : List Share). AreGathered events shares all) {x = share ∷ rest} {y = before}
          (sym steps.0) (
            c.in_ok-owns.field-0,
            c.in_ok-owns.was,
            subst (λ (each : List (List NumberedEvent)). AreGathered each rest all)
                c.in_ok-append_each.ensures given,
          )),
    )

pub returns-clause-indexes : goal.returns-clause-indexes
returns-clause-indexes c =
    let was = c.loop-share.invariant in
    let olds = c.loop-share.indexes.items in
    sym (append-nil olds)
    ∙ (ap (λ (all : List Share). olds ++ map index_of all)
    (sym (nothing_left c.loop-share.share-iterator.rest.items
    (omega (arith, was.2, c.in-None.ensures.steps.0)))) ∙ was.3)

pub returns-clause-events : goal.returns-clause-events
returns-clause-events c =
    let was = c.loop-share.invariant in
    let events = items_of c.loop-share.events.items in
    was.4 events
    (subst (λ (shares : List Share). AreGathered events shares events)
    (sym (nothing_left c.loop-share.share-iterator.rest.items
    (omega (arith, was.2, c.in-None.ensures.steps.0)))) refl)
