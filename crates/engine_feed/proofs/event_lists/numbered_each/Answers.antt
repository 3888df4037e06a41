use Rattle.std.proofs.Common.{◌++◌, ◌∷◌, [], ℕ, List, length, map, Vec, Global}
use Rattle.std.proofs.Common.{sym, ap, subst, ◌∙◌, append_assoc, arith}
use Rattle.std.proofs.lemmas.List.{append-nil, nil_from_length}
use Rattle.std.proofs.lemmas.List.Elements.{All-head, All-tail}
use Rattle.std.specs.List.{All}
use Rattle.rpq_base.specs.declared.data.Event.{Event}
use Rattle.end_events.specs.declared.numbered_event.NumberedEvent.{NumberedEvent}
use Rattle.end_events.specs.Named.{named, named_lists, HasNames, HaveAllNames}
use Rattle.engine_feed.proofs.event_lists.numbered_each.Goals as goal

-- the events of an entry are by names
abbrev HaveOwn : List (List ℕ) → Vec NumberedEvent Global → Type 0
HaveOwn names own = All (HasNames names) own.items

pub loop-own-init : goal.loop-own-init
loop-own-init c =
    let gives = c.into_iter-own-iterator.ensures.into_iter_gives in
    let rest = c.into_iter-own-iterator.result.rest.items in
    let names = c.args.names.now in (
      tt,
      tt,
      omega (arith, gives.1, ap length gives.0),
      ap (λ (events : List (List Event)). events ++ named_lists names rest)
          c.in_ok-events.ensures.items
          ∙ ap (named_lists names) gives.0,
      subst (HaveAllNames names) (sym gives.0) c.requires,
    )

pub numbered-requires : goal.numbered-requires
numbered-requires c =
    let names = c.args.names.now in
    All-head (HaveOwn names) c.in-Some.own c.next.new.self.rest.items
    (subst (HaveAllNames names) c.in-Some.ensures.steps.0 c.loop-own.invariant.4)

pub loop-own-preserved : goal.loop-own-preserved
loop-own-preserved c =
    let was = c.loop-own.invariant in
    let steps = c.in-Some.ensures.steps in
    let names = c.args.names.now in
    let rest = c.next.new.self.rest.items in
    let own = c.in-Some.own in
    let olds = c.loop-own.events.items in (
      tt,
      tt,
      omega (
        arith,
        was.2,
        steps.1,
        ap (λ (all : List (Vec NumberedEvent Global)). length all) steps.0,
      ),
      ap (λ (all : List (List Event)). all ++ named_lists names rest) c.in_ok-push.ensures.items
          ∙ (ap (λ (one : List Event). (olds ++ one ∷ []) ++ named_lists names rest)
          c.numbered.ensures
          ∙ (append_assoc olds (map (named names) own.items ∷ []) (named_lists names rest)
          ∙ (ap (λ (all : List (Vec NumberedEvent Global)). olds ++ named_lists names all)
          (sym steps.0) ∙ was.3))),
      All-tail (HaveOwn names) own rest (subst (HaveAllNames names) steps.0 was.4),
    )

pub returns : goal.returns
returns c =
    let was = c.loop-own.invariant in
    let names = c.args.names.now in
    let olds = c.loop-own.events.items in
    let left = c.loop-own.own-iterator.rest.items in
    sym (append-nil olds)
    ∙ (ap (λ (all : List (Vec NumberedEvent Global)). olds ++ named_lists names all)
    (sym (nil_from_length left (omega (arith, was.2, c.in-None.ensures.steps.0)))) ∙ was.3)
