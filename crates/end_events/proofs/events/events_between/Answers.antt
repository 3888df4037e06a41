use Rattle.std.proofs.Common.{◌≡◌, true, false, List, ◌++◌, map, sym, ap₂, subst, ◌∙◌}
use Rattle.std.specs.List.{All}
use Rattle.std.proofs.lemmas.List.Elements.{All-nil}
use Rattle.rpq_base.specs.declared.data.Event.{Event}
use Rattle.rpq_base.specs.declared.data.Pair.{Pair}
use Rattle.rpq_model.specs.Events.{changes, event, without}
use Rattle.end_events.specs.declared.numbered_event.NumberedEvent.{NumberedEvent}
use Rattle.end_events.specs.declared.pairs.NumberedPair.{NumberedPair}
use Rattle.end_events.specs.Named.{named, HasNames}
use Rattle.end_events.specs.Pairs.{pairs_at}
use Rattle.end_events.proofs.Between.{events_are}
use Rattle.end_events.proofs.events.events_between.Goals as goal

pub returns-clause-are : goal.returns-clause-are
returns-clause-are c = λ start middle last firsts seconds.
    let query = c.args.query in
    let names = c.args.names.now in
    let lost = c.in_ok-given.given.lost.items in
    let gained = c.in_ok-given.given.gained.items in
    let left : List NumberedPair → List NumberedPair → List Pair = λ pairs others. without (pairs_at names pairs) (pairs_at names others) in
    let losses : map (named names) c.push_events.new.events.items ≡ map (event query false) (left lost gained) =
    c.in_ok-push_events.ensures.added
    ∙ ap₂ (λ (before : List NumberedEvent) (told : List Pair). map (named names) before ++ map (event query false) told)
    (c.in_ok-reserve.ensures.items ∙ c.new-events.ensures.items) (ap₂ left c.deref.ensures.value c.deref-2.ensures.value) in
    let all : map (named names) c.push_events-2.new.events.items ≡ changes query (pairs_at names lost) (pairs_at names gained) =
    c.in_ok-push_events-2.ensures.added
    ∙ ap₂ (λ (before : List Event) (told : List Pair). before ++ map (event query true) told)
    losses (ap₂ left c.deref-3.ensures.value c.deref-4.ensures.value) in
    events_are query c.args.mode names start middle last c.args.first.now c.args.second.now
    (pairs_at names lost) (pairs_at names gained) (map (named names) c.push_events-2.new.events.items) firsts seconds
    c.in_ok-given.ensures.lost.exactly c.in_ok-given.ensures.gained.exactly all

pub returns-clause-have_names : goal.returns-clause-have_names
returns-clause-have_names c =
    let names = c.args.names.now in
    c.in_ok-push_events-2.ensures.have_names
    (c.in_ok-push_events.ensures.have_names
    (subst (All (HasNames names)) (sym {A = List NumberedEvent} (c.in_ok-reserve.ensures.items ∙ c.new-events.ensures.items))
    (All-nil (HasNames names))))
