use Rattle.std.proofs.Common.{◌≡◌, ◌<◌, List, ◌∷◌, [], ◌++◌, Vec, Global, get_or, length, map, sym, ap, subst, ◌∙◌, arith}
use Rattle.std.specs.List.{All}
use Rattle.std.proofs.lemmas.List.{get_or-map, length-map, map_push, take_all}
use Rattle.std.proofs.lemmas.List.Elements.{All-push}
use Rattle.rpq_base.specs.declared.data.Event.{Event}
use Rattle.rpq_base.specs.declared.data.Pair.{Pair}
use Rattle.rpq_model.specs.Events.{event, without}
use Rattle.rpq_model.proofs.Merging.{given_more, given_same}
use Rattle.end_events.specs.declared.numbered_event.NumberedEvent.{NumberedEvent}
use Rattle.end_events.specs.declared.pairs.NumberedPair.{NumberedPair}
use Rattle.source_tree.specs.Ends.{is_gain}
use Rattle.end_events.specs.Named.{named, HasNames}
use Rattle.end_events.specs.Pairs.{pair_at, pairs_at}
use Rattle.end_events.proofs.Numbered.{no_pair}
use Rattle.end_events.proofs.events.push_events.Goals as goal
use Rattle.end_events.proofs.events.push_events.Goals.{then-not-is_among+in_ok-push, else-not-is_among}

pub loop-pair-preserved : goal.loop-pair-preserved
loop-pair-preserved c =
    let names = c.args.names.now in
    let numbered = c.args.pairs.now in
    let pairs = pairs_at names numbered in
    let others = pairs_at names c.args.others.now in
    let index = c.loop-pair.pair-index in
    let each : NumberedPair = get_or numbered index no_pair in
    let query = c.args.query in
    let added = is_gain c.args.outcome in
    let old = map (named names) c.args.events.now.items in
    let found = c.loop-pair.events.items in
    let below : index < length pairs = omega (arith, c.loop-pair-test.true, length-map numbered (pair_at names)) in
    let is : pair_at names each ≡ get_or pairs index (pair_at names each) =
    sym (get_or-map (pair_at names) numbered index no_pair (pair_at names each) c.loop-pair-test.true) in
    record {
      added = elim c.if-not-is_among.branch [
        | then-not-is_among+in_ok-push w ↦
            ap (λ (events : Vec NumberedEvent Global). map (named names) events.items) w.events-is
            ∙ (ap (map (named names)) w.in_ok-push.ensures.items
            ∙ (map_push (named names) found w.event_of.result
            ∙ (ap (λ (one : Event). map (named names) found ++ one ∷ []) (w.event_of.ensures.named names)
            ∙ given_more pairs others index (pair_at names each) query added old (map (named names) found) below is
            (sym c.is_among.ensures ∙ w.if-not-is_among.true) c.loop-pair.invariant.added)))
        | else-not-is_among w ↦
            ap (λ (events : Vec NumberedEvent Global). map (named names) events.items) w.events-is
            ∙ given_same pairs others index (pair_at names each) query added old (map (named names) found) below is
            (sym c.is_among.ensures ∙ w.if-not-is_among.false) c.loop-pair.invariant.added
      ];
      have_names = elim c.if-not-is_among.branch [
        | then-not-is_among+in_ok-push w ↦ λ all.
            subst (λ (events : Vec NumberedEvent Global). All (HasNames names) events.items) (sym w.events-is)
            (subst (All (HasNames names)) (sym w.in_ok-push.ensures.items)
            (All-push (HasNames names) found w.event_of.result (c.loop-pair.invariant.have_names all)
            (w.event_of.ensures.has_names names (c.requires.numbered index no_pair c.loop-pair-test.true))))
        | else-not-is_among w ↦ λ all.
            subst (λ (events : Vec NumberedEvent Global). All (HasNames names) events.items) (sym w.events-is)
            (c.loop-pair.invariant.have_names all)
      ];
    }

pub returns-clause-added : goal.returns-clause-added
returns-clause-added c =
    let names = c.args.names.now in
    let numbered = c.args.pairs.now in
    c.loop-pair.invariant.added
    ∙ ap (λ (all : List Pair). map (named names) c.args.events.now.items
    ++ map (event c.args.query (is_gain c.args.outcome)) (without all (pairs_at names c.args.others.now)))
    (take_all c.loop-pair.pair-index (pairs_at names numbered)
    (omega (arith, c.loop-pair-test.false, length-map numbered (pair_at names))))

pub returns-clause-have_names : goal.returns-clause-have_names
returns-clause-have_names c = c.loop-pair.invariant.have_names
