use Rattle.std.proofs.Common.{◌≡◌, true, List, Vec, Global, length, map, sym, ap, subst, ◌∙◌, arith}
use Rattle.std.specs.List.Sorted.{IsStrictlySortedBy}
use Rattle.std.proofs.lemmas.List.{length-map}
use Rattle.rpq_base.specs.declared.data.Entry.{Entry}
use Rattle.rpq_base.specs.declared.data.Event.{Event}
use Rattle.rpq_model.proofs.EachEntry.{each_as_many}
use Rattle.rpq_model.specs.QueryEvents.{AreEventsUnder}
use Rattle.path_engine.specs.Engine.{EngineValue, definitions}
use Rattle.path_engine.specs.Feeding.{FeedsFront}
use Rattle.two_way.specs.Differences.{event_cmp}
use Rattle.two_way.specs.Doubled.{doubled}
use Rattle.two_way.specs.Net.{AreAllNet}
use Rattle.engine_feed.specs.Feeding.{FeedsEntries}
use Rattle.engine_feed.proofs.BothWays.{if_ok, all_shown, at_most_twice, all_sorted, netted_feeds}
use Rattle.engine_feed.proofs.feeding.feed_both_ways.Goals as goal

-- at most twice as many entries are fed
pub feed_by_names-requires-clause-short : goal.feed_by_names-requires-clause-short
feed_by_names-requires-clause-short g c κs within =
    let entries = c.args.entries.now in
    let fed : length c.deref.result.now ≡ length (doubled entries) =
    ap (λ (both : List Entry). length both) (c.deref.ensures.value ∙ c.in_ok-both.ensures) in
    omega (arith, fed, at_most_twice entries, c.requires.short)

-- the engine's answer, over the doubled entries
answers : (old new : EngineValue) (entries given both : List Entry) (lists shown : List (Vec Event Global)) →
    given ≡ both → both ≡ doubled entries → shown ≡ lists →
    FeedsFront old given new (map (λ (own : Vec Event Global). own.items) lists) →
    FeedsFront old (doubled entries) new (map (λ (own : Vec Event Global). own.items) shown)
answers old new entries given both lists shown is_both is_doubled is_shown feeds =
    subst (λ (lists : List (Vec Event Global)). FeedsFront old (doubled entries) new (map (λ (own : Vec Event Global). own.items) lists)) (sym is_shown)
    (subst (λ (both : List Entry). FeedsFront old both new (map (λ (own : Vec Event Global). own.items) lists)) (is_both ∙ is_doubled) feeds)

pub net_each-requires-clause-as_many : goal.net_each-requires-clause-as_many
net_each-requires-clause-as_many g c =
    let history = c.requires.stands.0 in
    let show = λ (own : Vec Event Global). own.items in
    let fed =
    answers c.args.engine.now c.feed_by_names.new.engine c.args.entries.now c.deref.result.now c.in_ok-both.both.items c.in_ok-lists.lists.items c.deref-2.result.now
    c.deref.ensures.value c.in_ok-both.ensures c.deref-2.ensures.value c.in_ok-lists.ensures.feeds in
    let lists = c.deref-2.result.now in
    sym (length-map lists show)
    ∙ each_as_many (doubled c.args.entries.now) (doubled history) (AreEventsUnder 0 (definitions c.args.engine.now)) (map show lists)
    (fed.events (doubled history) c.requires.stands.1)

pub net_each-requires-clause-sorted : goal.net_each-requires-clause-sorted
net_each-requires-clause-sorted g c =
    let history = c.requires.stands.0 in
    let show = λ (own : Vec Event Global). own.items in
    let fed =
    answers c.args.engine.now c.feed_by_names.new.engine c.args.entries.now c.deref.result.now c.in_ok-both.both.items c.in_ok-lists.lists.items c.deref-2.result.now
    c.deref.ensures.value c.in_ok-both.ensures c.deref-2.ensures.value c.in_ok-lists.ensures.feeds in
    let lists = c.deref-2.result.now in
    all_shown (IsStrictlySortedBy event_cmp) show lists
    (all_sorted c.events_are_differences.ensures (doubled c.args.entries.now) (doubled history) (definitions c.args.engine.now) (map show lists)
    (fed.events (doubled history) c.requires.stands.1))

pub returns-clause-feeds : goal.returns-clause-feeds
returns-clause-feeds g c =
    let show = λ (own : Vec Event Global). own.items in
    let fed =
    answers c.args.engine.now c.feed_by_names.new.engine c.args.entries.now c.deref.result.now c.in_ok-both.both.items c.in_ok-lists.lists.items c.deref-2.result.now
    c.deref.ensures.value c.in_ok-both.ensures c.deref-2.ensures.value c.in_ok-lists.ensures.feeds in
    let entries = c.args.entries.now in
    let lists = map show c.deref-2.result.now in
    if_ok (λ (netted : Vec (Vec Event Global) Global). AreAllNet entries lists (map show netted.items))
    (λ (netted : Vec (Vec Event Global) Global). FeedsEntries true c.args.engine.now entries c.feed_by_names.new.engine (map show netted.items))
    (λ netted nets.
    netted_feeds c.events_are_differences.ensures c.all_net_are_two_way.ensures entries c.args.engine.now c.feed_by_names.new.engine lists (map show netted.items)
    fed nets)
    c.net_each.result c.net_each.ensures
