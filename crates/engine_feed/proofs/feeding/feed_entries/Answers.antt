use Rattle.std.proofs.Common.{Bool, sym, subst}
use Rattle.end_events.specs.Named.{named_lists}
use Rattle.engine_feed.specs.Feeding.{FeedsEntries}
use Rattle.engine_feed.proofs.BothWays.{front_feeds}
use Rattle.engine_feed.proofs.feeding.feed_entries.Goals as goal

pub returns-in_ok-feed_by_numbers-clause-feeds : goal.returns-in_ok-feed_by_numbers-clause-feeds
returns-in_ok-feed_by_numbers-clause-feeds g c =
    let old = c.args.engine.now in
    let new = c.feed_by_numbers.new.engine in
    let entries = c.args.entries.now in
    let lists = named_lists new.names c.in_ok-feed_by_numbers.field-0.items in
    subst (λ (two_way : Bool). FeedsEntries two_way old entries new lists) (sym c.if-two_way.false)
    (front_feeds entries old new lists c.in_ok-feed_by_numbers.ensures.feeds)
