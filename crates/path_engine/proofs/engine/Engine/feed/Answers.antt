use Rattle.std.proofs.Common.{List, map, Vec, Global, ap, subst, ◌∙◌}
use Rattle.rpq_base.specs.declared.data.Entry.{Entry}
use Rattle.rpq_base.specs.declared.data.Event.{Event}
use Rattle.path_engine.specs.Engine.{EngineValue, StandsFor}
use Rattle.path_engine.specs.Feeding.{FeedsFront}
use Rattle.path_engine.proofs.Feeding.{fed_one, one_list, unspent_by}
use Rattle.path_engine.proofs.engine.Engine.feed.Goals as goal

abbrev items : List (Vec Event Global) → List (List Event)
items lists = map (λ (own : Vec Event Global). own.items) lists

pub only_of-requires : goal.only_of-requires
only_of-requires g c =
    let old = c.args.self.now in
    let lists = c.in_ok-lists.lists in
    let unspent = ap (λ (engine : EngineValue). engine.spent) c.self.view_is
    ∙ unspent_by c.feed_front.result lists old.spent c.in_ok-lists.was c.feed_front.ensures.spent in
    let found = c.self.invariant.stands unspent in
    record {
      one = one_list old c.feed_front.new.self c.args.entry.now lists.items found.0
          (subst (λ (engine : EngineValue). StandsFor engine found.0) c.self.view_is found.1)
          (subst (λ (entries : List Entry).
          FeedsFront old entries c.feed_front.new.self (items lists.items)) c.from_ref.ensures.value
          c.in_ok-lists.ensures.feeds);
    }

pub returns-clause-feeds : goal.returns-clause-feeds
returns-clause-feeds g c =
    let old = c.args.self.now in
    let lists = c.in_ok-lists.lists in
    let unspent = ap (λ (engine : EngineValue). engine.spent) c.self.view_is
    ∙ unspent_by c.feed_front.result lists old.spent c.in_ok-lists.was c.feed_front.ensures.spent in
    let found = c.self.invariant.stands unspent in
    fed_one old c.feed_front.new.self c.args.entry.now (items lists.items) c.only_of.result.items
    found.0 (subst (λ (engine : EngineValue). StandsFor engine found.0) c.self.view_is found.1)
    c.only_of.ensures
    (subst (λ (entries : List Entry).
    FeedsFront old entries c.feed_front.new.self (items lists.items)) c.from_ref.ensures.value
    c.in_ok-lists.ensures.feeds)
