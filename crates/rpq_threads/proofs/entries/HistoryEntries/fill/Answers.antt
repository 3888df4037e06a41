use Rattle.std.proofs.Common.{◌≡◌, ℕ, [], drop, sym, ap, ◌∙◌}
use Rattle.history_model.specs.Lines.{entries}
use Rattle.rpq_threads.proofs.ComingNext.{given_stays, none_comes, noted_still, noted_heard}
use Rattle.rpq_threads.proofs.Keeping.{begun_is, feeds_still_on, feeds_filled, kept_filled}
use Rattle.rpq_threads.proofs.entries.HistoryEntries.fill.Goals as goal

pub returns-then-self-len-clause-kept : goal.returns-then-self-len-clause-kept
returns-then-self-len-clause-kept g c =
    let source = c.args.self.now in
    begun_is source.history.now source.pass source.past source.buffer.items source.from source.to
    source.count c.requires.0 c.requires.1.on

pub returns-in_err-more-clause-given : goal.returns-in_err-more-clause-given
returns-in_err-more-clause-given g c =
    let mid = c.settle.new.self in
    let fed = c.settle.ensures.feeds c.requires.0 c.requires.1 c.requires.2 in
    given_stays mid.pass c.hear_more.new.pass c.hear_more.ensures.seen.seen mid.count
    (drop mid.to mid.buffer.items) fed.on.feeds_from.rest_comes
    ∙ c.settle.ensures.given

pub returns-in_err-more-clause-feeds : goal.returns-in_err-more-clause-feeds
returns-in_err-more-clause-feeds g c = λ evaluator was place.
    let mid = c.settle.new.self in
    let fed = c.settle.ensures.feeds evaluator was place in
    record {
      on = feeds_still_on mid.history.now mid.pass c.hear_more.new.pass mid.past mid.buffer.items
          mid.from mid.to mid.count evaluator fed.on c.hear_more.ensures.seen;
      noted = noted_still mid.history.now mid.pass c.hear_more.new.pass c.hear_more.ensures.seen
          mid.shown mid.known fed.noted;
    }

pub returns-clause-given : goal.returns-clause-given
returns-clause-given g c =
    let mid = c.settle.new.self in
    let fed = c.settle.ensures.feeds c.requires.0 c.requires.1 c.requires.2 in
    given_stays mid.pass c.hear_more.new.pass c.hear_more.ensures.seen.seen mid.count
    (drop mid.to mid.buffer.items) fed.on.feeds_from.rest_comes
    ∙ c.settle.ensures.given

pub returns-clause-feeds : goal.returns-clause-feeds
returns-clause-feeds g c = λ evaluator was place.
    let mid = c.settle.new.self in
    let empty = c.in_ok-settle.ensures.empty in
    let fed = c.settle.ensures.feeds evaluator was place in
    record {
      on = feeds_filled mid.history.now mid.pass c.hear_more.new.pass mid.past mid.buffer.items
          c.in_ok-more.more.items mid.from mid.to mid.count evaluator empty.from_first
          empty.to_first fed.on c.hear_more.ensures.seen c.in_ok-more.ensures.more;
      noted = noted_heard mid.history.now mid.pass c.hear_more.new.pass c.hear_more.ensures.seen
          mid.shown mid.known c.in_ok-more.known c.in_ok-more.ensures.known fed.noted;
    }

pub returns-clause-kept : goal.returns-clause-kept
returns-clause-kept g c =
    let mid = c.settle.new.self in
    let fed = c.settle.ensures.feeds c.requires.0 c.requires.1 c.requires.2 in
    let empty = c.in_ok-settle.ensures.empty in
    kept_filled mid.past mid.buffer.items c.in_ok-more.more.items (entries mid.pass.seen)
    (entries c.hear_more.new.pass.seen) mid.from mid.to mid.count empty.from_first empty.to_first
    (given_stays mid.pass c.hear_more.new.pass c.hear_more.ensures.seen.seen mid.count
    (drop mid.to mid.buffer.items) fed.on.feeds_from.rest_comes)
    ∙ c.in_ok-settle.ensures.kept

pub returns-clause-ended : goal.returns-clause-ended
returns-clause-ended g c = λ none.
    let mid = c.settle.new.self in
    let fed = c.settle.ensures.feeds c.requires.0 c.requires.1 c.requires.2 in
    let empty = c.in_ok-settle.ensures.empty in
    let more = c.in_ok-more.more.items in
    let no_more : more ≡ [] = sym (ap (λ (n : ℕ). drop n more) empty.to_first) ∙ none in (
      record { none = no_more; from_first = empty.from_first; to_first = empty.to_first },
      c.in_ok-more.ensures.ended no_more,
      none_comes mid.history.now mid.pass c.hear_more.new.pass mid.count
          fed.on.feeds_from.rest_comes.there fed.on.feeds_from.few c.hear_more.ensures.seen more
          c.in_ok-more.ensures.more no_more,
    )
