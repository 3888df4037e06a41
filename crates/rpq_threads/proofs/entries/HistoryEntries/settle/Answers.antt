use Rattle.std.proofs.Common.{List, drop, sym, subst}
use Rattle.rpq_base.specs.declared.data.Entry.{Entry}
use Rattle.rpq_threads.specs.Entries.{FeedsOn}
use Rattle.rpq_threads.proofs.ComingNext.{given_stays, feeds_still, noted_still}
use Rattle.rpq_threads.proofs.Keeping.{feeds_settled}
use Rattle.rpq_threads.proofs.entries.HistoryEntries.settle.Goals as goal

pub returns-then-not-keeps_all-clause-given : goal.returns-then-not-keeps_all-clause-given
returns-then-not-keeps_all-clause-given g c =
    let source = c.args.self.now in
    given_stays source.pass c.forget.new.pass c.forget.ensures.seen source.count
    (drop source.to source.buffer.items) c.requires.feeds.1.on.feeds_from.rest_comes

pub returns-then-not-keeps_all-clause-feeds : goal.returns-then-not-keeps_all-clause-feeds
returns-then-not-keeps_all-clause-feeds g c = λ evaluator fed place.
    let source = c.args.self.now in
    let history = source.history.now in
    let rest = drop source.to source.buffer.items in
    let new = c.forget.new.pass in
    record {
      on = subst (λ (buffer : List Entry). FeedsOn history new c.take.new.self buffer 0 0
          source.count evaluator) (sym {A = List Entry} c.in_ok-take.ensures.moved)
          (feeds_settled history source.pass new source.past c.take.new.self source.buffer.items
          source.from source.to source.count evaluator fed.on c.requires.none_left
          c.in_ok-take.ensures.ok
          (given_stays source.pass new c.forget.ensures.seen source.count rest
          fed.on.feeds_from.rest_comes)
          place (feeds_still history source.pass new c.forget.ensures source.count rest evaluator
          fed.on.feeds_from));
      noted = noted_still history source.pass new c.forget.ensures source.shown source.known
          fed.noted;
    }
