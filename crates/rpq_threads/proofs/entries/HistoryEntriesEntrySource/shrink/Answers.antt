use Rattle.std.proofs.Common.{◌≡◌, List, ◌++◌, ◌∙◌}
use Rattle.std.proofs.lemmas.List.{length-take-le}
use Rattle.history_model.specs.Lines.{entries}
use Rattle.rpq_base.specs.declared.data.Entry.{Entry}
use Rattle.rpq_threads.specs.Entries.{front_of, kept_by}
use Rattle.rpq_threads.proofs.Keeping.{feeds_shrunk, stands_shrunk}
use Rattle.rpq_threads.proofs.entries.HistoryEntriesEntrySource.shrink.Goals as goal

pub returns-clause-feeds : goal.returns-clause-feeds
returns-clause-feeds g c =
    let source = c.args.self.now in
    let mid = c.settle.new.self in
    let evaluator = c.args._evaluator.now in
    let place : evaluator.position ≡ source.count = c.requires.stands.fed.counted
    ∙ length-take-le source.count (entries source.pass.seen)
    c.requires.feeds.on.feeds_from.rest_comes.there in
    let fed = c.settle.ensures.feeds evaluator c.requires.feeds place in
    λ other far. record {
      on = feeds_shrunk c.entries_stand_in.ensures c.saved_keeps_the_store.ensures
          c.saved_of_more.ensures evaluator c.requires.runs mid.history.now mid.pass mid.past
          c.shrink.new.self c.shrink.result mid.buffer.items mid.from mid.to mid.count
          c.in_ok-settle.ensures.empty.from_first fed.on c.shrink.ensures other far;
      noted = fed.noted;
    }

pub returns-clause-kept : goal.returns-clause-kept
returns-clause-kept g c =
    let source = c.args.self.now in
    let mid = c.settle.new.self in
    let evaluator = c.args._evaluator.now in
    let place : evaluator.position ≡ source.count = c.requires.stands.fed.counted
    ∙ length-take-le source.count (entries source.pass.seen)
    c.requires.feeds.on.feeds_from.rest_comes.there in
    let empty = c.in_ok-settle.ensures.empty in
    let all : List Entry = kept_by source ++ front_of source in
    stands_shrunk c.entries_stand_in.ensures c.saved_keeps_the_store.ensures
    c.saved_of_more.ensures evaluator c.requires.runs mid.history.now mid.pass mid.past
    c.shrink.new.self c.shrink.result mid.buffer.items mid.from mid.to mid.count empty.from_first
    (c.settle.ensures.feeds evaluator c.requires.feeds place).on c.shrink.ensures empty.to_first all
    c.in_ok-settle.ensures.kept
