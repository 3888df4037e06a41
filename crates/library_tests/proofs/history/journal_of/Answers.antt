use Rattle.std.proofs.Common.{◌≡◌, ◌+◌, ◌<◌, ◌∙◌, sym, length, arith}
use Rattle.stream_history.proofs.AllPasses.{all_by_place, count_of, are_new}
use Rattle.library_tests.proofs.history.journal_of.Goals as goal

pub share-requires-clause-some : goal.share-requires-clause-some
share-requires-clause-some g c κs within =
    let made = c.shared_history-history in
    let count = 1 + c.args.task.streams + c.args.readers in
    let are : length made.result.1.items ≡ count =
    count_of made.result.0 count made.result.1.items made.ensures.passes in
    omega (arith, are)

pub share-requires-clause-passes : goal.share-requires-clause-passes
share-requires-clause-passes g c κs within i d below =
    let made = c.shared_history-history in
    let count = 1 + c.args.task.streams + c.args.readers in
    let are : length made.result.1.items ≡ count =
    count_of made.result.0 count made.result.1.items made.ensures.passes in
    let here : i < count = omega (arith, are, below) in
    let new = are_new made.result.0 count made.result.1.items made.ensures.passes i d here in
    (new.is, new.number, new.goes_on, new.feeds, new.none)

pub finish-requires-clause-all : goal.finish-requires-clause-all
finish-requires-clause-all g c =
    let made = c.shared_history-history in
    let came = c.share.ensures in
    let count = 1 + c.args.task.streams + c.args.readers in
    let are = count_of made.result.0 count made.result.1.items made.ensures.passes in
    all_by_place made.result.0.turns.passes c.share.new.passes.items
    (made.ensures.count ∙ sym (came.length ∙ are))
    (λ i d below. (came.passes i d (omega (arith, came.length, below))).1)
