use Rattle.std.proofs.Common.{◌≡◌, ℕ, refl, take, drop, subst, arith}
use Rattle.engine_loop.specs.Sources.{Repeats}
use Rattle.history_model.specs.Lines.{entries}
use Rattle.stream_history.specs.declared.calls.Front.{Front}
use Rattle.rpq_threads.proofs.ComingNext.{given_stays, of_found, they_repeat, noted_still}
use Rattle.rpq_threads.proofs.Keeping.{feeds_still_on, kept_with}
use Rattle.rpq_threads.proofs.entries.HistoryEntries.copied_from_history.Goals as goal

pub after-requires-clause-published : goal.after-requires-clause-published
after-requires-clause-published g c = λ some.
    let was = c.requires.feeds.1 in
    omega (arith, (was.on.feeds_from.told some).near, was.on.behind, c.requires.within)

pub returns-in_err-front-clause-stays : goal.returns-in_err-front-clause-stays
returns-in_err-front-clause-stays g c =
    let source = c.args.self.now in
    let seen = c.after.ensures.pass in
    let same = given_stays source.pass c.after.new.pass seen.seen source.count
    (drop source.to source.buffer.items) c.requires.feeds.1.on.feeds_from.rest_comes in
    record {
      has = record {
        same_home = refl;
        same_given = same;
        same_kept = kept_with source.past (take source.from source.buffer.items)
            (entries source.pass.seen) (entries c.after.new.pass.seen) source.from source.to
            source.count same;
        same_front = refl;
      };
      still_feeds = λ evaluator was. record {
        on = feeds_still_on source.history.now source.pass c.after.new.pass source.past
            source.buffer.items source.from source.to source.count evaluator was.on seen;
        noted = noted_still source.history.now source.pass c.after.new.pass seen source.shown
            source.known was.noted;
      };
    }

pub returns-clause-stays : goal.returns-clause-stays
returns-clause-stays g c =
    let source = c.args.self.now in
    let seen = c.after.ensures.pass in
    let same = given_stays source.pass c.after.new.pass seen.seen source.count
    (drop source.to source.buffer.items) c.requires.feeds.1.on.feeds_from.rest_comes in
    record {
      has = record {
        same_home = refl;
        same_given = same;
        same_kept = kept_with source.past (take source.from source.buffer.items)
            (entries source.pass.seen) (entries c.after.new.pass.seen) source.from source.to
            source.count same;
        same_front = refl;
      };
      still_feeds = λ evaluator was. record {
        on = feeds_still_on source.history.now source.pass c.after.new.pass source.past
            source.buffer.items source.from source.to source.count evaluator was.on seen;
        noted = noted_still source.history.now source.pass c.after.new.pass seen source.shown
            source.known was.noted;
      };
    }

pub returns-clause-repeats : goal.returns-clause-repeats
returns-clause-repeats g c =
    let source = c.args.self.now in
    let was = c.requires.feeds.1 in
    let before = c.count_before-before.result in
    let all = entries c.after.new.pass.seen in
    subst (λ (n : ℕ). Repeats (take n (entries source.pass.seen)) c.args.from
    c.truncate.new.self.items) c.count_before-before.ensures
    (they_repeat source.history.now source.pass c.after.new.pass c.after.ensures.pass before
    c.args.from (omega (arith, c.count_before-before.ensures, was.on.feeds_from.rest_comes.there))
    (omega (arith, c.count_before-before.ensures, c.requires.within))
    c.in-Some.front.entries.items c.truncate.new.self.items
    (of_found c.in_ok-front.field-0 c.in-Some.front
    (λ (front : Front). front.entries.items ≡ take 256 (drop c.args.from all)) c.in-Some.is
    c.in_ok-front.ensures.entries) c.truncate.ensures.items)
