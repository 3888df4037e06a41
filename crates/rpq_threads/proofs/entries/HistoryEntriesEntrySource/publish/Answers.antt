use Rattle.std.proofs.Common.{◌≡◌, ◌<◌, Err, take, drop, refl, ap, ◌∙◌, arith}
use Rattle.history_model.specs.Lines.{entries}
use Rattle.stream_history.specs.declared.fault.PublishFault.{PublishFault}
use Rattle.stream_history.specs.declared.fault.PublishFault.TheVariants.{Behind}
use Rattle.rpq_threads.proofs.ComingNext.{place_now, is_ahead, view_place, view_there, view_shows}
use Rattle.rpq_threads.proofs.ComingNext.{feeds_published, given_published, noted_published}
use Rattle.rpq_threads.proofs.ComingNext.{feeds_put_off}
use Rattle.rpq_threads.proofs.Keeping.{feeds_with, kept_with}
use Rattle.rpq_threads.proofs.entries.HistoryEntriesEntrySource.publish.Goals as goal

pub unreachable-requires : goal.unreachable-requires
unreachable-requires g c =
    let source = c.args.self.now in
    let history = source.history.now in
    let pass = source.pass in
    let rest = drop source.to source.buffer.items in
    let before = c.requires.feeds.0 in
    let now = c.args.evaluator.now in
    let was = c.requires.feeds.1.on.feeds_from in
    let on = c.requires.feeds.2 in
    let stands = c.requires.stands in
    let view = c.in_ok-view.view.value in
    let given = take source.count (entries pass.seen) in
    let sees = c.in_ok-view.ensures.view given stands in
    let some : 0 < history.readers = omega (arith, c.readers.ensures) in
    let last = c.in-Err-Behind.field-0-0 in
    let said : c.publish.result ≡ Err (Behind last) =
    c.in-Err-Behind.is ∙ ap (λ (fault : PublishFault). Err fault) c.in-Err-Behind.field-0-is in
    let both = (c.publish.ensures.behind last).0 said in
    omega (
      arith,
      both.0,
      both.1,
      is_ahead history pass source.count rest before now was on stands some,
      view_place history pass source.count rest before now was on stands some view sees,
      place_now history pass source.count rest before now was on stands,
    )

pub publish-requires-clause-there : goal.publish-requires-clause-there
publish-requires-clause-there g c =
    let source = c.args.self.now in
    let history = source.history.now in
    let pass = source.pass in
    let rest = drop source.to source.buffer.items in
    let before = c.requires.feeds.0 in
    let now = c.args.evaluator.now in
    let was = c.requires.feeds.1.on.feeds_from in
    let on = c.requires.feeds.2 in
    let stands = c.requires.stands in
    let view = c.in_ok-view.view.value in
    let given = take source.count (entries pass.seen) in
    let sees = c.in_ok-view.ensures.view given stands in
    let some : 0 < history.readers = omega (arith, c.readers.ensures) in
    view_there history pass source.count rest before now was on stands some view sees

pub publish-requires-clause-shows : goal.publish-requires-clause-shows
publish-requires-clause-shows g c =
    let source = c.args.self.now in
    let history = source.history.now in
    let pass = source.pass in
    let rest = drop source.to source.buffer.items in
    let before = c.requires.feeds.0 in
    let now = c.args.evaluator.now in
    let was = c.requires.feeds.1.on.feeds_from in
    let on = c.requires.feeds.2 in
    let stands = c.requires.stands in
    let view = c.in_ok-view.view.value in
    let given = take source.count (entries pass.seen) in
    let sees = c.in_ok-view.ensures.view given stands in
    let some : 0 < history.readers = omega (arith, c.readers.ensures) in
    view_shows history pass source.count rest before now was on stands some view sees

pub returns-in-Ok-clause-has : goal.returns-in-Ok-clause-has
returns-in-Ok-clause-has g c =
    let source = c.args.self.now in
    let history = source.history.now in
    let pass = source.pass in
    let rest = drop source.to source.buffer.items in
    let before = c.requires.feeds.0 in
    let now = c.args.evaluator.now in
    let was = c.requires.feeds.1.on.feeds_from in
    let on = c.requires.feeds.2 in
    let stands = c.requires.stands in
    let view = c.in_ok-view.view.value in
    let given = take source.count (entries pass.seen) in
    let sees = c.in_ok-view.ensures.view given stands in
    let some : 0 < history.readers = omega (arith, c.readers.ensures) in
    let same = given_published history pass source.count rest before now was on stands
    c.view.new.self c.view.ensures.keeps c.view.ensures.position c.publish.new.pass view.position
    (view_place history pass source.count rest before now was on stands some view sees)
    c.in-Ok.ensures.line in
    record {
      same_home = refl;
      same_given = same;
      same_kept = kept_with source.past (take source.from source.buffer.items) (entries pass.seen)
          (entries c.publish.new.pass.seen) source.from source.to source.count same;
      same_front = refl;
    }

pub returns-in-Ok-clause-ok : goal.returns-in-Ok-clause-ok
returns-in-Ok-clause-ok g c =
    let source = c.args.self.now in
    let history = source.history.now in
    let pass = source.pass in
    let rest = drop source.to source.buffer.items in
    let before = c.requires.feeds.0 in
    let now = c.args.evaluator.now in
    let was = c.requires.feeds.1.on.feeds_from in
    let on = c.requires.feeds.2 in
    let stands = c.requires.stands in
    let view = c.in_ok-view.view.value in
    let given = take source.count (entries pass.seen) in
    let sees = c.in_ok-view.ensures.view given stands in
    let some : 0 < history.readers = omega (arith, c.readers.ensures) in
    let same = given_published history pass source.count rest before now was on stands
    c.view.new.self c.view.ensures.keeps c.view.ensures.position c.publish.new.pass view.position
    (view_place history pass source.count rest before now was on stands some view sees)
    c.in-Ok.ensures.line in
    record {
      on = feeds_with history pass c.publish.new.pass source.past source.buffer.items source.from
          source.to source.count before c.view.new.self c.requires.feeds.1.on same
          (omega (
            arith,
            c.view.ensures.position,
            place_now history pass source.count rest before now was on stands,
          ))
          (feeds_published history pass source.count rest before now was on stands c.view.new.self
          c.view.ensures.keeps c.view.ensures.position c.publish.new.pass view.position
          (view_place history pass source.count rest before now was on stands some view sees)
          c.in-Ok.ensures.line);
      noted = noted_published history pass source.count rest before now was on stands
          c.view.new.self c.view.ensures.keeps c.view.ensures.position c.publish.new.pass
          view.position
          (view_place history pass source.count rest before now was on stands some view sees)
          c.in-Ok.ensures.line source.shown source.known c.requires.feeds.1.noted;
    }

-- the view is put off
pub returns-then-may_put_off-clause-ok : goal.returns-then-may_put_off-clause-ok
returns-then-may_put_off-clause-ok g c =
    let source = c.args.self.now in
    let history = source.history.now in
    let pass = source.pass in
    let rest = drop source.to source.buffer.items in
    let before = c.requires.feeds.0 in
    let now = c.args.evaluator.now in
    let fed = c.requires.feeds.1 in
    let on = c.requires.feeds.2 in
    let stands = c.requires.stands in
    let may = c.may_put_off.ensures c.if-may_put_off.true in
    record {
      on = feeds_with history pass pass source.past source.buffer.items source.from source.to
          source.count before now fed.on refl
          (omega (
            arith,
            place_now history pass source.count rest before now fed.on.feeds_from on stands,
          ))
          (feeds_put_off history pass source.count rest before now fed.on.feeds_from on stands now
          (record { queries = refl; options = refl; workers = refl }) refl source.shown source.known
          fed.noted may.0 may.1);
      noted = fed.noted;
    }
