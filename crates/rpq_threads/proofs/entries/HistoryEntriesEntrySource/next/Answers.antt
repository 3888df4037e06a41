use Rattle.std.proofs.Common.{◌≡◌, ℕ, ◌+◌, ◌≤◌, true, false, nat_lt, List, [], take}
use Rattle.std.proofs.Common.{drop}
use Rattle.std.proofs.Common.{length, length-drop, sym, ap, subst, ◌∙◌, arith}
use Rattle.std.proofs.lemmas.Bool.{ltb-true, ltb-false}
use Rattle.std.proofs.lemmas.List.{append-nil, nil_from_length, drop-take, length-take-le}
use Rattle.rpq_base.proofs.Outcomes.{on_err}
use Rattle.rpq_base.specs.declared.data.Entry.{Entry}
use Rattle.engine_loop.specs.Sources.{ComesNext}
use Rattle.history_model.specs.Lines.{entries}
use Rattle.rpq_threads.proofs.ComingNext.{these_come_next}
use Rattle.rpq_threads.proofs.Keeping.{feeds_next, kept_next, front_none}
use Rattle.rpq_threads.proofs.entries.HistoryEntriesEntrySource.next.Goals as goal

pub fill-requires : goal.fill-requires
fill-requires g c =
    let source = c.args.self.now in (
      c.args.evaluator.now,
      c.requires.feeds,
      c.requires.done.0 ∙ length-take-le source.count (entries source.pass.seen)
          c.requires.feeds.on.feeds_from.rest_comes.there,
    )

pub returns-in_err-fill-clause-feeds : goal.returns-in_err-fill-clause-feeds
returns-in_err-fill-clause-feeds g c =
    let source = c.args.self.now in
    c.fill.ensures.feeds c.args.evaluator.now c.requires.feeds
    (c.requires.done.0 ∙ length-take-le source.count (entries source.pass.seen)
    c.requires.feeds.on.feeds_from.rest_comes.there)

pub returns-in_err-fill-clause-err : goal.returns-in_err-fill-clause-err
returns-in_err-fill-clause-err g c =
    let source = c.args.self.now in
    on_err c.from_residual.result (
      [],
      c.fill.ensures.given ∙ sym (append-nil (take source.count (entries source.pass.seen))),
    )

pub returns-clause-feeds : goal.returns-clause-feeds
returns-clause-feeds g c =
    let source = c.args.self.now in
    let mid = c.fill.new.self in
    let n = c.min-more.result in
    let buffer = mid.buffer.items in
    let place : c.args.evaluator.now.position ≡ source.count = c.requires.done.0
    ∙ length-take-le source.count (entries source.pass.seen)
    c.requires.feeds.on.feeds_from.rest_comes.there in
    let fed = c.fill.ensures.feeds c.args.evaluator.now c.requires.feeds place in
    let within : n ≤ length (drop mid.to buffer) = omega (
      arith,
      c.min-more.ensures,
      length-drop mid.to buffer,
      c.len.ensures,
      mid.buffer.ok.0,
    ) in
    record {
      on = feeds_next mid.history.now mid.pass mid.past buffer mid.from mid.to mid.count n
          c.args.evaluator.now within (place ∙ sym c.fill.ensures.count) fed.on;
      noted = fed.noted;
    }

pub returns-clause-kept : goal.returns-clause-kept
returns-clause-kept g c =
    let mid = c.fill.new.self in
    kept_next mid.past (take mid.to mid.buffer.items) (entries mid.pass.seen) mid.to mid.count
    c.min-more.result
    ∙ c.in_ok-fill.ensures.kept

pub returns-clause-more : goal.returns-clause-more
returns-clause-more g c = λ is.
    let source = c.args.self.now in
    let mid = c.fill.new.self in
    let n = c.min-more.result in
    let evaluator = c.args.evaluator.now in
    let buffer = mid.buffer.items in
    let rest = drop mid.to buffer in
    let fed = c.fill.ensures.feeds evaluator c.requires.feeds
    (c.requires.done.0 ∙ length-take-le source.count (entries source.pass.seen)
    c.requires.feeds.on.feeds_from.rest_comes.there) in
    let within : n ≤ length rest = omega (
      arith,
      c.min-more.ensures,
      length-drop mid.to buffer,
      c.len.ensures,
      mid.buffer.ok.0,
    ) in
    let told : nat_lt 0 n ≡ true = cc in
    let seen = entries mid.pass.seen in
    let given = take source.count (entries source.pass.seen) in
    subst (λ (front : List Entry). ComesNext evaluator given (take (mid.count + n) seen) front)
    (sym (drop-take mid.to n buffer))
    (subst (λ (before : List Entry). ComesNext evaluator before (take (mid.count + n) seen)
    (take n rest)) c.fill.ensures.given
    (these_come_next seen mid.count rest fed.on.feeds_from.rest_comes n within evaluator
    (omega (arith, ltb-true 0 n told))
    (λ paths. omega (arith, c.min-more.ensures, c.at_once.ensures.one paths))))

pub returns-clause-over : goal.returns-clause-over
returns-clause-over g c = λ is.
    let mid = c.fill.new.self in
    let n = c.min-more.result in
    let buffer = mid.buffer.items in
    let rest = drop mid.to buffer in
    let left = length-drop mid.to buffer in
    let told : nat_lt 0 n ≡ false = cc in
    let none : n ≡ 0 = omega (arith, ltb-false 0 n told) in
    let empty : rest ≡ [] = nil_from_length rest (omega (
      arith,
      none,
      c.min-more.ensures,
      c.at_once.ensures.some,
      left,
      c.len.ensures,
      mid.buffer.ok.0,
    )) in
    let over = c.in_ok-fill.ensures.ended empty in
    let to_first : mid.to + n ≡ 0 = omega (arith, none, over.0.to_first) in
    let count : mid.count + n ≡ mid.count = omega (arith, none) in (
      (
        over.1,
        count ∙ over.2,
        record { none = over.0.none; from_first = over.0.to_first; to_first = to_first },
      ),
      ap (λ (k : ℕ). take k (entries mid.pass.seen)) count ∙ c.fill.ensures.given,
      front_none mid.to (mid.to + n) buffer over.0.to_first to_first,
    )
