use Rattle.std.proofs.Common.{◌≡◌, length, take, drop, sym, ap, ◌∙◌, arith}
use Rattle.std.specs.Vec.{vec_len}
use Rattle.std.proofs.lemmas.Bool.{eqb-true}
use Rattle.history_model.specs.Lines.{entries, published}
use Rattle.stream_history.specs.declared.calls.Front.{Front}
use Rattle.stream_threads.proofs.Seen.{entries_grow}
use Rattle.rpq_threads.proofs.ComingNext.{none_comes_then, none_put_off, of_found}
use Rattle.rpq_threads.proofs.entries.hear_more.Goals as goal

pub after-requires-clause-engine : goal.after-requires-clause-engine
after-requires-clause-engine g c = record {
  is = c.loop.invariant.is;
  number = c.loop.invariant.same ∙ c.requires.feeds.is.number;
}

pub after-requires-clause-there : goal.after-requires-clause-there
after-requires-clause-there g c =
    omega (
      arith,
      c.requires.there,
      entries_grow c.loop.pass.seen c.args.pass.now.seen c.loop.invariant.starts,
    )

pub after-requires-clause-published : goal.after-requires-clause-published
after-requires-clause-published g c = λ some.
    omega (arith, (c.requires.told some).near, ap published c.loop.invariant.own)

pub sleep_until_entries-requires-clause-answered :
    goal.sleep_until_entries-requires-clause-answered
sleep_until_entries-requires-clause-answered g c =
    let empty = eqb-true (vec_len c.in-Some-2.front.entries) 0
    (sym c.is_empty.ensures ∙ c.if-not-is_empty.false) in
    let none : length c.in-Some-2.front.entries.items ≡ 0 =
    omega (arith, empty, c.in-Some-2.front.entries.ok.0) in
    none_comes_then c.args.history.now c.loop.pass c.after.new.pass c.args.count
    (omega (
      arith,
      c.requires.there,
      entries_grow c.loop.pass.seen c.args.pass.now.seen c.loop.invariant.starts,
    )) c.after.ensures.pass c.in-Some-2.front.entries.items
    (of_found c.in_ok-front.field-0 c.in-Some-2.front
    (λ (front : Front). front.entries.items
    ≡ take 256 (drop c.args.count (entries c.after.new.pass.seen))) c.in-Some-2.is
    c.in_ok-front.ensures.entries) none

pub sleep_until_entries-requires-clause-published :
    goal.sleep_until_entries-requires-clause-published
sleep_until_entries-requires-clause-published g c = λ some.
    let all = sleep_until_entries-requires-clause-answered g c in
    ap published c.after.ensures.pass.mine
    ∙ (ap published c.loop.invariant.own
    ∙ none_put_off c.args.history.now c.args.pass.now c.loop.pass c.after.new.pass c.args.count
    c.loop.invariant.starts c.after.ensures.pass all (c.requires.told some))
