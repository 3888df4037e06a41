use Rattle.std.proofs.Common.{◌≡◌, ℕ, ◌+◌, ◌-◌, [], ◌∷◌, length, map, refl, sym, ap, ap₂, ◌∙◌, arith}
use Rattle.std.proofs.Common.{length-append}
use Rattle.std.specs.List.{All}
use Rattle.std.specs.Vec.Iter.{into_iter_items}
use Rattle.std.proofs.lemmas.List.Elements.{All-head, All-tail, All-same}
use Rattle.ask_text.specs.Ranges.{IsInRange}
use Rattle.stream_threads.specs.declared.session_work.SessionWork.{SessionWork}
use Rattle.stream_threads.specs.Started.{new_pass, new_passes}
use Rattle.stream_threads.proofs.Numbering.{yields_more, next_new, new_length}
use Rattle.stream_threads.proofs.Serving.{new_more, asks_more}
use Rattle.stream_threads.proofs.session_work.session_works.Goals as goal

pub loop-session-init : goal.loop-session-init
loop-session-init c =
    let history = c.args.history.now in
    let from : ℕ = 1 + history.terms.streams in
    let items = c.requires.passes in
    let n = new_length history from history.readers in
    let gives = c.into_iter-session-iterator.ensures.into_iter_gives in
    let many : length (into_iter_items c.into_iter-session-iterator.result)
    ≡ length c.args.sessions.items = ap length gives.0 in
    let start : from ≡ from + 0 = omega arith in
    record {
      next = tt;
      finite = tt;
      whole = gives.0;
      left_over = omega (arith, gives.1, many);
      given = items ∙ ap₂ (new_passes history) start (omega (arith, many, c.requires.few.1));
      passes = omega (
        arith,
        many,
        ap length items ∙ n,
        c.args.passes.now.rest.ok.0,
        c.requires.few.1,
      );
      room = omega (arith, many, c.requires.room.1, ap length c.requires.room.0);
      new = λ i d below.
          absurd (let no : ⊥ = omega (arith, below, ap length c.requires.room.0) in no);
      asks = ap (map (λ (work : SessionWork). work.asks.items)) c.requires.room.0;
      many = omega (arith, ap length c.requires.room.0);
      count = refl;
      few = omega (arith, many, c.requires.few.0);
      ranges = All-same (All (IsInRange (length history.terms.queries))) _ _ gives.0
          c.requires.asks;
    }

pub loop-session-preserved : goal.loop-session-preserved
loop-session-preserved c =
    let was = c.loop-session.invariant in
    let history = c.args.history.now in
    let step = c.in-Some.ensures.steps in
    let pushed = c.push_reserved.ensures in
    let session = c.in-Some.session in
    let made = c.new_work.ensures in
    let Ranges = IsInRange (length history.terms.queries) in
    let from : ℕ = 1 + history.terms.streams + length c.loop-session.yielded in
    let more = length-append c.loop-session.yielded (session ∷ []) in
    let rest = into_iter_items c.next.new.self in
    let n : length (into_iter_items c.loop-session.session-iterator) ≡ length rest + 1 =
    simp step.0 (omega arith) in
    let behind : ℕ = history.readers - length c.args.sessions.items in
    let new = next_new history from _ (length rest + behind) _ _ _ was.given
    c.in-Some-next.ensures.cases.0 (omega (arith, n)) in
    let number : from ≡ history.terms.streams + c.new_work.result.number =
    omega (arith, made.number, was.count) in
    record {
      next = tt;
      finite = tt;
      whole = yields_more _ _ _ _ _ was.whole step.0;
      left_over = omega (arith, was.left_over, n);
      given = new.1 ∙ ap (λ k. new_passes history k (length rest + behind)) (omega (arith, more));
      passes = omega (arith, c.in-Some-next.ensures.cases.1, was.passes, n);
      room = omega (arith, was.room, n, pushed.len, pushed.capacity);
      new = new_more history _ _ c.new_work.result was.new pushed.items
          (record {
            pass = made.pass ∙ (new.0 ∙ ap (new_pass history) number);
            asks = All-same Ranges _ _ made.asks
                (All-head (All Ranges) session rest (All-same (All Ranges) _ _ (sym step.0)
                was.ranges));
            none = made.answers;
            untold = made.told;
            ample = made.memory;
          }) (omega (arith, made.number, was.count, was.many));
      asks = asks_more _ _ c.new_work.result _ session was.asks pushed.items made.asks;
      many = omega (arith, was.many, more, pushed.len);
      count = omega (arith, was.count, more);
      few = omega (arith, was.few, more, n);
      ranges = All-tail (All Ranges) session rest (All-same (All Ranges) _ _ (sym step.0)
          was.ranges);
    }
