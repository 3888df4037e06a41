use Rattle.std.proofs.Common.{ℕ, List, [], ◌∷◌, ◌++◌, length, map, sym, ap, subst}
use Rattle.std.proofs.Common.{◌∙◌, arith}
use Rattle.std.specs.Vec.Iter.{into_iter_items}
use Rattle.std.proofs.lemmas.List.Elements.{All-head, All-tail, All-same}
use Rattle.history_model.specs.Lines.{published}
use Rattle.ask_text.specs.Answered.{AnsweredValue}
use Rattle.ask_text.specs.Ranges.{IsInRange}
use Rattle.stream_threads.specs.Sessions.{AreReplies, RisesTo}
use Rattle.stream_threads.proofs.Seen.{is_front}
use Rattle.stream_threads.proofs.Replying.{replies_grow, replies_push, rises_push, rises_more}
use Rattle.stream_threads.proofs.Replying.{asked_more, told_more}
use Rattle.stream_threads.proofs.Serving.{not_all}
use Rattle.stream_threads.proofs.session_worker.serve_session.Goals as goal

pub answer-requires-clause-range : goal.answer-requires-clause-range
answer-requires-clause-range g c κs within =
    let step = c.in-Some.ensures.steps in
    let Ranges = IsInRange (length c.args.shared.now.queries.now) in
    All-head Ranges c.in-Some.ask (into_iter_items c.next.new.self)
    (All-same Ranges _ _ (sym step.0) c.loop-ask.invariant.ranges)

pub returns-in-Err : goal.returns-in-Err
returns-in-Err g c =
    let was = c.loop-ask.invariant in
    let history = c.args.shared.now.history.now in
    let answers = c.loop-ask.work.answers.items in
    let before = c.loop-ask.work.pass.seen in
    let after = c.answer.new.work.pass.seen in
    let seen = c.answer.ensures.seen in
    let same = c.in-Err.ensures.unanswered in
    let left = into_iter_items c.loop-ask.ask-iterator in
    let front = is_front after before seen.seen c.fronts_are_legal.ensures history.terms.streams
    history.terms.cap seen.legal in
    let asked = ap (λ (l : List AnsweredValue). map (λ (a : AnsweredValue). a.ask) l ++ left) same
    ∙ was.asked in
    record {
      is = seen.is;
      number = seen.number ∙ was.same;
      asked = (left, sym asked);
      all = λ h. absurd cc;
      short = λ h. not_all _ left _ asked (omega (arith, ap length c.in-Some.ensures.steps.0));
      replies = subst (AreReplies history after) (sym same)
          (replies_grow answers history after before seen.seen was.replies);
      rises = subst (λ (l : List AnsweredValue). RisesTo 0 l (published after)) (sym same)
          (rises_more answers 0 (published before) (published after) was.rises front.rises);
      told = c.in-Err.ensures.untold
          ∙ (was.told ∙ ap (map (λ (a : AnsweredValue). a.position)) (sym same));
    }

pub loop-ask-preserved : goal.loop-ask-preserved
loop-ask-preserved g c =
    let was = c.loop-ask.invariant in
    let history = c.args.shared.now.history.now in
    let answers = c.loop-ask.work.answers.items in
    let before = c.loop-ask.work.pass.seen in
    let after = c.answer.new.work.pass.seen in
    let did = c.in-Ok.ensures.more in
    let seen = c.answer.ensures.seen in
    let step = c.in-Some.ensures.steps in
    let Ranges = IsInRange (length c.args.shared.now.queries.now) in
    let front = is_front after before seen.seen c.fronts_are_legal.ensures history.terms.streams
    history.terms.cap seen.legal in
    record {
      next = tt;
      finite = tt;
      left_over = omega (arith, was.left_over, ap length step.0);
      asked = ap (λ (l : List AnsweredValue). map (λ (a : AnsweredValue). a.ask) l
          ++ into_iter_items c.next.new.self) did.kept
          ∙ asked_more answers did.answered c.in-Some.ask _
          (into_iter_items c.next.new.self) _ was.asked step.0 did.ask_is;
      ranges = All-tail Ranges c.in-Some.ask (into_iter_items c.next.new.self)
          (All-same Ranges _ _ (sym step.0) was.ranges);
      is = seen.is;
      same = seen.number ∙ was.same;
      replies = subst (AreReplies history after) (sym did.kept)
          (replies_push answers history after before did.answered seen.seen
          was.replies did.reply);
      rises = subst (λ (l : List AnsweredValue). RisesTo 0 l (published after)) (sym did.kept)
          (rises_push answers 0 (published before) (published after) did.answered
          was.rises (omega (arith, front.rises, did.at)) (omega (arith, did.at)));
      told = told_more answers did.answered _ _ _ was.told did.kept
          (c.in-Ok.ensures.told
          ∙ ap (λ (n : ℕ). c.loop-ask.work.told ++ n ∷ []) (sym did.at));
      ample = c.answer.ensures.memory ∙ was.ample;
    }
