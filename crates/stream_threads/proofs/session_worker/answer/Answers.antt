use Rattle.std.proofs.Common.{◌≡◌, ℕ, List, [], ◌∷◌, ◌++◌, ap, ◌∙◌, rules}
use Rattle.ask_text.specs.Answered.{AnsweredValue}
use Rattle.stream_threads.proofs.session_worker.answer.Goals as goal

pub returns-clause-more : goal.returns-clause-more
returns-clause-more g c =
    let answered = c.in_ok-answered.answered in
    record {
      answered = answered;
      ask_is = c.in_ok-answered.ensures.ask;
      reply = c.in_ok-answered.ensures.reply;
      at = c.in_ok-answered.ensures.at;
      kept = c.push_reserved.ensures.items
          ∙ ap (λ (l : List AnsweredValue). l ++ answered ∷ []) c.reserve.ensures.items;
    }

pub returns-clause-told : goal.returns-clause-told
returns-clause-told g c =
    let same : c.answered.inside.position ≡ c.in_ok-answered.answered.position = search rules in
    c.tell_gate.ensures
    ∙ ap (λ (n : ℕ). c.args.work.now.told ++ n ∷ []) (same ∙ c.in_ok-answered.ensures.at)
