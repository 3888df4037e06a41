use Rattle.std.proofs.Common.{sym, ap, ◌∙◌}
use Rattle.live_asks.specs.Answers.{Told, Refused, TooLong}
use Rattle.live_asks.specs.declared.item.ReaderItem.TheVariants.{Asked}
use Rattle.ask_text.specs.declared.ask.Ask.{Ask}
use Rattle.stream_threads.proofs.reader_worker.text_of_answer.Goals as goal

pub returns-in-Some-clause-err : goal.returns-in-Some-clause-err
returns-in-Some-clause-err g c = (c.in_ok-why.ensures.shut c.in-Some.why).0 c.in-Some.is

pub returns-in_ok-fresh_reply-in-Asked-clause-ok : goal.returns-in_ok-fresh_reply-in-Asked-clause-ok
returns-in_ok-fresh_reply-in-Asked-clause-ok g c =
    let one = c.in_ok-fresh_reply-in-Asked.field-0 in
    let did = c.in_ok-fresh_reply-in-Asked.ensures in
    record {
      answer = Told one;
      answered = record {
        is = ap (λ (ask : Ask). Asked ask) did.ask ∙ sym c.in-Asked.is;
        reply = did.reply;
        at = did.at;
      };
      text_is = c.into_text.ensures;
    }

pub returns-in_ok-refusal_of_fault-in-Faulty-clause-ok :
    goal.returns-in_ok-refusal_of_fault-in-Faulty-clause-ok
returns-in_ok-refusal_of_fault-in-Faulty-clause-ok g c = record {
  answer = Refused c.in-Faulty.fault;
  answered = record { is = sym c.in-Faulty.is; reply = tt; at = tt };
  text_is = c.in_ok-refusal_of_fault-in-Faulty.ensures;
}

pub returns-in_ok-refusal_of_long-in-Long-clause-ok :
    goal.returns-in_ok-refusal_of_long-in-Long-clause-ok
returns-in_ok-refusal_of_long-in-Long-clause-ok g c = record {
  answer = TooLong c.in-Long.line;
  answered = record { is = sym c.in-Long.is; reply = tt; at = tt };
  text_is = c.in_ok-refusal_of_long-in-Long.ensures;
}
