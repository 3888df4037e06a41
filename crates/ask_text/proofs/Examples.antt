-- Some files and replies, by going through them.
use Rattle.std.proofs.Common.{◌≡◌, ℕ, ◌<◌, true, refl}
use Rattle.std.proofs.lemmas.Bool.{ltb-true}
use Rattle.std.specs.Fmt.{digits}
use Rattle.text_parts.specs.Lines.{raw_lines, without_return}
use Rattle.text_parts.specs.Fields.{fields}
use Rattle.text_parts.specs.Numbers.{number_within}
use Rattle.text_parts.specs.Reading.{reached}
use Rattle.rpq_base.specs.Names.{is_name}
use Rattle.rpq_model.specs.Query.{query_named}
use Rattle.ask_text.specs.Reading.{vertex_of, position_of, ask_of_one, ask_of_two, vertex_at}
use Rattle.ask_text.specs.Reading.{ask_of_three, pair_of, ask_of_four, ask_of_fields}
use Rattle.ask_text.specs.Asks.{begun, grown, begins_session, asked, after_fields, after_line}
use Rattle.ask_text.specs.Asks.{asks}
use Rattle.ask_text.specs.Reply.{answers_text, from_text, ends_text, to_text, pair_text, count_text}
use Rattle.ask_text.specs.Reply.{stats_text, clock_text, wait_text, told, reply}
use Rattle.ask_text.specs.declared.ask.Ask.{Ask}
use Rattle.ask_text.specs.declared.ask.Ask.TheVariants.{Answers, From, Pair, Count, Wait, Until}
use Rattle.ask_text.specs.declared.ask.Ask.TheVariants.{Stats, Clock, Ends, To}
use Rattle.ask_text.specs.Ranges.{ended_at}
use Rattle.ask_text.specs.Examples.{AskExamples, EndedExamples, ReplyExamples}

pub ask_examples : AskExamples
unfolding raw_lines without_return fields number_within is_name query_named vertex_of position_of
    ask_of_one ask_of_two vertex_at ask_of_three pair_of ask_of_four ask_of_fields begun grown begins_session asked
    after_fields after_line reached asks
ask_examples = record {
  empty = refl;
  no_asks = refl;
  all_six = λ query is. rw is refl;
  other_four = λ query is. rw is refl;
  blanks = λ query is. rw is refl;
  before = λ queries. refl;
  unknown = λ query is. rw is refl;
  counted = λ queries. refl;
  lone = λ queries. refl;
  no_source = λ query is. rw is refl;
  no_name = λ query is. rw is refl;
  first_fault = λ query is. rw is refl;
  beyond = λ queries. refl;
}

pub reply_examples : ReplyExamples
unfolding digits answers_text from_text ends_text to_text pair_text count_text stats_text clock_text
    wait_text told reply
reply_examples = record {
  answers = λ query is. rw is refl;
  from = λ query is. rw is refl;
  no_row = λ query is. rw is refl;
  pair = λ query is. rw is refl;
  no_pair = λ query is. rw is refl;
  count = λ query is. rw is refl;
  count_none = λ query is. rw is refl;
  until = λ query is. rw is refl;
  none = λ query is. rw is refl;
  stats = λ query is. rw is refl;
  clock = λ queries. refl;
  no_clock = λ queries. refl;
  ends = λ query is. rw is refl;
  no_ends = λ query is. rw is refl;
  to = λ query is. rw is refl;
  no_source = λ query is. rw is refl;
  wait = λ queries. refl;
  ended = λ queries. refl;
  sessions = refl;
}

-- an ask that is told as ended is a wait for a later position
ended_waits : (ask : Ask) (position : ℕ) → ended_at ask position ≡ true
    → (number : ℕ) × (ask ≡ Wait number) × (position < number)
ended_waits (Answers query) position is = absurd cc
ended_waits (From query from) position is = absurd cc
ended_waits (Pair query from to) position is = absurd cc
ended_waits (Count query) position is = absurd cc
ended_waits (Wait number) position is = (number, refl, ltb-true position number is)
ended_waits (Until query from to) position is = absurd cc
ended_waits Stats position is = absurd cc
ended_waits Clock position is = absurd cc
ended_waits (Ends query from) position is = absurd cc
ended_waits (To query to) position is = absurd cc

pub ended_examples : EndedExamples
unfolding digits wait_text told reply
ended_examples = record {
  beyond = λ queries. refl;
  there = λ queries. refl;
  before = λ queries. refl;
  others = ended_waits;
}
