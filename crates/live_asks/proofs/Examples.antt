-- Some lines and texts, by going through them.
use Rattle.std.proofs.Common.{refl}
use Rattle.text_parts.specs.Lines.{raw_lines, without_return}
use Rattle.text_parts.specs.Fields.{fields}
use Rattle.text_parts.specs.Numbers.{number_within}
use Rattle.std.specs.Fmt.{digits}
use Rattle.rpq_model.specs.Query.{query_named}
use Rattle.ask_text.specs.Reading.{position_of, ask_of_one, ask_of_two, ask_of_fields}
use Rattle.text_items.specs.Items.{items_of_lines, items_from}
use Rattle.live_asks.specs.Items.{ends_reader, fields_ask, line_asks}
use Rattle.live_asks.specs.Examples.{LiveExamples}

pub live_examples : LiveExamples
unfolding raw_lines without_return fields number_within digits query_named position_of ask_of_one
    ask_of_two ask_of_fields items_of_lines items_from ends_reader fields_ask line_asks
live_examples = record {
  blank = λ queries number. refl;
  comment = λ queries number. refl;
  ask = λ query number is. rw is refl;
  end = λ queries number. refl;
  no_end = λ queries number. refl;
  session = λ queries number. refl;
  empty = λ queries. refl;
  goes_on = λ queries. refl;
  left = λ queries. refl;
  text = refl;
}
