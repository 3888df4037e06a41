-- The longest lines and texts.
use Rattle.std.proofs.Common.{ap, ◌∙◌, arith}
use Rattle.std.proofs.lemmas.List.{take_all}
use Rattle.text_items.specs.Items.{cut_items}
use Rattle.text_items.specs.Laws.{LimitExamples}
use Rattle.text_items.specs.Reading.{Reading}
use Rattle.text_items.proofs.Texts.{short_line, long_line, within, beyond}

pub limit_examples : {A E : Type 0} (reading : Reading A E) → LimitExamples reading
limit_examples reading = record {
  longest_line = λ number line is. short_line reading number line (omega (arith, is));
  longer_line = λ number line is. long_line reading number line (omega (arith, is));
  longest_text = λ limit text is. within reading text 1 limit (omega (arith, is));
  longer_text = λ limit text is. beyond reading text 1 limit (omega (arith, is))
      ∙ ap (cut_items reading 1) (take_all limit text (omega (arith, is)));
}
