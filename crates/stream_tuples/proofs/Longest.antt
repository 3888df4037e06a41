-- The longest lines and streams.
use Rattle.std.proofs.Common.{ap, ◌∙◌, arith}
use Rattle.std.proofs.lemmas.List.{take_all}
use Rattle.stream_tuples.specs.declared.faults.FaultPolicy.TheVariants.{Stop}
use Rattle.stream_tuples.specs.Limits.{byte_limit, endless_byte_limit}
use Rattle.stream_tuples.specs.StreamText.{tuples_from, cut_tuples}
use Rattle.stream_tuples.specs.Laws.{LimitExamples}
use Rattle.stream_tuples.proofs.StreamTexts.{short_gives, long_gives, within, beyond}
use Rattle.stream_tuples.proofs.ByteLimits.{kept_limit, endless_limit}

pub limit_examples : LimitExamples
limit_examples = record {
  longest_line = λ number line is. short_gives Stop number line (omega (arith, is));
  longer_line = λ number line is. long_gives Stop number line (omega (arith, is));
  longest_stream = λ text is. within Stop text 1 byte_limit (omega (arith, is));
  longer_stream = λ text is. beyond Stop text 1 byte_limit (omega (arith, is))
      ∙ ap (cut_tuples Stop 1) (take_all byte_limit text (omega (arith, is)));
  in_kept = λ cap text few. ap (λ limit. tuples_from Stop 1 limit text) (kept_limit cap few);
  longest_endless = λ cap text many is.
      ap (λ limit. tuples_from Stop 1 limit text) (endless_limit cap many)
      ∙ within Stop text 1 endless_byte_limit (omega (arith, is));
  longer_endless = λ cap text many is.
      ap (λ limit. tuples_from Stop 1 limit text) (endless_limit cap many)
      ∙ (beyond Stop text 1 endless_byte_limit (omega (arith, is))
      ∙ ap (cut_tuples Stop 1) (take_all endless_byte_limit text (omega (arith, is))));
}
