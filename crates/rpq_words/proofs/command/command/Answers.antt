use Rattle.std.proofs.Common.{◌∙◌, ap₂}
use Rattle.std.proofs.lemmas.Result.{IfOk-weaker}
use Rattle.clap.specs.Simple.{with_rule}
use Rattle.rpq_words.specs.Command.{rpq_command}
use Rattle.rpq_words.proofs.command.command.Goals as goal

pub returns : goal.returns
unfolding rpq_command
returns c =
    IfOk-weaker c.arg-16.result _ _
    (λ command added.
    added.shape c.any_words.ensures.local ∙ ap₂ with_rule
    (c.in_ok-arg-15.ensures.shape c.one_word.ensures.local ∙ ap₂ with_rule
    (c.in_ok-arg-14.ensures.shape c.option_again.ensures.local ∙ ap₂ with_rule
    (c.in_ok-arg-13.ensures.shape c.option_with_two.ensures.local ∙ ap₂ with_rule
    (c.in_ok-arg-12.ensures.shape c.flag-4.ensures.local ∙ ap₂ with_rule
    (c.in_ok-arg-11.ensures.shape c.option_with_value-7.ensures.local ∙ ap₂ with_rule
    (c.in_ok-arg-10.ensures.shape c.option_with_value-6.ensures.local ∙ ap₂ with_rule
    (c.in_ok-arg-9.ensures.shape c.option_with_value-5.ensures.local ∙ ap₂ with_rule
    (c.in_ok-arg-8.ensures.shape c.flag-3.ensures.local ∙ ap₂ with_rule
    (c.in_ok-arg-7.ensures.shape c.flag-2.ensures.local ∙ ap₂ with_rule
    (c.in_ok-arg-6.ensures.shape c.option_with_value-4.ensures.local ∙ ap₂ with_rule
    (c.in_ok-arg-5.ensures.shape c.flag.ensures.local ∙ ap₂ with_rule
    (c.in_ok-arg-4.ensures.shape c.option_with_value-3.ensures.local ∙ ap₂ with_rule
    (c.in_ok-arg-3.ensures.shape c.option_with_value-2.ensures.local ∙ ap₂ with_rule
    (c.in_ok-arg-2.ensures.shape c.option_with_value.ensures.local ∙ ap₂ with_rule
    (c.in_ok-arg.ensures.shape c.option_or.ensures.local ∙ ap₂ with_rule
    c.new.ensures.app c.option_or.ensures.rule) c.option_with_value.ensures.rule)
    c.option_with_value-2.ensures.rule) c.option_with_value-3.ensures.rule)
    c.flag.ensures.rule) c.option_with_value-4.ensures.rule) c.flag-2.ensures.rule)
    c.flag-3.ensures.rule) c.option_with_value-5.ensures.rule) c.option_with_value-6.ensures.rule)
    c.option_with_value-7.ensures.rule) c.flag-4.ensures.rule) c.option_with_two.ensures.rule)
    c.option_again.ensures.rule) c.one_word.ensures.rule) c.any_words.ensures.rule)
    c.arg-16.ensures
