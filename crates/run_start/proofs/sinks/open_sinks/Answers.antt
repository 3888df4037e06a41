use Rattle.std.proofs.Common.{[], None, ℕ, List, Option, subst}
use Rattle.std.specs.Prelude.{option_to_list}
use Rattle.rpq_text.specs.declared.ends.Which.TheVariants.{Replies, Save}
use Rattle.rpq_words.specs.Views.{replies_of, save_of}
use Rattle.run_start.specs.Given.{file_names}
use Rattle.run_start.specs.Steps.{OpensSink}
use Rattle.run_start.proofs.SinkSteps.{no_step, replies_sink, save_sink, uses_sink}
use Rattle.run_start.proofs.sinks.open_sinks.Goals as goal

pub returns-clause-files : goal.returns-clause-files
returns-clause-files g c =
    let given = c.args.chosen.now in
    uses_sink given Save (option_to_list (replies_of given)) (save_of given) None c.args.files.now _ _ (save_sink given) tt
    (uses_sink given Replies [] (replies_of given) None c.args.files.now c.args.files.now _ (replies_sink given) tt
    (no_step given (file_names given) c.args.files.now) (subst (λ (name : Option (List ℕ)). OpensSink g.F.Files.holds g.F.Files.opened g.F.Files.made g.F.Files.unread
    g.F.Files.unmade Replies name None c.args.files.now c.open_optional_sink.new.files) c.replies.ensures
    c.in_ok-replies.ensures.files))
    (subst (λ (name : Option (List ℕ)). OpensSink g.F.Files.holds g.F.Files.opened g.F.Files.made g.F.Files.unread
    g.F.Files.unmade Save name None c.open_optional_sink.new.files c.open_optional_sink-2.new.files) c.save.ensures
    c.in_ok-save.ensures.files)
