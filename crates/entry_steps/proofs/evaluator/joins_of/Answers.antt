use Rattle.std.proofs.Common.{◌≡◌, length, sym, subst, ◌∙◌, rules}
use Rattle.std.specs.List.{All}
use Rattle.join_file.specs.Sound.{IsSound}
use Rattle.entry_steps.proofs.Taking.{have_at_first}
use Rattle.entry_steps.proofs.evaluator.joins_of.Goals as goal

pub new-requires-clause-sound : goal.new-requires-clause-sound
new-requires-clause-sound g c =
    let same : c.in_ok-joins.joins.value.items ≡ c.args.options.now.joins = search rules in
    subst (All (IsSound (length c.args.definitions.now))) (sym same) c.requires.sound

pub returns : goal.returns
returns g c =
    let same : c.in_ok-joins.joins.value.items ≡ c.args.options.now.joins = search rules in
    let made = c.in_ok-new.ensures in
    have_at_first c.args.options.now.two_way c.args.options.now.joins c.args.definitions.now
    c.in_ok-new.field-0 (made.joins ∙ same) made.fresh made.many made.blank
