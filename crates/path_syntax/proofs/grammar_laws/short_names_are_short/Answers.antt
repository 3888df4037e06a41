use Rattle.path_syntax.proofs.ShortNames.{short_names}
use Rattle.path_syntax.proofs.grammar_laws.short_names_are_short.Goals as goal

pub returns : goal.returns
returns c = short_names
