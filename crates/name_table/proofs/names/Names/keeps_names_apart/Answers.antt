use Rattle.std.proofs.Common.{[], subst}
use Rattle.std.specs.List.{IsDistinct}
use Rattle.rpq_base.specs.Same.{same_name}
use Rattle.std.proofs.lemmas.Option.{slice_get-get_or}
use Rattle.name_table.proofs.Numbers.{number_at}
use Rattle.name_table.proofs.names.Names.keeps_names_apart.Goals as goal

pub returns : goal.returns
returns c = λ number within.
    number_at c.args.self.now number _
    (subst (IsDistinct same_name) c.self.view_is c.self.invariant.0.apart)
    (slice_get-get_or c.args.self.now number [] within)
