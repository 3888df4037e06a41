-- A query with its verdict line.
use Rattle.std.specs.Prelude.{codes}
use Rattle.rpq_model.specs.declared.mode.Mode.TheVariants.{Simple}
use Rattle.rpq_text.specs.Examples.{query_named}
use Rattle.rpq_text.specs.Verdicts.{IsVerdictLine}

-- the query for the label "a" has two states, the start and the one that the label leads to
abbrev pub VerdictExample : Type 0
VerdictExample =
    IsVerdictLine (query_named (codes "r") Simple) (codes "r simple states 2 yes\n")
