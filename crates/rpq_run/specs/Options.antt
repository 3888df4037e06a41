-- How a run with some settings evaluates its queries, and what it tells of them.
use Rattle.std.specs.Prelude.{List}
use Rattle.join_file.specs.Joins.{JoinValue}
use Rattle.rpq_words.specs.declared.settings.Settings.{Settings}
use Rattle.rpq_words.specs.Views.{paths_of, two_way_of}
use Rattle.entry_steps.specs.Steps.{OptionsValue}

-- edges are taken backwards, and paths are told, as the settings say; and the bindings of these
-- joins are told
abbrev pub options_of : Settings → List JoinValue → OptionsValue
options_of given joins =
    record { two_way = two_way_of given; paths = paths_of given; joins = joins }
