-- The sources of the streams of a run, of which the first may read a saved window before its file.
use Rattle.std.specs.Prelude.{List, [], ◌∷◌, map, Option, None}
use Rattle.saved_window.specs.Then.{TwoSources}

-- two sources, of which the first may be missing
abbrev pub two_sources : {S : Type 0} → Option S → S → TwoSources S
two_sources first second = record { first = first; second = second }

-- the sources of each stream: that of its file, and for the first stream before that the source of
-- the saved window, if there is one
abbrev pub stream_sources : {S : Type 0} → Option S → List S → List (TwoSources S)
stream_sources from [] = []
stream_sources from (source ∷ sources) =
    two_sources from source ∷ map (two_sources None) sources
