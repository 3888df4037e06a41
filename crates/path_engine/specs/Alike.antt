-- Engines that stand for histories which their queries see alike, as a law.
use Rattle.std.specs.Prelude.{List}
use Rattle.rpq_base.specs.declared.data.Entry.{Entry}
use Rattle.alike_histories.specs.Alike.{AllSeeAlike}
use Rattle.path_engine.specs.Engine.{EngineValue, StandsFor, definitions}

-- an engine that stands for a history stands for each other one that its queries see alike
abbrev pub StandsForAlike : Type 0
StandsForAlike = (engine : EngineValue) (history other : List Entry) →
    AllSeeAlike (definitions engine) history other → StandsFor engine history →
    StandsFor engine other
