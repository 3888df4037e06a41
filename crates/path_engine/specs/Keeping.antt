-- What entries leave as it was.
use Rattle.std.specs.Prelude.{◌≡◌, ℕ, List, [], ◌∷◌, ◌++◌, All, None}
use Rattle.std.specs.List.{AllZip}
use Rattle.rpq_base.specs.declared.data.Act.{Act}
use Rattle.rpq_base.specs.declared.data.Act.TheVariants.{Insert, Delete, Tick}
use Rattle.rpq_base.specs.declared.data.Entry.{Entry}
use Rattle.dfa_table.specs.DfaValue.{place_of}
use Rattle.name_table.specs.Names.{KeepsNumbers}
use Rattle.delta_forest.specs.Forest.{ForestValue, IsIndexed}
use Rattle.query_file.specs.Compiled.{CompiledValue}
use Rattle.query_index.specs.Index.{IsForestFor}
use Rattle.query_index.specs.Keeping.{KeepsForest}
use Rattle.path_engine.specs.Engine.{EngineValue, forests}

-- the act names no vertex that a query has to number: it inserts no edge, or one whose label is
-- strange to all of their automata
abbrev pub BringsNoName : Act → List CompiledValue → Type 0
BringsNoName (Insert edge until) queries =
    All (λ query. place_of query.dfa edge.label ≡ None) queries
BringsNoName (Delete edge) queries = Unit {0}
BringsNoName Tick queries = Unit {0}

-- each name keeps its number, and the forest of each query keeps what it has
pub record KeepsPlaces (act : Act) (old new : EngineValue) : Type 0 where
  pub names : KeepsNumbers old.names new.names
  pub forests : AllZip (KeepsForest act new.names) (forests old) (forests new)

-- these are the forests of the queries over the history: each keeps the bests of its store, and its
-- trees are optimal
abbrev pub AreForestsFor : List CompiledValue → List Entry → List (List ℕ) → List ForestValue →
    Type 0
AreForestsFor queries history names forests =
    AllZip (λ query forest. IsForestFor query history names forest × IsIndexed forest)
    queries forests

-- the forests of the queries over the history take these entries one after another: with each entry
-- they keep what they have, and afterwards they are those over the history with the entry behind
abbrev pub KeepForestsThrough : List Entry → List CompiledValue → List (List ℕ) → List Entry →
    List ForestValue → List ForestValue → Type 0
KeepForestsThrough [] queries names history olds news = news ≡ olds
KeepForestsThrough (entry ∷ entries) queries names history olds news =
    (middles : List ForestValue) × AllZip (KeepsForest entry.tuple.act names) olds middles
    × AreForestsFor queries (history ++ entry ∷ []) names middles
    × KeepForestsThrough entries queries names (history ++ entry ∷ []) middles news
