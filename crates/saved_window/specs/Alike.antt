-- What is saved of a history is seen and saved alike.
use Rattle.std.specs.Prelude.{◌≡◌, ◌<◌, List, ◌++◌, All}
use Rattle.rpq_base.specs.declared.data.Entry.{Entry}
use Rattle.rpq_model.specs.Query.{Query}
use Rattle.alike_histories.specs.Alike.{AllSeeAlike}
use Rattle.saved_window.specs.Saved.{saved, first_stream}

-- of two histories the same is saved for these queries, whatever entries follow
abbrev pub SaveAlike : List Query → List Entry → List Entry → Type 0
SaveAlike queries history other =
    (later : List Entry) → saved queries (history ++ later) ≡ saved queries (other ++ later)

-- what is saved of a history, as the first stream, is seen alike with it, where each query's window
-- slides
abbrev pub SavedKeepsTheStore : Type 0
SavedKeepsTheStore = (queries : List Query) → All (λ query. 0 < query.window.slide) queries →
    (history : List Entry) → AllSeeAlike queries history (first_stream (saved queries history))

-- and the same is saved of both, whatever follows: it doesn't matter when a history was saved, nor
-- how often
abbrev pub SavedOfMore : Type 0
SavedOfMore = (queries : List Query) → All (λ query. 0 < query.window.slide) queries →
    (history : List Entry) → SaveAlike queries (first_stream (saved queries history)) history
