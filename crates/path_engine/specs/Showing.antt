-- Indexes whose rows are made anew. No public contract cites this file.
use Rattle.std.specs.Prelude.{◌≡◌, ℕ, ◌+◌, ◌<◌, ◌≤◌, List, length, map, slice_index_or}
use Rattle.std.specs.List.{AllZip}
use Rattle.rpq_base.specs.declared.data.Entry.{Entry}
use Rattle.query_file.specs.Compiled.{CompiledValue}
use Rattle.query_index.specs.Answering.{HasHistory}
use Rattle.query_index.specs.Index.{IsIndexFor}
use Rattle.query_index.specs.IndexValue.{IndexValue}
use Rattle.query_index.specs.Showing.{StandsStill}

-- the indexes keep their forests, and are those of the queries over each history of which they were
pub record StandStill (queries : List CompiledValue) (names : List (List ℕ))
    (olds news : List IndexValue) : Type 0 where
  pub forests : map (λ (index : IndexValue). index.forest) news
      ≡ map (λ (index : IndexValue). index.forest) olds
  pub stand : (history : List Entry) (fed : ℕ) →
      AllZip (λ query index. IsIndexFor query history fed names index) queries olds →
      AllZip (λ query index. IsIndexFor query history fed names index) queries news

-- ---- indexes that stand one after another, the first of them beside the query at this place

-- each is the index of its query over some history
abbrev pub CanRefresh : List CompiledValue → List (List ℕ) → ℕ → List IndexValue → Type 0
CanRefresh queries names start part = (offset : ℕ) (index : IndexValue) (query : CompiledValue) →
    offset < length part → index ≡ slice_index_or part offset index →
    query ≡ slice_index_or queries (start + offset) query → HasHistory query names index

-- each keeps its forest, and stands for what it stood for
abbrev pub AreRefreshed : List CompiledValue → List (List ℕ) → ℕ → List IndexValue →
    List IndexValue → Type 0
AreRefreshed queries names start olds news = (offset : ℕ) (d : IndexValue) (query : CompiledValue) →
    offset < length olds → query ≡ slice_index_or queries (start + offset) query →
    StandsStill query names (slice_index_or olds offset d) (slice_index_or news offset d)

-- they are a part of the indexes of few queries, in parts of this size, and so many names have
-- numbers
pub record IsPart (size count : ℕ) (queries : List CompiledValue) (names : List (List ℕ))
    (start : ℕ) (part : List IndexValue) : Type 0 where
  pub some : 0 < size
  pub few : start < 64
  pub named : count ≡ length names
  pub inside : start + length part ≤ length queries
  pub ready : CanRefresh queries names start part
