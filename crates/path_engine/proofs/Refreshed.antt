-- Indexes whose rows were brought up to date, part by part: they stand for what they stood for.
use Rattle.std.proofs.Common.{◌≡◌, ℕ, suc, ◌+◌, ◌<◌, List, [], ◌∷◌, length, map, get_or}
use Rattle.std.proofs.Common.{refl, ap₂, subst, ◌∙◌, arith}
use Rattle.std.specs.Fork.{IsChunk}
use Rattle.std.specs.List.{AllZip}
use Rattle.query_file.specs.Compiled.{CompiledValue}
use Rattle.query_index.specs.Answering.{HasHistory}
use Rattle.query_index.specs.Index.{IsIndexFor}
use Rattle.query_index.specs.IndexValue.{IndexValue}
use Rattle.query_index.specs.Showing.{StandsStill}
use Rattle.path_engine.specs.Showing.{AreRefreshed, CanRefresh, StandStill}
use Rattle.path_engine.proofs.Each.{HaveHistories, forest_of, zip_at}

-- ---- a part of the indexes

-- each is the index of its query over some history
pub part_can_refresh : (queries : List CompiledValue) (names : List (List ℕ))
    (indexes part : List IndexValue) (size start : ℕ) → HaveHistories names queries indexes →
    length indexes ≡ length queries → IsChunk indexes size start part →
    CanRefresh queries names start part
part_can_refresh queries names indexes part size start have as_many chunk offset index query below
    index_is query_is =
    zip_at (λ (each : CompiledValue) (own : IndexValue). HasHistory each names own) queries indexes
    (start + offset) query index have (omega (arith, below, chunk.in_bounds, as_many)) query_is
    (index_is ∙ chunk.elements offset index below)

-- ---- all indexes

-- each keeps its forest, and stands for what it stood for
abbrev Each : List CompiledValue → List (List ℕ) → List IndexValue → List IndexValue → Type 0
Each queries names olds news = (place : ℕ) (d : IndexValue) (query : CompiledValue) →
    place < length olds → query ≡ get_or queries place query →
    StandsStill query names (get_or olds place d) (get_or news place d)

each_is : (queries : List CompiledValue) (names : List (List ℕ)) (olds news : List IndexValue) →
    AreRefreshed queries names 0 olds news → Each queries names olds news
each_is queries names olds news are place d query below is =
    let same : place ≡ 0 + place = omega arith in
    are place d query below (subst (λ (at : ℕ). query ≡ get_or queries at query) same is)

-- what is so of an index and its query stays so
zip_still : (names : List (List ℕ)) (R : CompiledValue → IndexValue → Type 0)
    (queries : List CompiledValue) (olds news : List IndexValue) →
    ((query : CompiledValue) (old new : IndexValue) → StandsStill query names old new →
    R query old → R query new) → length news ≡ length olds → Each queries names olds news →
    AllZip R queries olds → AllZip R queries news
zip_still names R [] [] [] keeps long each all = tt
zip_still names R [] [] (new ∷ news) keeps long each all = absurd (omega (arith, long))
zip_still names R [] (old ∷ olds) news keeps long each all = absurd all
zip_still names R (query ∷ queries) [] news keeps long each all = absurd all
zip_still names R (query ∷ queries) (old ∷ olds) [] keeps long each all =
    absurd (omega (arith, long))
zip_still names R (query ∷ queries) (old ∷ olds) (new ∷ news) keeps long each all = (
  keeps query old new (each 0 old query (omega arith) refl) all.0,
  zip_still names R queries olds news keeps (omega (arith, long))
      (λ place d own below is. each (suc place) d own (omega (arith, below)) is) all.1,
)

forests_still : (queries : List CompiledValue) (names : List (List ℕ))
    (olds news : List IndexValue) → length olds ≡ length queries → length news ≡ length olds →
    Each queries names olds news → map forest_of news ≡ map forest_of olds
forests_still queries names [] [] as_many long each = refl
forests_still queries names [] (new ∷ news) as_many long each = absurd (omega (arith, long))
forests_still queries names (old ∷ olds) [] as_many long each = absurd (omega (arith, long))
forests_still [] names (old ∷ olds) (new ∷ news) as_many long each =
    absurd (omega (arith, as_many))
forests_still (query ∷ queries) names (old ∷ olds) (new ∷ news) as_many long each =
    ap₂ ◌∷◌ (each 0 old query (omega arith) refl).forest
    (forests_still queries names olds news (omega (arith, as_many)) (omega (arith, long))
    (λ place d own below is. each (suc place) d own (omega (arith, below)) is))

module _ (queries : List CompiledValue) (names : List (List ℕ)) (olds news : List IndexValue)
    (long : length news ≡ length olds) (are : AreRefreshed queries names 0 olds news) where
  pub refreshed_stand : length olds ≡ length queries → StandStill queries names olds news
  refreshed_stand as_many = record {
    forests = forests_still queries names olds news as_many long
        (each_is queries names olds news are);
    stand = λ history fed.
        zip_still names
        (λ (query : CompiledValue) (index : IndexValue). IsIndexFor query history fed names index)
        queries olds news (λ query old new still. still.stands history fed) long
        (each_is queries names olds news are);
  }
