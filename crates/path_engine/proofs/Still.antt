-- Indexes whose rows are made anew: they stand for what they stood for.
use Rattle.std.proofs.Common.{◌≡◌, ℕ, zero, suc, ◌<◌, List, [], ◌∷◌, length, map, get_or, set, refl, sym, ap, subst, ◌∙◌, arith}
use Rattle.std.specs.List.{AllZip}
use Rattle.std.proofs.lemmas.List.{length-map}
use Rattle.rpq_base.specs.declared.data.Entry.{Entry}
use Rattle.delta_forest.specs.Forest.{ForestValue}
use Rattle.query_file.specs.Compiled.{CompiledValue}
use Rattle.query_index.specs.Answering.{HasHistory}
use Rattle.query_index.specs.Index.{IsIndexFor}
use Rattle.query_index.specs.IndexValue.{IndexValue}
use Rattle.query_index.specs.Showing.{StandsStill}
use Rattle.query_index.proofs.Still.{history_still}
use Rattle.path_engine.specs.Engine.{EngineValue, StandsFor}
use Rattle.path_engine.specs.Showing.{StandStill}
use Rattle.path_engine.proofs.Each.{HaveHistories, forest_of}

-- ---- an index among others

-- lists in step, of which one element is another now
zip_set : {A B : Type 0} (R : A → B → Type 0) (xs : List A) (ys : List B) (place : ℕ) (x : A)
    (old new : B) → AllZip R xs ys → x ≡ get_or xs place x → old ≡ get_or ys place old →
    place < length xs → (R x old → R x new) → AllZip R xs (set ys place new)
zip_set R [] [] place x old new all x_is old_is inside gives = absurd (omega (arith, inside))
zip_set R [] (second ∷ ys) place x old new all x_is old_is inside gives = absurd all
zip_set R (first ∷ xs) [] place x old new all x_is old_is inside gives = absurd all
zip_set {A} {B} R (first ∷ xs) (second ∷ ys) zero x old new all x_is old_is inside gives = (
  subst (λ (each : A). R each new) x_is
      (gives (subst (λ (each : A). R each old) (sym x_is) (subst (R first) (sym old_is) all.0))),
  all.1,
)
zip_set R (first ∷ xs) (second ∷ ys) (suc place) x old new all x_is old_is inside gives = (
  all.0,
  zip_set R xs ys place x old new all.1 x_is old_is (omega (arith, inside)) gives,
)

-- the forests, where one index keeps its own
forests_set : (indexes : List IndexValue) (place : ℕ) (old new : IndexValue) →
    old ≡ get_or indexes place old → place < length indexes → new.forest ≡ old.forest →
    map forest_of (set indexes place new) ≡ map forest_of indexes
forests_set [] place old new old_is inside same = absurd (omega (arith, inside))
forests_set (first ∷ rest) zero old new old_is inside same =
    ap (λ (forest : ForestValue). forest ∷ map forest_of rest)
    (same ∙ ap (λ (index : IndexValue). index.forest) old_is)
forests_set (first ∷ rest) (suc place) old new old_is inside same =
    ap (λ (forests : List ForestValue). first.forest ∷ forests)
    (forests_set rest place old new old_is (omega (arith, inside)) same)

-- nothing was done yet
pub all_still : (queries : List CompiledValue) (names : List (List ℕ)) (indexes : List IndexValue) →
    StandStill queries names indexes indexes
all_still queries names indexes = record { forests = refl; stand = λ history fed are. are }

module _ (queries : List CompiledValue) (names : List (List ℕ)) (olds current : List IndexValue)
    (place : ℕ) (query : CompiledValue) (old new : IndexValue) (inside : place < length queries)
    (within : place < length current) (query_is : query ≡ get_or queries place query)
    (old_is : old ≡ get_or current place old) (still : StandsStill query names old new) where
  -- one index more
  pub still_more : StandStill queries names olds current →
      StandStill queries names olds (set current place new)
  still_more so_far = record {
    forests = forests_set current place old new old_is within still.forest ∙ so_far.forests;
    stand = λ history fed are.
        zip_set
        (λ (each : CompiledValue) (index : IndexValue). IsIndexFor each history fed names index)
        queries current place query old new (so_far.stand history fed are) query_is old_is inside
        (still.stands history fed);
  }

  pub histories_more : HaveHistories names queries current →
      HaveHistories names queries (set current place new)
  histories_more have =
      zip_set (λ (each : CompiledValue) (index : IndexValue). HasHistory each names index) queries
      current place query old new have query_is old_is inside
      (history_still query names old new still)

-- ---- the engine

-- where its indexes stand for what they stood for, so does it
pub engine_still : (engine : EngineValue) (news : List IndexValue) →
    StandStill engine.queries engine.names engine.indexes news → (history : List Entry) →
    StandsFor engine history → StandsFor (record engine { indexes = news }) history
engine_still engine news still history stands = record {
  unspent = stands.unspent;
  few_names = stands.few_names;
  indexes = still.stand history engine.position stands.indexes;
}

-- there are as many
pub still_long : (queries : List CompiledValue) (names : List (List ℕ)) (olds news : List IndexValue) →
    StandStill queries names olds news → length news ≡ length olds
still_long queries names olds news still =
    sym (length-map news forest_of)
    ∙ (ap (λ (all : List ForestValue). length all) still.forests ∙ length-map olds forest_of)
