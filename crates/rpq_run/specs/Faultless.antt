-- Which runs over streams are done: those of files without a fault, where nothing fails.
use Rattle.std.specs.Prelude.{◌≡◌, ◌≢◌, ℕ, ◌<◌, ◌≤◌, List, [], ◌∷◌, ◌++◌, length, map, sum, All}
use Rattle.std.specs.Prelude.{codes, Option, Some, IsSomeAnd}
use Rattle.ask_text.specs.declared.ask.Ask.{Ask}
use Rattle.join_file.specs.Joins.{JoinValue}
use Rattle.query_file.specs.Examples.{inverse_line}
use Rattle.rpq_base.specs.TupleValue.{TupleValue}
use Rattle.rpq_model.specs.Query.{Query}
use Rattle.rpq_words.specs.Settings.{settings}
use Rattle.run_start.specs.Files.{HasQueries}
use Rattle.run_start.specs.Texts.{tuples_within}
use Rattle.saved_window.specs.SavedText.{saved_text}
use Rattle.live_asks.specs.Items.{asked_items}
use Rattle.text_items.specs.declared.ends.TextEnd.TheVariants.{LongText}
use Rattle.stream_tuples.specs.declared.ends.StreamEnd.TheVariants.{Whole}
use Rattle.stream_tuples.specs.Limits.{byte_limit}
use Rattle.tuple_text.specs.Written.{IsStreamTuple}
use Rattle.rpq_run.specs.Done.{CanBeDone}
use Rattle.rpq_run.specs.Headline.{Told, AreAsked, AreJoined, stream_texts}

-- the files that are read whole give queries, joins and sessions; no stream has a fault that ends
-- it; all tuples together are as many as the history may have, or fewer; and no reader's asks have
-- too many bytes
pub record AreFaultless (told : Told) : Type 0 where
  pub queries : List Query
  pub accepted : HasQueries told.two_way told.queries queries
  pub joins : List JoinValue
  pub joined : AreJoined queries told.joins joins
  pub sessions : List (List Ask)
  pub asked : AreAsked queries told.asks sessions
  pub whole : All (λ text. (tuples_within told.policy told.limit text).end ≡ Whole)
      (stream_texts told)
  pub few : sum (map (λ text. length (tuples_within told.policy told.limit text).tuples)
      (stream_texts told)) ≤ told.limit
  pub few_asks : All (λ text. (asked_items queries text).end ≢ LongText) told.readers

-- A worked value: `rpq --two-way q t` can be done, where the file `q` has the line of one query,
-- and the file `t` the lines of some tuples that a line may give, a million at most
abbrev pub SmallRunCanBeDone : Type 0
SmallRunCanBeDone = (holds : List ℕ → Option (List ℕ)) (tuples : List TupleValue)
    → holds (codes "q") ≡ Some (inverse_line ++ codes "\n")
    → holds (codes "t") ≡ Some (saved_text tuples) → All IsStreamTuple tuples
    → length tuples ≤ 1000000 → length (saved_text tuples) < byte_limit
    → IsSomeAnd (settings (codes "rpq" ∷ codes "--two-way" ∷ codes "q" ∷ codes "t" ∷ []))
    (λ given. CanBeDone given holds)
