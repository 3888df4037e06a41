-- What the definitions are meant to say, as laws.
use Rattle.std.specs.Prelude.{◌≡◌, ◌^◌, false, List, length, All, ℕ}
use Rattle.join_file.specs.Sound.{IsSound}
use Rattle.entry_steps.specs.Steps.{OptionsValue, CanRun}
use Rattle.rpq_base.specs.declared.data.Entry.{Entry}
use Rattle.rpq_model.specs.Query.{Query}
use Rattle.rpq_text.specs.Limits.{file_limit, stream_limit, query_limit}
use Rattle.rpq_text.specs.Text.{IsText}
use Rattle.rpq_text.specs.Verdicts.{IsVerdictLine, AreVerdicts}

-- each history has a text, where queries and joins can be evaluated
abbrev pub EveryHistoryHasAText : Type 0
EveryHistoryHasAText =
    (options : OptionsValue) (queries : List Query) → CanRun options queries →
    (history : List Entry) → (text : List ℕ) × IsText options queries history text

-- it has one alone, where no paths are told and the joins are over the queries
abbrev pub WithoutPathsOneText : Type 0
WithoutPathsOneText =
    (options : OptionsValue) (queries : List Query) → options.paths ≡ false →
    All (IsSound (length queries)) options.joins → (history : List Entry)
    (text other : List ℕ) → IsText options queries history text →
    IsText options queries history other → other ≡ text

-- a query has one verdict line at most, and queries have one text of them
pub record OneVerdictText : Type 0 where
  pub line : (query : Query) (first second : List ℕ) →
      IsVerdictLine query first → IsVerdictLine query second → first ≡ second
  pub text : (queries : List Query) (first second : List ℕ) →
      AreVerdicts queries first → AreVerdicts queries second → first ≡ second

-- a file that is read whole has fewer than 2^24 bytes, and there are at most 64 streams and 64
-- queries
pub record LimitsAreThese : Type 0 where
  pub bytes : file_limit ≡ 2 ^ 24
  pub streams : stream_limit ≡ 64
  pub queries : query_limit ≡ 64
