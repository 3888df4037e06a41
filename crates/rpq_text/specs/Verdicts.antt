-- What a check writes: a line for each query, with its mode, the number of states of its least
-- automaton and whether its language has the property of containment.
use Rattle.std.specs.Prelude.{◌≡◌, ℕ, ◌↔◌, List, [], ◌∷◌, ◌++◌, length, codes, decimal}
use Rattle.rpq_base.specs.declared.data.Label.{Label}
use Rattle.path_syntax.specs.Laws.{nonempty}
use Rattle.path_syntax.specs.Written.{written_word}
use Rattle.dfa_table.specs.DfaValue.{DfaValue}
use Rattle.dfa_table.specs.Runs.{Accepts}
use Rattle.minimal_dfa.specs.Least.{IsLeast}
use Rattle.containment_test.specs.Verdict.{IsVerdict}
use Rattle.containment_test.specs.declared.verdict.Verdict.{Verdict}
use Rattle.containment_test.specs.declared.verdict.Verdict.TheVariants.{Yes, No}
use Rattle.rpq_model.specs.declared.mode.Mode.{Mode}
use Rattle.rpq_model.specs.declared.mode.Mode.TheVariants.{Arbitrary, Simple}
use Rattle.rpq_model.specs.Query.{Query, language_of}

-- the least automaton that accepts the nonempty words of the query has so many states, the start
-- counted
pub record HasStates (query : Query) (count : ℕ) : Type 0 where
  pub dfa : DfaValue
  pub least : IsLeast dfa
  pub accepts : (word : List Label) → Accepts dfa word ↔ nonempty (language_of query) word
  pub counted : count ≡ length dfa.rows

-- the word for the paths that a query takes
abbrev pub mode_word : Mode → List ℕ
mode_word Arbitrary = codes "arbitrary"
mode_word Simple = codes "simple"

-- a verdict, with the three words that show why where it is no
abbrev pub verdict_text : Verdict → List ℕ
verdict_text Yes = codes "yes"
verdict_text (No p q w) =
    codes "no " ++ written_word p ++ codes " " ++ written_word q ++ codes " " ++ written_word w

-- the line of a query with so many states and this verdict
abbrev pub verdict_line : Query → ℕ → Verdict → List ℕ
verdict_line query count verdict =
    query.name ++ codes " " ++ mode_word query.mode ++ codes " states " ++ decimal count
    ++ codes " " ++ verdict_text verdict ++ codes "\n"

-- the line of a query: with the number of its states and the verdict on its language
pub record IsVerdictLine (query : Query) (line : List ℕ) : Type 0 where
  pub count : ℕ
  pub states : HasStates query count
  pub verdict : Verdict
  pub is_verdict : IsVerdict (language_of query) verdict
  pub text : line ≡ verdict_line query count verdict

-- the lines of these queries, one after another
abbrev pub AreVerdicts : List Query → List ℕ → Type 0
AreVerdicts [] text = text ≡ []
AreVerdicts (query ∷ queries) text =
    (line rest : List ℕ) × IsVerdictLine query line × AreVerdicts queries rest
    × (text ≡ line ++ rest)
