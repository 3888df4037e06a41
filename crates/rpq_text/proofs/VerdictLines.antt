-- The verdict lines of queries.
use Rattle.std.proofs.Common.{◌≡◌, ◌≢◌, ◌≤◌, ℕ, List, [], ◌∷◌, ◌++◌, length}
use Rattle.std.proofs.Common.{refl, ap₂, sym, ◌∙◌, arith}
use Rattle.std.specs.Prelude.{◌↔◌}
use Rattle.std.specs.List.{All, flat_map}
use Rattle.std.proofs.lemmas.List.Elements.{All-head, All-tail}
use Rattle.rpq_base.specs.declared.data.Label.{Label}
use Rattle.dfa_table.specs.Runs.{Accepts}
use Rattle.minimal_dfa.specs.Laws.{LeastHasFewest}
use Rattle.containment_test.specs.declared.verdict.Verdict.{Verdict}
use Rattle.containment_test.proofs.Words.{one_verdict, empty_word_is_no_matter}
use Rattle.rpq_model.specs.Query.{Query, language_of}
use Rattle.query_file.specs.Compiled.{CompiledValue, IsCompiled}
use Rattle.rpq_text.specs.Laws.{OneVerdictText}
use Rattle.rpq_text.specs.Definitions.{compiled_line, definitions_of}
use Rattle.rpq_text.specs.Verdicts.{HasStates, verdict_line, IsVerdictLine, AreVerdicts}

-- a query has one number of states
same_count : LeastHasFewest → (query : Query) (first second : ℕ) → HasStates query first
    → HasStates query second → first ≡ second
same_count fewest query first second one other =
    let there : (word : List Label) → Accepts one.dfa word ↔ Accepts other.dfa word =
    λ word. (
      λ accepts. (other.accepts word).1 ((one.accepts word).0 accepts),
      λ accepts. (one.accepts word).1 ((other.accepts word).0 accepts),
    ) in
    let back : (word : List Label) → Accepts other.dfa word ↔ Accepts one.dfa word =
    λ word. ((there word).1, (there word).0) in
    let fewer : length one.dfa.rows ≤ length other.dfa.rows = fewest one.dfa other.dfa one.least other.least.valid there in
    let more : length other.dfa.rows ≤ length one.dfa.rows = fewest other.dfa one.dfa other.least one.least.valid back in
    omega (arith, one.counted, other.counted)

-- and one line
one_line : LeastHasFewest → (query : Query) (first second : List ℕ) → IsVerdictLine query first
    → IsVerdictLine query second → first ≡ second
one_line fewest query first second one other =
    let counts : one.count ≡ other.count = same_count fewest query one.count other.count one.states other.states in
    let verdicts : one.verdict ≡ other.verdict =
    one_verdict (language_of query) one.verdict other.verdict one.is_verdict other.is_verdict in
    one.text ∙ (ap₂ (λ (n : ℕ) (v : Verdict). verdict_line query n v) counts verdicts ∙ sym other.text)

one_text : LeastHasFewest → (queries : List Query) (first second : List ℕ) → AreVerdicts queries first
    → AreVerdicts queries second → first ≡ second
one_text fewest [] first second one other = one ∙ sym other
one_text fewest (query ∷ queries) first second one other =
    one.4 ∙ (ap₂ (λ (l r : List ℕ). l ++ r) (one_line fewest query one.0 other.0 one.2 other.2)
    (one_text fewest queries one.1 other.1 one.3 other.3) ∙ sym other.4)

pub one_verdict_text : LeastHasFewest → OneVerdictText
one_verdict_text fewest = record { line = one_line fewest; text = one_text fewest }

-- the line of a compiled query is that of its definition
is_line : (compiled : CompiledValue) → IsCompiled compiled → IsVerdictLine compiled.def (compiled_line compiled)
is_line compiled is =
    let same : (word : List Label) → word ≢ [] → Accepts compiled.dfa word ↔ language_of compiled.def word =
    λ word some. (
      λ accepts. ((is.automaton.accepts word).0 accepts).1,
      λ within. (is.automaton.accepts word).1 (some, within),
    ) in
    record {
      count = length compiled.dfa.rows;
      states = record {
        dfa = compiled.dfa;
        least = is.automaton.least;
        accepts = is.automaton.accepts;
        counted = refl;
      };
      verdict = compiled.verdict;
      is_verdict = (empty_word_is_no_matter (Accepts compiled.dfa) (language_of compiled.def) same compiled.verdict).0
          is.verdict;
      text = refl;
    }

-- and the lines of compiled queries are those of their definitions
pub are_verdicts : (queries : List CompiledValue) → All IsCompiled queries
    → AreVerdicts (definitions_of queries) (flat_map compiled_line queries)
are_verdicts [] all = refl
are_verdicts (query ∷ queries) all = (
  compiled_line query,
  flat_map compiled_line queries,
  is_line query (All-head IsCompiled query queries all),
  are_verdicts queries (All-tail IsCompiled query queries all),
  refl,
)
