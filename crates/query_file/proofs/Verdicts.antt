-- What a verdict on the words of an automaton says of its query.
use Rattle.std.proofs.Common.{◌≢◌, ◌↔◌, List, [], subst}
use Rattle.rpq_base.specs.declared.data.Label.{Label}
use Rattle.path_syntax.specs.Language.{In}
use Rattle.dfa_table.specs.DfaValue.{DfaValue}
use Rattle.dfa_table.specs.Runs.{Accepts}
use Rattle.containment_test.specs.Verdict.{IsVerdict}
use Rattle.containment_test.specs.declared.verdict.Verdict.{Verdict}
use Rattle.containment_test.specs.declared.verdict.Verdict.TheVariants.{Yes}
use Rattle.containment_test.proofs.Words.{empty_word_is_no_matter}
use Rattle.containment_laws.specs.Accepted.{IsAccepted}
use Rattle.rpq_model.specs.Query.{Query}
use Rattle.query_file.specs.Compiled.{CompiledValue, IsAutomatonOf, IsCompiled}

-- an automaton accepts the nonempty words of its query
same_words : (query : Query) (dfa : DfaValue) → IsAutomatonOf query dfa → (word : List Label) → word ≢ [] → Accepts dfa word ↔ In query.expr word
same_words query dfa is word some = (λ accepts. ((is.accepts word).0 accepts).1, λ inside. (is.accepts word).1 (some, inside))

-- a verdict on the one is one on the other
pub verdict_on_query : (query : Query) (dfa : DfaValue) (verdict : Verdict) → IsAutomatonOf query dfa → IsVerdict (Accepts dfa) verdict →
    IsVerdict (In query.expr) verdict
verdict_on_query query dfa verdict is of =
    (empty_word_is_no_matter (Accepts dfa) (In query.expr) (same_words query dfa is) verdict).0 of

-- a query with its automaton and its verdict is accepted
pub accepted_of : (compiled : CompiledValue) → IsCompiled compiled → IsAccepted compiled.def
accepted_of compiled is simple =
    verdict_on_query compiled.def compiled.dfa Yes is.automaton (subst (IsVerdict (Accepts compiled.dfa)) (is.accepted simple) is.verdict)
