-- How the logic stores a query with its automaton and its verdict, which no contract cites.
use Rattle.std.specs.Prelude.{◌≡◌, ℕ, Bool, List, Option, Some, None, refl}
use Rattle.std.specs.Coded.{Coded, code_by, coded×, coded_ℕ, coded_bool, coded_list, coded_option}
use Rattle.rpq_base.specs.declared.data.Label.{Label}
use Rattle.dfa_table.specs.DfaValue.{DfaValue}
use Rattle.containment_test.specs.declared.verdict.Verdict.{Verdict}
use Rattle.containment_test.specs.declared.verdict.Verdict.TheVariants.{Yes, No}
use Rattle.rpq_model.specs.Query.{Query}
use Rattle.rpq_model.specs.QueryCode.{label_code, query_code}
use Rattle.query_file.specs.Compiled.{CompiledValue}

-- an automaton as the tuple of its fields
abbrev pub dfa_code : Coded DfaValue
dfa_code =
    code_by (List Label × (List (List (Option ℕ)) × List Bool))
    (coded× (coded_list label_code)
    (coded× (coded_list (coded_list (coded_option coded_ℕ))) (coded_list coded_bool)))
    (λ dfa. (dfa.labels, (dfa.rows, dfa.finals)))
    (λ fields. record { labels = fields.0; rows = fields.1.0; finals = fields.1.1 })
    (λ _. refl)

-- three words
abbrev pub Words : Type 0
Words = List Label × (List Label × List Label)

-- the words that a verdict has
abbrev pub words_of : Verdict → Option Words
words_of Yes = None
words_of (No p q w) = Some (p, (q, w))

-- the verdict that has them
abbrev pub verdict_of : Option Words → Verdict
verdict_of None = Yes
verdict_of (Some words) = No words.0 words.1.0 words.1.1

pub verdict_of_words : (verdict : Verdict) → verdict_of (words_of verdict) ≡ verdict
verdict_of_words Yes = refl
verdict_of_words (No p q w) = refl

-- a verdict as its three words, if it has them
abbrev pub verdict_code : Coded Verdict
verdict_code =
    code_by (Option Words)
    (coded_option (coded× (coded_list label_code)
    (coded× (coded_list label_code) (coded_list label_code))))
    words_of verdict_of verdict_of_words

-- a query, its automaton and its verdict as the tuple of them
abbrev pub compiled_code : Coded CompiledValue
compiled_code =
    code_by (Query × (DfaValue × Verdict)) (coded× query_code (coded× dfa_code verdict_code))
    (λ compiled. (compiled.def, (compiled.dfa, compiled.verdict)))
    (λ fields. record { def = fields.0; dfa = fields.1.0; verdict = fields.1.1 }) (λ _. refl)
