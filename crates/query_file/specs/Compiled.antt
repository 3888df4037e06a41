-- A query with its automaton and the verdict on its language.
use Rattle.std.specs.Prelude.{◌≡◌, ◌↔◌, List, Contains}
use Rattle.rpq_base.specs.declared.data.Label.{Label}
use Rattle.path_syntax.specs.Language.{In}
use Rattle.path_syntax.specs.Laws.{nonempty}
use Rattle.dfa_build.specs.Marked.{labels_of}
use Rattle.dfa_table.specs.DfaValue.{DfaValue}
use Rattle.dfa_table.specs.Runs.{Accepts}
use Rattle.minimal_dfa.specs.Least.{IsLeast}
use Rattle.containment_test.specs.Verdict.{IsVerdict}
use Rattle.containment_test.specs.declared.verdict.Verdict.{Verdict}
use Rattle.containment_test.specs.declared.verdict.Verdict.TheVariants.{Yes}
use Rattle.rpq_model.specs.declared.mode.Mode.TheVariants.{Simple}
use Rattle.rpq_model.specs.Query.{Query}

-- the automaton is the least one, over the labels of the query's expression, that accepts the
-- nonempty words of its language
pub record IsAutomatonOf (query : Query) (dfa : DfaValue) : Type 0 where
  pub accepts : (word : List Label) → Accepts dfa word ↔ nonempty (In query.expr) word
  pub labels : (label : Label) → Contains dfa.labels label ↔ Contains (labels_of query.expr) label
  pub least : IsLeast dfa

-- a query, an automaton and a verdict
pub record CompiledValue : Type 0 where
  pub def : Query
  pub dfa : DfaValue
  pub verdict : Verdict

-- the automaton is that of the query, the verdict that on the words which the automaton accepts;
-- and where the query takes simple paths, it is yes
pub record IsCompiled (compiled : CompiledValue) : Type 0 where
  pub automaton : IsAutomatonOf compiled.def compiled.dfa
  pub verdict : IsVerdict (Accepts compiled.dfa) compiled.verdict
  pub accepted : compiled.def.mode ≡ Simple → compiled.verdict ≡ Yes
