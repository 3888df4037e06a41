-- What compiled queries give to texts: their definitions, and their lines.
use Rattle.std.specs.Prelude.{ℕ, List, length, map}
use Rattle.query_file.specs.Compiled.{CompiledValue}
use Rattle.rpq_model.specs.Query.{Query}
use Rattle.rpq_text.specs.Verdicts.{verdict_line}

-- the definitions of compiled queries, in order
abbrev pub definitions_of : List CompiledValue → List Query
definitions_of queries = map (λ each. each.def) queries

-- the line that a check writes for a compiled query
abbrev pub compiled_line : CompiledValue → List ℕ
compiled_line compiled = verdict_line compiled.def (length compiled.dfa.rows) compiled.verdict
