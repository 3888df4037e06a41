-- The lines of a summary, as the code has them.
use Rattle.std.proofs.Common.{ℕ, List, length, map}
use Rattle.query_file.specs.Compiled.{CompiledValue}
use Rattle.answer_rows.specs.Answers.{Answer}
use Rattle.standing.specs.Objects.{ObjectValue}
use Rattle.generated_run.specs.Summary.{query_lines, said_lines}

-- the lines of compiled queries, each with as many answers as its rows have
abbrev pub lines_of : List CompiledValue → List (List Answer) → List ℕ
lines_of queries rows =
    query_lines (map (λ (each : CompiledValue). each.def) queries)
    (map (λ (own : List Answer). length own) rows)

-- the lines of what objects say, as they are seen
abbrev pub said_of : {O : Type 0} → (O → ObjectValue) → List O → List ℕ
said_of seen objects =
    said_lines (map (λ (object : ObjectValue). object.said) (map seen objects))
