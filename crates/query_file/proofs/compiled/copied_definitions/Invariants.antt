use Rattle.std.proofs.Common.{◌≡◌, map, take}
use Rattle.query_file.specs.Compiled.{CompiledValue}
use Rattle.query_file.proofs.compiled.copied_definitions.Given as goal

-- the definitions of the queries so far
abbrev pub invariant-loop-query : goal.invariant-loop-query
invariant-loop-query l =
    l.copies.items ≡ map (λ (query : CompiledValue). query.def) (take l.query-index l.queries)
