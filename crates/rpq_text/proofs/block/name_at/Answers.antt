use Rattle.std.proofs.Common.{◌≡◌, ℕ, zero, suc, ◌<◌, List, [], ◌∷◌, length, get_or, ap}
use Rattle.std.proofs.Common.{◌∙◌, arith}
use Rattle.query_file.specs.Compiled.{CompiledValue}
use Rattle.rpq_text.specs.Definitions.{definitions_of}
use Rattle.ask_text.specs.Reply.{name_at}
use Rattle.rpq_text.proofs.block.name_at.Goals as goal

-- the name of a compiled query is that of its definition
its_name : (queries : List CompiledValue) (number : ℕ) (query : CompiledValue) → number < length queries
    → query ≡ get_or queries number query → query.def.name ≡ name_at (definitions_of queries) number
its_name [] number query inside is = absurd (omega (arith, inside))
its_name (first ∷ queries) zero query inside is = ap (λ (each : CompiledValue). each.def.name) is
its_name (first ∷ queries) (suc number) query inside is = its_name queries number query (omega (arith, inside)) is

pub returns : goal.returns
returns c =
    let query = c.index-queries-number.result in
    c.name_of.ensures ∙ (ap (λ (each : CompiledValue). each.def.name) c.query.view_is
    ∙ its_name c.args.queries.now c.args.number query c.requires c.index-queries-number.is)
