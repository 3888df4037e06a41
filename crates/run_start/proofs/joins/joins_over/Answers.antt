use Rattle.std.proofs.Common.{rules, ◌≡◌, ◌∙◌, ℕ, List, ap, length, subst}
use Rattle.std.specs.Prelude.{All}
use Rattle.std.proofs.lemmas.List.{length-map}
use Rattle.std.proofs.lemmas.List.Elements.{All-same}
use Rattle.rpq_model.specs.Query.{Query}
use Rattle.query_file.specs.Compiled.{CompiledValue}
use Rattle.join_file.specs.Sound.{IsSound}
use Rattle.rpq_text.specs.Definitions.{definitions_of}
use Rattle.run_start.proofs.joins.joins_over.Goals as goal

pub returns-in-Ok-shared-clause-sound : goal.returns-in-Ok-shared-clause-sound
returns-in-Ok-shared-clause-sound c =
    let found = c.in-Ok-read_joins.found.items in
    let same : c.in-Ok-shared.joins.value.items ≡ found = search rules in
    let copied : c.deref.result.now ≡ definitions_of c.args.queries.now = search rules in
    let many : length c.deref.result.now ≡ length c.args.queries.now =
    ap (λ (qs : List Query). length qs) copied
    ∙ length-map c.args.queries.now (λ (each : CompiledValue). each.def) in
    All-same (IsSound (length c.args.queries.now)) c.in-Ok-shared.joins.value.items found same
    (subst (λ (n : ℕ). All (IsSound n) found) many c.in-Ok-read_joins.ensures.sound)
