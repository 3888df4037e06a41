use Rattle.std.proofs.Common.{◌≡◌, ℕ, List, [], get_or, set, Contains, subst, ◌⊎◌}
use Rattle.std.specs.Prelude.{◌↔◌}
use Rattle.std.proofs.lemmas.Result.{IfOk-weaker}
use Rattle.std.proofs.lemmas.List.{get_or_default}
use Rattle.state_pairs.specs.Sources.{sources_at, AddsSource}
use Rattle.state_pairs.proofs.Stepped.{adds_at}
use Rattle.state_pairs.proofs.sources.add_source.Goals as goal

pub returns : goal.returns
returns c =
    let lists = c.args.lists.now in
    let target = c.args.target in
    let node = c.args.node in
    let same : get_or lists target c.index-lists-target.result ≡ sources_at lists target = get_or_default lists target c.index-lists-target.result [] c.requires in
    IfOk-weaker c.add.result _ (λ done. AddsSource target node lists (set lists target c.add.new.self))
    (λ done adds.
    adds_at lists target node c.add.new.self c.requires
    (subst (λ (list : List ℕ). (each : ℕ) → Contains c.add.new.self each ↔ (Contains list each ⊎ (each ≡ node))) same adds))
    c.add.ensures
