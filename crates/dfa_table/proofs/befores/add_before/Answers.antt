use Rattle.std.proofs.Common.{◌≡◌, ℕ, List, [], ◌∷◌, ◌++◌, get_or, set, ap, ◌∙◌}
use Rattle.std.proofs.lemmas.List.{get_or_default}
use Rattle.std.proofs.lemmas.Result.{IfOk-weaker}
use Rattle.dfa_table.specs.Befores.{list_at, AddsAt}
use Rattle.dfa_table.proofs.Listed.{adds_at}
use Rattle.dfa_table.proofs.befores.add_before.Goals as goal

pub returns : goal.returns
returns c =
    let lists = c.args.lists.now in
    let target = c.args.target in
    let state = c.args.state in
    let same : get_or lists target c.index-lists-target.result ≡ list_at lists target =
    get_or_default lists target c.index-lists-target.result [] c.requires in
    IfOk-weaker c.add.result _
    (λ done. AddsAt target state lists (set lists target c.add.new.self))
    (λ done adds. adds_at lists target state c.add.new.self c.requires
    (adds ∙ ap (λ (list : List ℕ). list ++ state ∷ []) same)) c.add.ensures
