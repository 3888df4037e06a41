use Rattle.std.proofs.Common.{◌<◌, List, [], length, get_or, sym, ap, subst, ◌∙◌}
use Rattle.std.proofs.lemmas.List.{get_or_default}
use Rattle.rpq_base.specs.declared.data.Pair.{Pair}
use Rattle.join_bindings.proofs.query_pairs.QueryPairs.of.Goals as goal

pub returns : goal.returns
returns c =
    let sets : List (List Pair) = c.self.inside.sets.items in
    let within : c.args.query < length sets =
    subst (λ (list : List (List Pair)). c.args.query < length list) (sym c.self.view_is) c.requires in
    c.index.ensures ∙ (get_or_default sets c.args.query c.index.result.now [] within
    ∙ ap (λ (list : List (List Pair)). get_or list c.args.query []) c.self.view_is)
