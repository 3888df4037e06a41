use Rattle.std.proofs.Common.{rules, List, subst, ◌∙◌}
use Rattle.std.specs.List.Sorted.{IsBinarySearchResult}
use Rattle.std.proofs.lemmas.Fn.{always_returns_same}
use Rattle.shared_map.proofs.chunk.Chunk.place_of.Goals as goal

pub returns-clause-place : goal.returns-clause-place
returns-clause-place g c =
    subst (λ (entries : List (g.row.K.Denot × g.row.V.Denot)).
    IsBinarySearchResult (λ (entry : g.row.K.Denot × g.row.V.Denot). g.K.Ord.cmp entry.0 c.args.key.now) entries c.binary_search_by.result)
    (c.deref.ensures.value ∙ c.self.view_is)
    (c.binary_search_by.ensures.position (λ (entry : g.row.K.Denot × g.row.V.Denot). g.K.Ord.cmp entry.0 c.args.key.now)
    (always_returns_same _ _ _ (λ a r after call. (search rules, search rules))))
