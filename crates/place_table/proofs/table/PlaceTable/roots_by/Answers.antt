use Rattle.std.proofs.Common.{◌++◌, [], ℕ, List, ap, sym, subst, ◌∙◌}
use Rattle.std.specs.List.{filter_map}
use Rattle.place_table.specs.Reading.{root_by}
use Rattle.place_table.specs.Table.{TableValue, node_at, AreRootsBy}
use Rattle.place_table.proofs.Chosen.{named_so, place_shown, nothing_at, roots_are}
use Rattle.place_table.proofs.Found.{ok_then}
use Rattle.place_table.proofs.Listed.{none_once}
use Rattle.place_table.proofs.table.PlaceTable.roots_by.Goals as goal

pub returns-in-Some : goal.returns-in-Some
returns-in-Some c =
    let nodes = c.at.result.now.nodes in
    ok_then c.add_roots.result c.add_roots.ensures.added (λ is.
    subst (AreRootsBy c.args.self.now c.args.id c.args.edge)
    (sym (is ∙ ap (λ (l : List ℕ). l ++ filter_map (root_by c.args.edge c.at.result.now.id) nodes)
    c.clear.ensures.items
    ∙ ap (λ id. filter_map (root_by c.args.edge id) nodes)
    (named_so c.self.inside.places c.args.id c.in-Some.number c.at.result.now c.in-Some.ensures
    c.at.ensures.place)))
    (roots_are c.self.inside.puts c.args.self.now c.args.id nodes
    (λ root. sym (ap (λ (t : TableValue). node_at t root c.args.id) c.self.view_is)
    ∙ place_shown c.self.inside.puts c.self.inside.places c.args.id c.in-Some.number
    c.at.result.now c.in-Some.ensures c.at.ensures.place c.at.ensures.kept root)
    c.add_roots.ensures.once c.args.edge))

pub returns-in-None : goal.returns-in-None
returns-in-None c =
    subst (AreRootsBy c.args.self.now c.args.id c.args.edge) (sym c.clear.ensures.items)
    (roots_are c.self.inside.puts c.args.self.now c.args.id []
    (λ root. sym (ap (λ (t : TableValue). node_at t root c.args.id) c.self.view_is)
    ∙ nothing_at c.self.inside.puts c.self.inside.places c.args.id c.in-None.ensures root)
    none_once c.args.edge)
