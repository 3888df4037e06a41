use Rattle.std.proofs.Common.{[], sym, ap, subst, ◌∙◌}
use Rattle.std.specs.Option.{unwrap_or}
use Rattle.indexmap.specs.IndexMap.{set_value_at}
use Rattle.source_index.specs.Vertex.{DropsAt, RootsByState}
use Rattle.source_index.proofs.Indexed.{drops_there, sets_at, still_at, read_itself}
use Rattle.source_index.proofs.holders.take_out.Goals as goal

pub returns-then-is_empty-clause-dropped : goal.returns-then-is_empty-clause-dropped
returns-then-is_empty-clause-dropped c =
    drops_there c.args.vertices.now c.args.id.vertex c.in_ok-index.index
    (sym c.in_ok-index.ensures.index) c.args.id.state c.args.root c.remove.new.self
    c.in_ok-index.ensures.unique
    (subst (λ (old : RootsByState). DropsAt old c.remove.new.self c.args.id.state c.args.root)
    (ap (λ found. unwrap_or found [])
    (c.in_ok-places.ensures.value ∙ c.in_ok-index.ensures.value))
    c.remove.ensures)

pub returns-then-is_empty-clause-bare : goal.returns-then-is_empty-clause-bare
returns-then-is_empty-clause-bare c =
    let places = c.remove.new.self in
    read_itself c.args.vertices.now.entries
    (set_value_at c.args.vertices.now.entries c.in_ok-index.index places) c.args.id.vertex places
    (sets_at c.args.vertices.now c.args.id.vertex c.in_ok-index.index
    (sym c.in_ok-index.ensures.index) places c.in_ok-index.ensures.unique)
    ∙ c.is_empty.ensures c.if-is_empty.true

pub returns-then-is_empty-clause-at : goal.returns-then-is_empty-clause-at
returns-then-is_empty-clause-at c =
    still_at c.args.vertices.now c.args.id.vertex c.in_ok-index.index
    (sym c.in_ok-index.ensures.index) c.remove.new.self

pub returns-clause-dropped : goal.returns-clause-dropped
returns-clause-dropped c =
    drops_there c.args.vertices.now c.args.id.vertex c.in_ok-index.index
    (sym c.in_ok-index.ensures.index) c.args.id.state c.args.root c.remove.new.self
    c.in_ok-index.ensures.unique
    (subst (λ (old : RootsByState). DropsAt old c.remove.new.self c.args.id.state c.args.root)
    (ap (λ found. unwrap_or found [])
    (c.in_ok-places.ensures.value ∙ c.in_ok-index.ensures.value))
    c.remove.ensures)
