use Rattle.std.proofs.Common.{◌≡◌, rules, Some, OnOk, OnErr, [], ap, subst, ◌∙◌}
use Rattle.std.specs.Option.{unwrap_or}
use Rattle.indexmap.specs.Entry.{entry_value, map_with_value}
use Rattle.source_index.specs.Vertex.{AddsAt, RootsByState}
use Rattle.source_index.specs.Holders.{AddsHolder, HoldersValue, HoldsSame, vertex_at}
use Rattle.source_index.proofs.Indexed.{after}
use Rattle.source_index.proofs.Places.{adds_holder, found_or_bare, holds_same, same_at, on_ok, on_err}
use Rattle.source_index.proofs.holders.Holders.add.Goals as goal

pub returns-clause-added : goal.returns-clause-added
returns-clause-added c =
    let id = c.args.id in
    let places = c.add.new.self in
    let vertices = map_with_value c.in_ok-self-inside.field-0 places in
    let had : c.or_insert_with-places.result.now
    ≡ vertex_at c.self.inside.vertices.entries id.vertex =
    found_or_bare (entry_value c.in_ok-self-inside.field-0) _ c.or_insert_with-places.result.now
    c.or_insert_with-places.ensures.value (λ places bare. bare)
    ∙ ap (λ found. unwrap_or found []) c.in_ok-self-inside.ensures.value in
    after (λ new. OnOk c.add.result (AddsHolder c.args.self.now new id c.args.root))
    vertices.entries _ (search rules)
    (on_ok c.add.result (λ adds.
    subst (λ (old : HoldersValue). AddsHolder old vertices.entries id c.args.root) c.self.view_is
    (adds_holder c.self.inside.vertices.entries vertices.entries id c.args.root places
    (c.in_ok-self-inside.ensures.update.0 places).0
    (subst (λ (old : RootsByState). AddsAt old places id.state c.args.root) had adds)))
    c.add.ensures.added)

pub returns-clause-unchanged : goal.returns-clause-unchanged
returns-clause-unchanged c =
    let id = c.args.id in
    let places = c.add.new.self in
    let vertices = map_with_value c.in_ok-self-inside.field-0 places in
    let had : c.or_insert_with-places.result.now
    ≡ vertex_at c.self.inside.vertices.entries id.vertex =
    found_or_bare (entry_value c.in_ok-self-inside.field-0) _ c.or_insert_with-places.result.now
    c.or_insert_with-places.ensures.value (λ places bare. bare)
    ∙ ap (λ found. unwrap_or found []) c.in_ok-self-inside.ensures.value in
    after (λ new. OnErr c.add.result (HoldsSame c.args.self.now new))
    vertices.entries _ (search rules)
    (on_err c.add.result (λ same.
    subst (λ (old : HoldersValue). HoldsSame old vertices.entries) c.self.view_is
    (holds_same c.self.inside.vertices.entries vertices.entries
    (same_at c.self.inside.vertices.entries vertices.entries id.vertex (Some places)
    (c.in_ok-self-inside.ensures.update.0 places).0 (same ∙ had))))
    c.add.ensures.unchanged)
