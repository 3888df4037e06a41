use Rattle.std.proofs.Common.{List, ℕ}
use Rattle.indexmap.proofs.MapLemmas.{OnOk-map}
use Rattle.join_bindings.specs.Overlaps.{Renews, IsAtEvent}
use Rattle.join_bindings.proofs.Sharing.{event_renewed, none_renewed}
use Rattle.join_bindings.proofs.overlap.renew_column.Goals as goal

pub returns-then-column-event : goal.returns-then-column-event
returns-then-column-event c =
    let sets = c.args.sets.now in
    let columns = c.args.columns in
    let old : List (List ℕ) = c.args.vertices.now in
    let new : List (List ℕ) = c.renew_at.new.vertices in
    OnOk-map c.renew_at.result _ (Renews sets columns old new (IsAtEvent c.args.column c.args.event.now)) (λ renews.
    event_renewed sets columns old new c.args.column c.args.event.now c.vertex_at-vertex.result.now c.vertex_at-vertex.ensures renews) c.renew_at.ensures

pub returns-else-column-event : goal.returns-else-column-event
returns-else-column-event c =
    none_renewed c.args.sets.now c.args.columns c.args.vertices.now c.args.column c.args.event.now c.if-column-event.false
