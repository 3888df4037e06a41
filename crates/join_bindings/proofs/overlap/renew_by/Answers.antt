use Rattle.std.proofs.Common.{List, ℕ}
use Rattle.indexmap.proofs.MapLemmas.{OnOk-map}
use Rattle.join_bindings.specs.Overlaps.{Follows, IsAtEvent}
use Rattle.join_bindings.proofs.Sharing.{both_renewed, renewed}
use Rattle.join_bindings.proofs.overlap.renew_by.Goals as goal

pub returns : goal.returns
returns c =
    let sets = c.args.sets.now in
    let event = c.args.event.now in
    let columns = c.args.columns in
    let old : List (List ℕ) = c.args.vertices.now in
    let mid : List (List ℕ) = c.renew_column.new.vertices in
    let new : List (List ℕ) = c.renew_column-2.new.vertices in
    OnOk-map c.renew_column-2.result _ (Follows sets event columns old new) (λ second.
    renewed sets event columns old new
    (both_renewed sets columns old mid new (IsAtEvent columns.first event) (IsAtEvent columns.second event) c.in_ok-renew_column.ensures second))
    c.renew_column-2.ensures
