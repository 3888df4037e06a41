use Rattle.std.proofs.Common.{List, ℕ, subst, ◌⊎◌}
use Rattle.std.specs.Prelude.{◌↔◌, ◌≡◌, Contains}
use Rattle.indexmap.proofs.MapLemmas.{OnOk-map}
use Rattle.join_bindings.specs.Pairs.{Rows, row_of, AddsTo}
use Rattle.join_bindings.proofs.Rowing.{replaced, adds_to}
use Rattle.join_bindings.proofs.rows.VertexRows.add.Goals as goal

pub returns : goal.returns
returns c =
    let first : Rows = c.args.self.now in
    let before : Rows = c.take_or_new.new.self in
    let after : Rows = c.put.new.self in
    let vertex = c.args.vertex.now in
    let other = c.args.other.now in
    let row : List (List ℕ) = c.add.new.self in
    let grown : (each : List ℕ) → Contains row each ↔ (Contains (row_of first vertex) each ⊎ (other ≡ each)) =
    subst (λ (list : List (List ℕ)). (each : List ℕ) → Contains row each ↔ (Contains list each ⊎ (other ≡ each)))
    c.in_ok-key.ensures.row c.in_ok-add.ensures in
    OnOk-map c.put.result _ (AddsTo first after vertex other) (λ put. adds_to first after vertex other row
    (replaced first before after vertex c.in_ok-key.key row c.in_ok-key.ensures.key c.take_or_new.ensures.rest put) grown)
    c.put.ensures
