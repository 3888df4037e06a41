use Rattle.std.proofs.Common.{List, [], ℕ, subst}
use Rattle.std.specs.Prelude.{◌↔◌, ◌≡◌, Contains}
use Rattle.join_bindings.specs.Pairs.{Rows, row_of}
use Rattle.join_bindings.proofs.Rowing.{replaced, takes_from}
use Rattle.join_bindings.proofs.rows.VertexRows.remove.Goals as goal

pub returns-in_ok-put : goal.returns-in_ok-put
returns-in_ok-put c =
    let first : Rows = c.args.self.now in
    let before : Rows = c.take.new.self in
    let after : Rows = c.put.new.self in
    let vertex = c.args.vertex.now in
    let other = c.args.other.now in
    let row : List (List ℕ) = c.remove.new.self in
    let left : (each : List ℕ) → Contains row each ↔ (Contains (row_of first vertex) each × (other ≡ each → ⊥)) =
    subst (λ (list : List (List ℕ)). (each : List ℕ) → Contains row each ↔ (Contains list each × (other ≡ each → ⊥)))
    c.in-Some.ensures.row c.remove.ensures in
    takes_from first after vertex other row
    (replaced first before after vertex c.in-Some.key row c.in-Some.ensures.key c.take.ensures.rest c.in_ok-put.ensures) left

pub returns-else-not-is_empty : goal.returns-else-not-is_empty
returns-else-not-is_empty c =
    let first : Rows = c.args.self.now in
    let after : Rows = c.take.new.self in
    let vertex = c.args.vertex.now in
    let other = c.args.other.now in
    let row : List (List ℕ) = c.remove.new.self in
    let left : (each : List ℕ) → Contains row each ↔ (Contains (row_of first vertex) each × (other ≡ each → ⊥)) =
    subst (λ (list : List (List ℕ)). (each : List ℕ) → Contains row each ↔ (Contains list each × (other ≡ each → ⊥)))
    c.in-Some.ensures.row c.remove.ensures in
    let none : row ≡ [] = c.is_empty.ensures.0 c.if-not-is_empty.false in
    takes_from first after vertex other [] c.take.ensures.rest
    (subst (λ (list : List (List ℕ)). (each : List ℕ) → Contains list each ↔ (Contains (row_of first vertex) each × (other ≡ each → ⊥))) none left)
