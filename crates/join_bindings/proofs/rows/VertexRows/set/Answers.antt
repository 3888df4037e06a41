use Rattle.std.proofs.Common.{◌≡◌, subst, sym}
use Rattle.std.specs.List.{IsDistinct}
use Rattle.std.specs.Map.{keys_of}
use Rattle.rpq_base.specs.Same.{same_name}
use Rattle.join_bindings.specs.Pairs.{Rows, AddsTo, TakesFrom, Sets}
use Rattle.join_bindings.proofs.Rowing.{set_by_adding, set_by_taking}
use Rattle.join_bindings.proofs.rows.VertexRows.set.Goals as goal
use Rattle.join_bindings.proofs.rows.VertexRows.set.Goals.{then-added+in_ok-add}
use Rattle.join_bindings.proofs.rows.VertexRows.set.Goals.{else-added+in_ok-remove}

pub returns : goal.returns
returns c =
    let before : Rows = c.args.self.now in
    let after : Rows = c.if-added.self in
    let vertex = c.args.vertex.now in
    let other = c.args.other.now in
    let distinct : IsDistinct same_name (keys_of after) =
    subst (λ (rows : Rows). IsDistinct same_name (keys_of rows)) c.self.view_is c.self.invariant in
    elim c.if-added.branch [
      | then-added+in_ok-add w ↦
          let is : after ≡ w.add.new.self = w.self-is in
          subst (Sets before after vertex other) (sym w.if-added.true)
          (set_by_adding before after vertex other distinct (subst (λ (rows : Rows). AddsTo before rows vertex other) (sym is) w.in_ok-add.ensures))
      | else-added+in_ok-remove w ↦
          let is : after ≡ w.remove.new.self = w.self-is in
          subst (Sets before after vertex other) (sym w.if-added.false)
          (set_by_taking before after vertex other distinct (subst (λ (rows : Rows). TakesFrom before rows vertex other) (sym is) w.in_ok-remove.ensures))
    ]
