use Rattle.std.proofs.Common.{ℕ, List, length, sym, ap, subst, ◌∙◌}
use Rattle.std.specs.Prelude.{All}
use Rattle.join_file.specs.Joins.{JoinValue}
use Rattle.join_file.specs.Sound.{IsSound}
use Rattle.join_bindings.proofs.joins.Joins.apply.Goals as goal

pub moved-requires-clause-sound : goal.moved-requires-clause-sound
moved-requires-clause-sound c =
    subst (λ (joins : List JoinValue). All (IsSound (length c.self.inside.sets)) joins)
    (sym (c.as_slice.ensures.value ∙ ap (λ joins. joins.items) c.deref.ensures)) c.self.invariant.1

pub invariant_of-self : goal.invariant_of-self
invariant_of-self c = (
  c.self.invariant.0,
  subst (λ (count : ℕ). All (IsSound count) c.self.inside.defs.value.items)
      (sym c.moved.ensures.many) c.self.invariant.1,
)

pub invariant_of-self-2 : goal.invariant_of-self-2
invariant_of-self-2 c = (
  c.self.invariant.0,
  subst (λ (count : ℕ). All (IsSound count) c.self.inside.defs.value.items)
      (sym c.moved.ensures.many) c.self.invariant.1,
)
