use Rattle.std.proofs.Common.{ℕ, sym, subst}
use Rattle.std.specs.Prelude.{All}
use Rattle.join_file.specs.Sound.{IsSound}
use Rattle.join_bindings.proofs.joins.Joins.new.Goals as goal

pub invariant_of-result : goal.invariant_of-result
invariant_of-result g c = (
  c.requires.few,
  subst (λ (count : ℕ). All (IsSound count) c.args.defs.value.items)
      (sym c.in_ok-sets.ensures.many) c.requires.sound,
)
