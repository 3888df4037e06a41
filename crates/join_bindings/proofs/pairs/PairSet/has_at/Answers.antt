use Rattle.std.proofs.Common.{◌≡◌, true, sym, subst}
use Rattle.std.specs.Prelude.{◌↔◌}
use Rattle.join_bindings.specs.declared.columns.Side.{Side}
use Rattle.join_bindings.specs.Overlaps.{StandsIn}
use Rattle.join_bindings.proofs.pairs.PairSet.has_at.Goals as goal

pub returns-in-Source : goal.returns-in-Source
returns-in-Source c =
    subst (λ (side : Side). (c.has_source.result ≡ true) ↔ StandsIn c.args.self.now side c.args.vertex.now) (sym c.in-Source.is) c.has_source.ensures

pub returns-in-Target : goal.returns-in-Target
returns-in-Target c =
    subst (λ (side : Side). (c.has_target.result ≡ true) ↔ StandsIn c.args.self.now side c.args.vertex.now) (sym c.in-Target.is) c.has_target.ensures
