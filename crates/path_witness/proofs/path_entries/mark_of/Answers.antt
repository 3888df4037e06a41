use Rattle.std.proofs.Common.{subst}
use Rattle.path_witness.specs.Found.{IsFound}
use Rattle.path_witness.proofs.Telling.{has_mark}
use Rattle.path_witness.proofs.path_entries.mark_of.Goals as goal

pub unreachable-requires : goal.unreachable-requires
unreachable-requires c =
    let edge = c.args.edge.now in
    has_mark c.args.marks.now c.args.query edge c.requires (λ history query there stands.
    subst (IsFound query.window history edge) c.in-None.is
    (c.find.ensures history query there stands))

pub returns : goal.returns
returns c history query there stands =
    let found = subst (IsFound query.window history c.args.edge.now) c.in-Some.is
    (c.find.ensures history query there stands) in
    found.some
