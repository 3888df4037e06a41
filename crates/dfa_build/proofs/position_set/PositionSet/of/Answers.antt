use Rattle.std.proofs.Common.{◌≡◌, ◌<◌, ◌*◌, ◌%◌, ◌^◌, arith}
use Rattle.std.proofs.Math.Pow.{pow-lt}
use Rattle.dfa_build.proofs.Sets.{has_one}
use Rattle.dfa_build.proofs.position_set.PositionSet.of.Goals as goal

pub returns : goal.returns
returns c = λ p.
    let small : 2 ^ c.args.position < 2 ^ 64 = pow-lt c.requires in
    let same : 1 * 2 ^ c.args.position % 2 ^ 64 ≡ 2 ^ c.args.position = omega arith in
    rw same (has_one c.args.position p)
