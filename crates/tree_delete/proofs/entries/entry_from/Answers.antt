use Rattle.std.proofs.Common.{◌≤◌, ◌<◌, ◌^◌, arith}
use Rattle.tree_delete.proofs.entries.entry_from.Goals as goal

pub returns-clause-most : goal.returns-clause-most
returns-clause-most g c number below carries leads =
    let fits : number < 2 ^ 64 = omega (arith, below) in
    let most : number ≤ c.in_ok-most.most = c.in_ok-most.ensures.most number fits carries in
    omega (arith, c.min.ensures, most, below)
