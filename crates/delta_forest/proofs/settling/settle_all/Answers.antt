use Rattle.std.proofs.Common.{◌≡◌, ◌+◌, ◌<◌, ℕ, length, take, get_or, arith}
use Rattle.std.proofs.lemmas.List.{get_or_default}
use Rattle.rpq_base.proofs.Members.{next_one}
use Rattle.delta_forest.proofs.Chains.{found_more, next_apart, settled_more}
use Rattle.delta_forest.proofs.settling.settle_all.Goals as goal

pub loop-root-preserved : goal.loop-root-preserved
loop-root-preserved c =
    let roots = c.args.roots.now in
    let place = c.loop-root.root-index in
    let root : ℕ = get_or roots place 0 in
    let within : place < length roots = omega (arith, c.loop-root-test.true) in
    let is : root ≡ get_or roots place root = get_or_default roots place 0 root within in
    let apart = next_apart roots place root c.requires.sorted within is in
    record {
      settled = settled_more c.args.change c.args.index.now c.loop-root.index c.settle.new.index
          (take place roots) (take (place + 1) roots) root c.loop-root.invariant.settled
          c.in_ok-settle.ensures.settled apart (next_one roots place root within is);
      found = found_more c.args.index.now.sources c.loop-root.index.sources roots place root
          c.loop-root.found c.settle.new.found c.loop-root.invariant.found
          c.in_ok-settle.ensures.found (c.loop-root.invariant.settled.same root apart) within is;
    }
