use Rattle.std.proofs.Common.{rules, arith, ℕ, ◌≤◌, ◌+◌, length, take, length-take}
use Rattle.rpq_io.proofs.Bytes.{takes_more}
use Rattle.rpq_io.proofs.whole.read_all.Goals as goal

pub returns-in_err-extend_from_slice-clause-err : goal.returns-in_err-extend_from_slice-clause-err
returns-in_err-extend_from_slice-clause-err g c =
    let piece = take c.in_ok-count.count c.read.new.into in
    let few : length c.loop-buffer.bytes.items + length piece ≤ c.args.byte_limit =
    omega (
      arith,
      length-take {A =
          ℕ},
      c.read.auto.into,
      c.in_ok-count.ensures.bound,
      c.loop-buffer.bytes.ok,
    ) in
    let taken = takes_more _ _ _ _ _ piece c.loop-buffer.invariant.taken c.in_ok-count.ensures.taken few in
    search (rules, taken)
