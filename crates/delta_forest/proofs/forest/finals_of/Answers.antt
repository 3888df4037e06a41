use Rattle.std.proofs.Common.{◌≡◌, ℕ, ◌<◌, arith}
use Rattle.std.specs.Prelude.{IsTrue}
use Rattle.dfa_table.specs.DfaValue.{is_final}
use Rattle.delta_forest.proofs.Ends.{within}
use Rattle.delta_forest.proofs.Gathering.{adds_like, next_final}
use Rattle.delta_forest.proofs.forest.finals_of.Goals as goal

pub loop-state-preserved : goal.loop-state-preserved
loop-state-preserved c =
    let bound = c.loop-state.state in
    let test = is_final c.args.dfa.now in
    let above : 0 < bound = c.loop-state.invariant.0 in
    let kind = λ (each : ℕ). (0 < each) × IsTrue (test each) in (
      omega arith,
      next_final kind bound c.loop-state.finals.items c.add_final.new.finals.items
          c.loop-state.invariant.1
          (adds_like c.loop-state.finals.items c.add_final.new.finals.items
          (λ each. (each ≡ bound) × IsTrue (test each)) (λ each. (each ≡ bound) × kind each)
          c.in_ok-add_final.ensures
          (λ each. (
            (λ both. (both.0, (omega (arith, above, both.0), both.1))),
            (λ has. (has.0, has.1.1)),
          ))),
    )

pub returns : goal.returns
returns c state = (
  (λ member. ((c.loop-state.invariant.1 state).0 member).1),
  (λ final. (c.loop-state.invariant.1 state).1 (
    (let less = within c.args.dfa.now.finals state final.1 in
        omega (
          arith,
          less,
          c.states-state-end.ensures.valid.finals,
          c.loop-state-test.false,
          c.states-state-end.ensures.number,
        )),
    final,
  )),
)
