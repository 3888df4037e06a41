use Rattle.std.proofs.Common.{◌∙◌, arith}
use Rattle.name_table.proofs.Keys.{all_digits, has_room}
use Rattle.name_table.proofs.sort_key.sort_key.Goals as goal

pub overflow_mul-key : goal.overflow_mul-key
overflow_mul-key c =
    omega (
      arith,
      c.loop-place.invariant,
      has_room c.loop-place.place c.args.bytes.now 0 (λ place. omega (arith, c.type_inv.bytes place)) c.loop-place-test.true (omega arith),
    )

pub overflow_add-key : goal.overflow_add-key
overflow_add-key c =
    omega (
      arith,
      c.loop-place.invariant,
      has_room c.loop-place.place c.args.bytes.now c.byte_at.result
          (λ place. omega (arith, c.type_inv.bytes place)) c.loop-place-test.true c.byte_at.type_inv,
    )

pub returns-clause-key : goal.returns-clause-key
returns-clause-key c =
    c.loop-place.invariant
    ∙ all_digits c.loop-place.place c.args.bytes.now (omega (arith, c.loop-place-test.false, c.loop-place.auto.place-end))
