use Rattle.std.proofs.Common.{◌≡◌, ◌+◌, [], Some}
use Rattle.std.specs.Vec.{vec_len, vec_capacity}
use Rattle.turn_lock.specs.Passes.{newcomers}
use Rattle.turn_lock.specs.Turn.{fresh}
use Rattle.turn_lock.proofs.turns.Turns.deal.Given as goal

abbrev pub invariant-loop-number : goal.invariant-loop-number
invariant-loop-number g l =
    (vec_len l.dealt ≡ l.number) × (l.last + 1 ≡ l.self.passes)
    × (vec_capacity l.dealt ≡ vec_capacity l.initial.dealt) × (l.seat.table_id ≡ l.self.id)
    × (l.seat.me
    ≡ (fresh (vec_len l.dealt) (vec_len l.dealt + 1) l.initial.seat.me.0.known.fixed, []))
    × ((fixed : g.row.V-Fixed.Denot) → l.initial.seat.me.0.known.fixed ≡ Some fixed
    → l.dealt.items ≡ newcomers l.self.id fixed (vec_len l.dealt))
