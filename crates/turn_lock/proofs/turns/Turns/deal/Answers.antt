use Rattle.std.proofs.Common.{rules, ◌≡◌, ◌+◌, ◌<◌, [], ℕ, sym, ap, ◌∙◌, arith}
use Rattle.std.specs.Vec.{vec_len}
use Rattle.turn_lock.specs.Steps.{first_part, next_seat}
use Rattle.turn_lock.specs.Turn.{fresh}
use Rattle.turn_lock.proofs.Deals.{splits}
use Rattle.turn_lock.proofs.Seats.{one_more, newcomer_is}
use Rattle.turn_lock.proofs.turns.Turns.deal.Goals as goal

pub split_seat-next-requires : goal.split_seat-next-requires
split_seat-next-requires g c =
    let i = c.loop-number.invariant in
    let made : ℕ = c.loop-number.seat.me.0.made in
    let n : ℕ = vec_len c.loop-number.dealt in
    let made_is : made ≡ n + 1 = ap (λ m. m.0.made) i.4 in
    let number : ℕ = c.loop-number.number in
    let counted : n ≡ number = i.0 in
    let most : ℕ = c.self.inside.table.shared.key.passes in
    let passes : ℕ = c.self.inside.passes in
    let most_is : most ≡ passes = c.self.invariant.2 in
    let more : number + 1 < passes = omega (arith, c.loop-number-test.true) in (
      search rules,
      search rules,
      splits _ _ _ _ _ _ _ (ap (λ m. m.0.stage) i.4)
          (let e : 0 < made = omega arith in e) (let e : made < most = omega arith in e),
    )

pub invariant_of-push_reserved : goal.invariant_of-push_reserved
invariant_of-push_reserved g c =
    let i = c.loop-number.invariant in
    let seat = c.split_seat-next.ensures.2 in (
      search rules,
      search rules,
      ap (λ m. m.0.known.number) seat ∙ ap (λ m. m.0.known.number) i.4 ∙ i.0,
    )

pub loop-number-preserved : goal.loop-number-preserved
loop-number-preserved g c =
    let i = c.loop-number.invariant in
    let n : ℕ = vec_len c.loop-number.dealt in
    let split = c.split_seat-next.ensures in
    let push = c.push_reserved.ensures in
    let f = c.args.seat.me.0.known.fixed in (
      push.len ∙ ap (λ (k : ℕ). k + 1) i.0,
      i.1,
      push.capacity ∙ i.2,
      split.3 ∙ i.3,
      split.4 ∙ ap (λ m. (next_seat m.0, [])) i.4
          ∙ ap (λ (k : ℕ). (fresh k (k + 1) f, [])) (sym push.len),
      λ fixed is.
          push.items
          ∙ one_more _ fixed n _ _ _ (i.5 fixed is)
          (newcomer_is _ _ _ n 0 f fixed (split.0 ∙ i.3)
          (ap (λ m. m.0) split.2 ∙ ap (λ m. first_part m.0) i.4) is) push.len,
    )

pub invariant_of-push_reserved-2 : goal.invariant_of-push_reserved-2
invariant_of-push_reserved-2 g c =
    let i = c.loop-number.invariant in (
      search rules,
      search rules,
      ap (λ m. m.0.known.number) i.4
          ∙ (i.0 ∙ omega (arith, c.loop-number-test.false, c.loop-number.auto.number-end)),
    )

pub returns : goal.returns
returns g c =
    let i = c.loop-number.invariant in
    let n : ℕ = vec_len c.loop-number.dealt in
    let number : ℕ = c.loop-number.number in
    let counted : n ≡ number = i.0 in
    let passes : ℕ = c.args.self.now.passes in
    let all : passes ≡ n + 1 =
    omega (arith, i.1, c.loop-number-test.false, c.loop-number.auto.number-end) in
    let f = c.args.seat.me.0.known.fixed in
    λ fixed is.
    c.push_reserved-2.ensures.items
    ∙ one_more _ fixed n _ _ _ (i.5 fixed is)
    (newcomer_is _ _ _ n (n + 1) f fixed i.3 (ap (λ m. m.0) i.4) is) all
