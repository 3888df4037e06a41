use Rattle.std.proofs.Common.{◌≡◌, ◌∙◌, ⊎_elim, length, refl, sym, ap, subst, arith, slice_get}
use Rattle.std.proofs.lemmas.Bool.{cases_eq}
use Rattle.std.proofs.lemmas.Option.{slice_get_read, get_or_from_slice_get}
use Rattle.tree_insert.specs.Best.{IsAtLeast}
use Rattle.place_table.specs.declared.gain.Gain.{Gain}
use Rattle.wide_search.proofs.settling.least_before.Goals as goal

pub loop-gain-preserved : goal.loop-gain-preserved
loop-gain-preserved c k gain number below at reached = ⊎_elim
    (λ (same : k ≡ c.loop-gain.gain-index).
    subst (λ (each : Gain). IsAtLeast number each.before)
    (get_or_from_slice_get c.args.gains.now c.loop-gain.gain-index gain _
    (ap (slice_get c.args.gains.now) (sym same) ∙ at))
    (c.lesser-least.ensures.second number reached))
    (λ (apart : k ≡ c.loop-gain.gain-index → ⊥).
    c.loop-gain.invariant k gain number (omega (arith, below, apart)) at
    (c.lesser-least.ensures.first number reached))
    (cases_eq k c.loop-gain.gain-index)

pub returns : goal.returns
returns c gain number has reached =
    c.loop-gain.invariant has.0 gain number (omega (arith, has.1, c.loop-gain-test.false))
    (slice_get_read c.args.gains.now (length c.args.gains.now) has.0 gain refl has.1 (sym has.2))
    reached
