-- One more row: it is its old members, and those of the second set where the position is in the first.
use Rattle.std.proofs.Common.{◌≢◌, ◌<◌, ◌&&◌, ◌||◌, length, sym, ap, ◌∙◌, arith, inl, inr}
use Rattle.std.proofs.lemmas.Bool.{cases_eq}
use Rattle.dfa_build.specs.PositionSet.{has, row_has}
use Rattle.dfa_build.proofs.Sets.{row_has-set_same, row_has-set_other, row_has-read}
use Rattle.dfa_build.proofs.construction.add_follow.Goals as goal

pub loop-position-preserved : goal.loop-position-preserved
loop-position-preserved c =
    let rows = c.loop-position.follow in
    let at = c.loop-position.position in
    let in_range : at < length rows = omega arith in
    record {
      done = λ p q h. elim (cases_eq p at) [
        | inl e ↦ (let old = c.loop-position.invariant.left at q (omega arith) in
            let new = row_has-set_same rows at q c.union_if.result in_range in
            let read = row_has-read rows at q in
            let step = c.union_if.ensures q in
            let tested = ap (λ b. row_has rows at q || (b && has c.args.after q)) c.contains.ensures in
            rw e (new ∙ step ∙ ap (λ b. b || (c.contains.result && has c.args.after q)) (sym read) ∙ tested ∙ ap (λ b. b || (has c.args.before at && has c.args.after q)) old))
        | inr d ↦ row_has-set_other rows at p q c.union_if.result d ∙ c.loop-position.invariant.done p q (omega arith)
      ];
      left = λ p q h. let d : p ≢ at = omega arith in row_has-set_other rows at p q c.union_if.result d ∙ c.loop-position.invariant.left p q (omega arith);
    }
