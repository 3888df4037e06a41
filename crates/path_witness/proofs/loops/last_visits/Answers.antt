use Rattle.std.proofs.Common.{◌≡◌, ℕ, ◌+◌, ◌-◌, ap, subst, ◌∙◌, refl, arith}
use Rattle.path_witness.specs.LastVisits.{are_last}
use Rattle.std.proofs.Common.{drop}
use Rattle.path_witness.proofs.Visits.{AreLastFrom, last_at_end, last_more}
use Rattle.path_witness.proofs.loops.last_visits.Goals as goal

pub loop-place-init : goal.loop-place-init
loop-place-init c = last_at_end c.args.path.now c.new-lasts.result.items c.new-left.result c.new-lasts.ensures.items c.new-left.ensures.empty

pub loop-place-preserved : goal.loop-place-preserved
loop-place-preserved c =
    let path = c.args.path.now in
    let place = c.loop-place.place - 1 in
    let edge = c.index-path-place.result in
    let so_far : AreLastFrom path (place + 1) c.loop-place.lasts.items c.loop-place.left =
    subst (λ (at : ℕ). AreLastFrom path at c.loop-place.lasts.items c.loop-place.left) (omega arith) c.loop-place.invariant in
    last_more path place edge (record { ref_ptr = c.args.path.ref_ptr; now = edge.from }) c.in_ok-insert.field-0 c.loop-place.lasts.items c.push.new.self.items c.loop-place.left c.insert.new.self
    so_far (omega arith) c.index-path-place.is refl c.in_ok-insert.ensures.added (c.in_ok-insert.ensures.updates.0) c.in_ok-push.ensures.items

pub returns : goal.returns
returns c =
    let path = c.args.path.now in
    let none : c.loop-place.place ≡ 0 = omega (arith, c.loop-place-test.false) in
    c.reverse.ensures.items ∙ (c.loop-place.invariant.flags ∙ ap (λ (place : ℕ). are_last (drop place path)) none)
