use Rattle.std.proofs.Common.{◌≡◌, ◌+◌, ◌-◌, ◌∷◌, ℕ, List, length, Bool, map, drop, Vec, Global, sym, ap, subst, ◌∙◌, arith}
use Rattle.std.specs.Prelude.{reverse, if◌then◌else◌}
use Rattle.rpq_model.specs.declared.live.Live.{Live}
use Rattle.rpq_model.specs.Window.{Placed}
use Rattle.rpq_model.specs.Live.{placed_entry}
use Rattle.rpq_model.proofs.LiveEdges.{AreFrom, at_place, from_end, from_more, one_kept}
use Rattle.rpq_model.proofs.live.live_entries.Goals as goal
use Rattle.rpq_model.proofs.live.live_entries.Goals.{then-is_live+in_ok-push, else-is_live}

pub loop-place-init : goal.loop-place-init
loop-place-init c =
    let entries = c.args.entries.now in
    subst (λ (live : List Live). AreFrom c.args.window c.args.now entries (length entries) live c.new-deleted.result) (sym c.new-live.ensures.items)
    (from_end c.args.window c.args.now entries c.new-deleted.result c.new-deleted.ensures.empty)

pub loop-place-preserved : goal.loop-place-preserved
loop-place-preserved c =
    let window = c.args.window in
    let now = c.args.now in
    let entries = c.args.entries.now in
    let place = c.loop-place.place - 1 in
    let entry = c.index-entries-place.result in
    let live = c.loop-place.live.items in
    let same_place : c.loop-place.place ≡ place + 1 = omega arith in
    let so_far : AreFrom window now entries (place + 1) live c.loop-place.deleted =
    subst (λ (at : ℕ). AreFrom window now entries at live c.loop-place.deleted) (omega arith) c.loop-place.invariant in
    let kept_is = c.is_live.ensures (drop (place + 1) entries) so_far.deletes_held in
    let with_entry : Bool → List Placed = λ kept. if kept then at_place place entry ∷ map placed_entry (reverse live) else map placed_entry (reverse live) in
    let more_is : map placed_entry (reverse c.if-is_live.live.items) ≡ with_entry c.is_live.result =
    elim c.if-is_live.branch [
      | then-is_live+in_ok-push w ↦
          let pushed = ap (λ (all : Vec Live Global). all.items) w.live-is ∙ w.in_ok-push.ensures.items in
          one_kept live c.if-is_live.live.items _ pushed ∙ sym (ap with_entry w.if-is_live.true)
      | else-is_live w ↦ ap (λ (all : Vec Live Global). map placed_entry (reverse all.items)) w.live-is ∙ sym (ap with_entry w.if-is_live.false)
    ] in
    from_more window now entries place live c.if-is_live.live.items c.loop-place.deleted c.add_deleted.new.deleted entry c.is_live.result
    so_far (omega arith) c.index-entries-place.is kept_is more_is c.in_ok-add_deleted.ensures
