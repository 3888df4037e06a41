use Rattle.std.proofs.Common.{◌<◌, List, length, sym, subst, ◌∙◌}
use Rattle.std.specs.List.{All}
use Rattle.join_bindings.specs.declared.event.JoinEvent.{JoinEvent}
use Rattle.join_file.specs.Joins.{JoinValue}
use Rattle.join_bindings.specs.State.{family}
use Rattle.entry_steps.proofs.Taking.{numbers_of_changes}
use Rattle.entry_steps.proofs.joining.lines_of.Goals as goal

pub join_text-requires : goal.join_text-requires
join_text-requires c =
    let old = c.args.joins.now in
    let new = c.apply.new.self in
    let below = λ (joins : List JoinValue) (each : JoinEvent). each.join < length joins in
    subst (λ (joins : List JoinValue). All (below joins) c.deref.result.now)
    (sym (c.defs.ensures ∙ c.apply.ensures.joins))
    (subst (All (below old.joins)) (sym c.deref.ensures.value)
    (numbers_of_changes old.joins (family old.pairs) (family new.pairs) c.in-Ok.changes.items
    c.in-Ok.ensures.events))
