use Rattle.std.proofs.Common.{◌<◌, List, length, sym, subst}
use Rattle.std.specs.Prelude.{All, Contains}
use Rattle.std.proofs.lemmas.List.Elements.{All-weaker, All-contains_itself}
use Rattle.std.proofs.lemmas.Option.{slice_get_within}
use Rattle.join_bindings.specs.declared.event.JoinEvent.{JoinEvent}
use Rattle.join_file.specs.Joins.{JoinValue}
use Rattle.reach_cases.proofs.bindings.put_changes.Goals as goal

-- each event is of one of the joins
pub join_text-requires : goal.join_text-requires
join_text-requires c =
    let found = c.in-Ok.found.items in
    let within = λ (each : JoinEvent). each.join < length c.args.defs.now in
    subst (λ (events : List JoinEvent). All within events) (sym c.deref.ensures.value)
    (All-weaker (Contains found) within
    (λ each member.
    let told = (c.in-Ok.ensures.events.exact each).0 member in
    subst (λ (joins : List JoinValue). each.join < length joins) c.requires.defs
    (slice_get_within c.args.joins.now.joins each.join told.0 told.1))
    found (All-contains_itself found))
