use Rattle.std.proofs.Common.{ℕ, refl, sym, subst}
use Rattle.std.specs.Prelude.{All}
use Rattle.join_file.specs.Sound.{IsSound}
use Rattle.join_bindings.proofs.Finding.{both_found}
use Rattle.join_bindings.proofs.Differing.{found_are_events}
use Rattle.join_bindings.proofs.joins.moved.Goals as goal

pub add_found-requires-2-clause-sound : goal.add_found-requires-2-clause-sound
add_found-requires-2-clause-sound c =
    subst (λ (count : ℕ). All (IsSound count) c.args.defs.now) (sym c.change.ensures.many) c.requires.sound

pub returns-clause-events : goal.returns-clause-events
returns-clause-events c =
    let defs = c.args.defs.now in
    let old = c.args.sets.now in
    let new = c.change.new.sets in
    let events = c.args.events.now in
    found_are_events defs old new events c.put_in_order.new.events.items c.requires.may c.in_ok-change.ensures.put
    c.put_in_order.ensures.sorted
    (both_found defs old new old new events c.new-found.result.items
    c.add_found.new.found.items c.add_found-2.new.found.items c.put_in_order.new.events.items
    c.new-found.ensures.items refl refl
    c.in_ok-add_found.ensures c.in_ok-add_found-2.ensures c.put_in_order.ensures.same)
