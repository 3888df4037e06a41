use Rattle.std.proofs.Common.{ℕ, List, drop, length, take, Contains, sym, ap, subst, ◌∙◌}
use Rattle.std.proofs.lemmas.List.{length-map, take-append-drop}
use Rattle.delta_tree.proofs.Ids.{none_or_some}
use Rattle.source_tree.specs.declared.change.EndChange.{EndChange}
use Rattle.end_log.specs.declared.moved.Moved.{Moved}
use Rattle.end_log.specs.Moves.{end_of}
use Rattle.end_log.specs.Runs.{AreDistinctStates}
use Rattle.end_log.proofs.Deciding.{Finds, finds_end}
use Rattle.end_log.proofs.Left.{TellsRuns, has_first, is_run, none_behind, none_first, runs_end, runs_more, runs_start, states_of}
use Rattle.end_log.proofs.Telling.{Moves}
use Rattle.end_log.proofs.runs.log_by_runs.Goals as goal

pub loop-first-init : goal.loop-first-init
loop-first-init c = (
  (λ vertex is. absurd (none_or_some vertex (sym c.forget.ensures ∙ is))),
  (λ finals old known are order empty.
      subst (λ (log : List EndChange). TellsRuns finals c.args.outcome old c.args.table.now
      c.args.moved.now log) (sym empty)
      (runs_start finals c.args.outcome old c.args.table.now are.way c.args.moved.now are order)),
)

pub loop-first-preserved : goal.loop-first-preserved
loop-first-preserved c = (
  c.in_ok-look_at.ensures.knows,
  (λ finals old known are order empty.
      let dfa = c.args.dfa.now in
      let table = c.args.table.now in
      let outcome = c.args.outcome in
      let left = c.loop-first.rest.now in
      let first = c.in-Some.first.now in
      let len = c.run_len.result in
      let run = take len left in
      let rest = drop len left in
      let log = c.loop-first.log.items in
      let next = c.push_some.new.items.items in
      let found = c.end_of_run-end.result in
      let tells = c.loop-first.invariant.1 finals old known are order empty in
      let seam = take-append-drop len left in
      let whole = subst (λ (all : List Moved). TellsRuns finals outcome old table all log)
      (sym seam) tells in
      let none = none_behind left first len tells.order c.in-Some.ensures.value
      c.run_len.ensures.end in
      let those = c.run_len.ensures.run in
      let there = subst (λ (all : List Moved). Contains all first) (sym seam)
      (has_first left first c.in-Some.ensures.value) in
      let is = is_run finals outcome old table are.way first run rest log those none there whole in
      let known_states = subst (λ (all : List ℕ). AreDistinctStates table first.vertex all)
      (sym c.states.ensures)
      (c.in_ok-look_at.ensures.knows first.vertex c.in_ok-look_at.ensures.vertex) in
      let many = ap (λ (all : List Moved). length all) c.split_at.ensures.front
      ∙ sym (length-map run (λ (each : Moved). each.state)) in
      let finds = subst (Finds (end_of outcome first)
      (Moves finals outcome old table outcome first.root first.vertex))
      (sym c.end_of_run-end.ensures)
      (finds_end dfa finals outcome old table first (states_of run) c.states.result.now known
      are.way is known_states (length c.split_at.result.0.now) many) in
      subst (λ (all : List Moved). TellsRuns finals outcome old table all next)
      (sym c.split_at.ensures.back)
      (subst (λ (each : List EndChange). TellsRuns finals outcome old table rest each)
      (sym c.in_ok-push_some.ensures)
      (runs_more finals outcome old table are.way first run rest log those none there whole found
      finds))),
)

pub returns : goal.returns
returns c finals old known are order empty =
    let table = c.args.table.now in
    let outcome = c.args.outcome in
    let log = c.loop-first.log.items in
    runs_end finals outcome old table are.way log
    (subst (λ (left : List Moved). TellsRuns finals outcome old table left log)
    (none_first c.loop-first.rest.now c.in_default.ensures.value)
    (c.loop-first.invariant.1 finals old known are order empty))
