use Rattle.std.proofs.Common.{ℕ, List, Option, drop, take, sym, ap, subst}
use Rattle.std.specs.Prelude.{is_some}
use Rattle.std.proofs.lemmas.List.{take-append-drop}
use Rattle.std.proofs.lemmas.List.Elements.{All-take, All-drop}
use Rattle.std.proofs.lemmas.List.Sorted.{IsNonDecreasingBy-drop}
use Rattle.delta_tree.specs.declared.node.Shift.{Shift}
use Rattle.delta_tree.specs.Changes.{IsShift}
use Rattle.source_tree.specs.Ends.{end_in}
use Rattle.source_tree.specs.Telling.{IsRun, Logs, outcome_of}
use Rattle.source_tree.specs.declared.change.EndChange.{EndChange}
use Rattle.source_tree.specs.declared.change.Outcome.{Outcome}
use Rattle.source_tree.proofs.Shifts.{TellsRuns, WaitsAny, first_is, has_first, is_listed, is_run, none_behind, none_first, runs_end, runs_more, runs_start}
use Rattle.source_tree.proofs.ends.log_by_runs.Goals as goal

pub loop-first-init : goal.loop-first-init
loop-first-init c old are held order empty =
    let root = c.args.tree.now.root in
    let finals = c.args.product.now.finals in
    let tree = c.args.tree.now in
    let shifts = c.args.shifts.now in
    subst (λ (log : List EndChange). TellsRuns root finals old tree shifts log)
    (sym empty) (runs_start root finals old tree shifts are order)

pub loop-first-preserved : goal.loop-first-preserved
loop-first-preserved c old are held order empty =
    let root = c.args.tree.now.root in
    let finals = c.args.product.now.finals in
    let tree = c.args.tree.now in
    let left = c.loop-first.rest.now in
    let first = c.in-Some.first.now in
    let vertex = first.id.vertex in
    let len = c.run_len.result in
    let log = c.loop-first.log.items in
    let next = c.log_end.new.log.items in
    let tells = c.loop-first.invariant old are held order empty in
    let seam = take-append-drop len left in
    let whole = subst (λ (shifts : List Shift). TellsRuns root finals old tree shifts log)
    (sym seam) tells in
    let none = none_behind left vertex len first tells.order
    (ap (λ (each : Shift). each.id.vertex) (first_is left first c.in-Some.ensures.value))
    c.run_len.ensures.end in
    let waits = subst (λ (shifts : List Shift). WaitsAny shifts vertex) (sym seam)
    (first.id.state, is_listed left first (has_first left first c.in-Some.ensures.value)) in
    let those = c.run_len.ensures.run in
    let run = is_run root finals old tree vertex (take len left) (drop len left) log those none
    waits whole (All-take (IsShift old tree) len left tells.values) in
    let outcome = c.outcome_at-outcome.ensures old
    (subst (IsRun old tree vertex) (sym c.split_at.ensures.front) run) held in
    let logs = subst (λ (each : ℕ). Logs each vertex
    (outcome_of (is_some (end_in finals old vertex)) (is_some (end_in finals tree vertex)))
    log next)
    c.root.ensures.root
    (subst (λ (each : Option Outcome). Logs c.root.result vertex each log next) outcome
    c.in_ok-log_end.ensures) in
    subst (λ (shifts : List Shift). TellsRuns root finals old tree shifts next)
    (sym c.split_at.ensures.back)
    (runs_more root finals old tree vertex (take len left) (drop len left) log those none
    waits whole next logs (All-drop (IsShift old tree) len left tells.values)
    (IsNonDecreasingBy-drop (λ (each : Shift). each.id.vertex) len left tells.order))

pub returns : goal.returns
returns c old are held order empty =
    let root = c.args.tree.now.root in
    let finals = c.args.product.now.finals in
    let tree = c.args.tree.now in
    let log = c.loop-first.log.items in
    runs_end root finals old tree log
    (subst (λ (left : List Shift). TellsRuns root finals old tree left log)
    (none_first c.loop-first.rest.now c.in_default.ensures.value)
    (c.loop-first.invariant old are held order empty))
