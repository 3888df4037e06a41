use Rattle.std.proofs.Common.{ℕ, List, Option, Vec, Global, Err, length, map, ap, subst}
use Rattle.dfa_table.specs.Discovery as walk
use Rattle.dfa_table.specs.declared.discovery.DiscoveryFault.{DiscoveryFault}
use Rattle.dfa_build.specs.declared.fault.BuildFault.TheVariants.{TooManyStates}
use Rattle.dfa_build.specs.FaultTexts.{build_fault_of}
use Rattle.dfa_build.specs.StateSets.{set_graph}
use Rattle.rpq_base.proofs.Outcomes.{handed_on}
use Rattle.dfa_build.proofs.Found.{rows_are, many_found, only_full}
use Rattle.dfa_build.proofs.state_sets.find_states.Goals as goal

pub returns-in_err-discover-clause-full : goal.returns-in_err-discover-clause-full
returns-in_err-discover-clause-full c = λ is.
    let follow = c.args.sets.now.follow.items in
    let masks = c.args.sets.now.masks.items in
    let fault = c.in_err-discover.field-0.0 in
    let full = only_full fault (handed_on c.from_residual.result (build_fault_of fault) TooManyStates c.from_residual.ensures.1 is) in
    many_found follow masks c.args.sets.now.first.bits
    (subst (λ (first : ℕ). walk.HasTooMany (set_graph follow masks) 512 first) c.bits.ensures
    (c.in_err-discover.ensures.full (ap (λ (e : DiscoveryFault). Err e) full)))

pub returns-clause-states : goal.returns-clause-states
returns-clause-states c =
    let items : Vec (Option ℕ) Global → List (Option ℕ) = λ row. row.items in
    let follow = c.args.sets.now.follow.items in
    let masks = c.args.sets.now.masks.items in
    let nodes = c.in_ok-discover.field-0.nodes.items in
    let rows = map items c.in_ok-discover.field-0.rows.items in
    rows_are follow masks c.args.sets.now.first.bits nodes rows
    (subst (λ (first : ℕ). walk.AreRows (set_graph follow masks) 512 first nodes rows (length nodes)) c.bits.ensures c.in_ok-discover.ensures.rows)
