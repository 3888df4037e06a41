use Rattle.std.proofs.Common.{ℕ, List, [], subst, inl, inr, ⊎_elim}
use Rattle.dfa_table.specs.DfaValue.{step_of}
use Rattle.delta_forest.specs.Candidates.{Adds, AddsHanging, IsRemovedAt, IsRemovedFrom}
use Rattle.delta_forest.proofs.Gathering.{ordered_like}
use Rattle.delta_forest.proofs.candidates.add_removed.Goals as goal

pub returns : goal.returns
returns c =
    let sources = c.args.sources.now in
    let holders = c.args.holders.now in
    let step = step_of c.args.dfa.now in
    let edge = c.args.edge in
    let found = c.add_hanging.new.roots.items in
    let roots = c.put_in_order.new.roots.items in
    ⊎_elim
    (λ (adds : Adds [] found (IsRemovedAt sources holders edge)).
    inl (ordered_like roots found (IsRemovedAt sources holders edge) c.put_in_order.ensures adds))
    (λ (adds : Adds [] found (IsRemovedFrom sources holders step edge)).
    inr (ordered_like roots found (IsRemovedFrom sources holders step edge)
    c.put_in_order.ensures adds))
    (subst (λ (before : List ℕ). AddsHanging sources holders step edge before found) c.requires
    c.in_ok-add_hanging.ensures)
