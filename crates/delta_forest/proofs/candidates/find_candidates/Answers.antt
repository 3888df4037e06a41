use Rattle.std.proofs.Common.{sym, subst}
use Rattle.std.specs.Prelude.{OnOk}
use Rattle.std.proofs.lemmas.Result.{on_ok_weaker}
use Rattle.dfa_table.specs.DfaValue.{step_of}
use Rattle.source_tree.specs.declared.change.Change.{Change}
use Rattle.delta_forest.specs.Candidates.{AreCandidates}
use Rattle.delta_forest.specs.declared.index.Index.{Index}
use Rattle.delta_forest.proofs.Gathering.{expire_candidates, raise_candidates}
use Rattle.delta_forest.proofs.Removals.{remove_candidates}
use Rattle.delta_forest.proofs.candidates.find_candidates.Goals as goal

pub returns-in-Raise : goal.returns-in-Raise
returns-in-Raise c = λ store calls kept.
    let index = c.args.index.now in
    let roots = c.add_raised.new.roots.items in
    let new : Index = record {
      sources = c.add_raised.new.sources;
      holders = index.holders;
      dues = index.dues;
    } in
    subst (λ (change : Change). OnOk c.add_raised.result
    (AreCandidates change (step_of c.args.dfa.now) index new roots))
    (sym c.in-Raise.is)
    (on_ok_weaker c.add_raised.result
    (raise_candidates c.args.dfa.now store calls index kept c.in-Raise.edge
    c.in-Raise.value c.add_raised.new.sources roots)
    c.add_raised.ensures)

pub returns-in-Remove : goal.returns-in-Remove
returns-in-Remove c = λ store calls kept.
    let index = c.args.index.now in
    let roots = c.add_removed.new.roots.items in
    subst (λ (change : Change). OnOk c.add_removed.result
    (AreCandidates change (step_of c.args.dfa.now) index index roots))
    (sym c.in-Remove.is)
    (on_ok_weaker c.add_removed.result
    (remove_candidates c.args.dfa.now store calls index kept c.in-Remove.edge roots)
    c.add_removed.ensures)

pub returns-in-Expire : goal.returns-in-Expire
returns-in-Expire c = λ store calls kept.
    let index = c.args.index.now in
    let roots = c.add_expired.new.roots.items in
    let new : Index = record {
      sources = index.sources;
      holders = index.holders;
      dues = c.add_expired.new.dues;
    } in
    subst (λ (change : Change). OnOk c.add_expired.result
    (AreCandidates change (step_of c.args.dfa.now) index new roots))
    (sym c.in-Expire.is)
    (on_ok_weaker c.add_expired.result
    (expire_candidates c.args.dfa.now store calls index kept c.in-Expire.now
    c.add_expired.new.dues roots)
    c.add_expired.ensures)
