use Rattle.std.proofs.Common.{rules, ◌≡◌, ◌≤◌, List, length, All, sym, subst}
use Rattle.rpq_base.specs.Plain.{IsPlainTuple}
use Rattle.rpq_base.specs.TupleValue.{TupleValue}
use Rattle.saved_window.specs.Saved.{saved}
use Rattle.saved_window.proofs.Few.{saved_few}
use Rattle.saved_window.proofs.Plain.{saved_plain}
use Rattle.saved_window.proofs.saving.saved.Goals as goal

pub returns-clause-few : goal.returns-clause-few
returns-clause-few c =
    let is : c.add_clock.new.tuples.items ≡ saved c.args.queries.now c.args.entries.now = search rules in
    subst (λ (tuples : List TupleValue). length tuples ≤ length c.args.entries.now) (sym is)
    (saved_few c.args.entries.now c.args.queries.now)

pub returns-clause-plain : goal.returns-clause-plain
returns-clause-plain c plain =
    let is : c.add_clock.new.tuples.items ≡ saved c.args.queries.now c.args.entries.now = search rules in
    subst (λ (tuples : List TupleValue). All IsPlainTuple tuples) (sym is)
    (saved_plain c.args.entries.now c.args.queries.now plain)
