use Rattle.std.proofs.Common.{◌≡◌, Bor, Option, sym, ap, subst, ◌∙◌, arith}
use Rattle.std.specs.Option.{option_map}
use Rattle.rpq_model.specs.Query.{Query}
use Rattle.rpq_model.specs.Window.{WindowValue}
use Rattle.path_witness.specs.declared.mark.Mark.{Mark}
use Rattle.path_witness.specs.declared.edge_marks.EdgeMarks.{EdgeMarks}
use Rattle.path_witness.specs.Taking.{IsRaised}
use Rattle.path_witness.specs.Marks.{mark_at}
use Rattle.path_witness.proofs.Raising.{one_more_first, all_raised}
use Rattle.path_witness.proofs.edge_marks.EdgeMarks.raised.Goals as goal
use Rattle.path_witness.proofs.edge_marks.EdgeMarks.raised.Goals.{in-Some, in-None}

pub loop-number-preserved : goal.loop-number-preserved
loop-number-preserved c =
    let number = c.loop-number.number in
    let given = λ (each : Option (Bor EdgeMarks)). mark_at number (option_map {T = Bor EdgeMarks} {U = EdgeMarks} (λ marks. marks.now) each) in
    let old_is : c.match-before.old ≡ given c.args.before = elim c.match-before.branch [
      | in-Some w ↦ w.old-is ∙ (w.get-old.ensures ∙ sym (ap given w.in-Some.is))
      | in-None w ↦ w.old-is ∙ sym (ap given w.in-None.is)
    ] in
    one_more_first c.args.queries.now c.args.position c.args.tuple.now _ number c.loop-number.marks.items c.push.new.self.items
    c.index-queries-number.result c.raised.result c.loop-number.invariant c.loop-number-test.true c.index-queries-number.is
    (subst (λ (window : WindowValue). IsRaised window c.args.position c.args.tuple.now (given c.args.before) c.raised.result)
    (ap (λ (query : Query). query.window) c.query.view_is)
    (subst (λ (old : Option Mark). IsRaised c.query.inside.window c.args.position c.args.tuple.now old c.raised.result) old_is c.raised.ensures))
    c.in_ok-push.ensures.items

pub returns : goal.returns
returns c =
    all_raised c.args.queries.now c.args.position c.args.tuple.now _ c.loop-number.number c.loop-number.marks.items c.loop-number.invariant
    (omega (arith, c.loop-number-test.false, c.loop-number.auto.number-end))
