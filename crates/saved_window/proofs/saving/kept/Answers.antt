use Rattle.std.proofs.Common.{◌≡◌, List, Vec, Global, map, sym, ap, ◌∙◌}
use Rattle.std.proofs.lemmas.Result.{IfOk-weaker}
use Rattle.rpq_base.specs.TupleValue.{TupleValue}
use Rattle.rpq_model.specs.declared.live.Live.{Live}
use Rattle.rpq_model.specs.Live.{placed_entry}
use Rattle.saved_window.specs.Reach.{tuples_of}
use Rattle.saved_window.specs.Saved.{kept_tuples}
use Rattle.saved_window.proofs.Reaching.{kept_by_one, kept_by_none}
use Rattle.saved_window.proofs.saving.kept.Goals as goal

pub returns-in_ok-live-in-Some : goal.returns-in_ok-live-in-Some
returns-in_ok-live-in-Some c =
    let entries = c.args.entries.now in
    let queries = c.args.queries.now in
    let now = c.args.now in
    IfOk-weaker c.tuples_of.result
    (λ (tuples : Vec TupleValue Global). tuples.items ≡ tuples_of (map placed_entry c.deref.result.now))
    (λ (tuples : Vec TupleValue Global). tuples.items ≡ kept_tuples queries now entries)
    (λ tuples is.
    is
    ∙ (ap (λ (live : List Live). tuples_of (map placed_entry live)) c.deref.ensures.value
    ∙ (ap tuples_of c.in_ok-live-in-Some.ensures ∙ sym (kept_by_one entries queries now 0 c.in-Some.window c.in-Some.ensures))))
    c.tuples_of.ensures

pub returns-in-None : goal.returns-in-None
returns-in-None c = c.new.ensures.items ∙ sym (kept_by_none c.args.entries.now c.args.queries.now c.args.now c.in-None.ensures)
