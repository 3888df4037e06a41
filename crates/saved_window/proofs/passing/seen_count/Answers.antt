use Rattle.std.proofs.Common.{◌≡◌, ℕ, List, length, map, sym, ap, ◌∙◌, arith}
use Rattle.std.proofs.lemmas.List.{length-map}
use Rattle.rpq_base.specs.TupleValue.{TupleValue}
use Rattle.rpq_model.specs.Live.{placed_entry}
use Rattle.rpq_model.specs.Window.{Placed}
use Rattle.saved_window.specs.Reach.{tuples_of}
use Rattle.saved_window.specs.Saved.{kept_tuples}
use Rattle.saved_window.proofs.Reaching.{kept_by_one, kept_by_none}
use Rattle.saved_window.proofs.passing.seen_count.Goals as goal

pub returns-in_ok-live_entries-in-Some : goal.returns-in_ok-live_entries-in-Some
returns-in_ok-live_entries-in-Some c =
    let entries = c.args.entries.now in
    let queries = c.args.queries.now in
    let now = c.clock-now.result in
    let found = c.in_ok-live_entries-in-Some.field-0 in
    let len_is : c.len.result ≡ length found.items = omega (arith, c.len.ensures, found.ok.0) in
    len_is
    ∙ (sym (length-map found.items placed_entry)
    ∙ (sym (length-map {B = TupleValue} (map placed_entry found.items) (λ (each : Placed). each.entry.tuple))
    ∙ (ap (λ (live : List Placed). length (tuples_of live)) c.in_ok-live_entries-in-Some.ensures
    ∙ (ap length (sym (kept_by_one entries queries now 0 c.in-Some.window c.in-Some.ensures))
    ∙ ap (λ (at : ℕ). length (kept_tuples queries at entries)) c.clock-now.ensures.clock))))

pub returns-in-None : goal.returns-in-None
returns-in-None c =
    let entries = c.args.entries.now in
    let queries = c.args.queries.now in
    ap length (sym (kept_by_none entries queries c.clock-now.result c.in-None.ensures))
    ∙ ap (λ (at : ℕ). length (kept_tuples queries at entries)) c.clock-now.ensures.clock
