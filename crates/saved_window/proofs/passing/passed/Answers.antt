use Rattle.std.proofs.Common.{ℕ, drop, sym, ap, ◌∙◌}
use Rattle.saved_window.specs.Reach.{one_reaches}
use Rattle.saved_window.specs.Saved.{saved}
use Rattle.saved_window.proofs.Behind.{passed_saves}
use Rattle.saved_window.proofs.passing.passed.Goals as goal

pub returns-in-Some-clause-saves : goal.returns-in-Some-clause-saves
returns-in-Some-clause-saves c =
    let entries = c.args.entries.now in
    let queries = c.args.queries.now in
    ap (λ (n : ℕ). saved queries (drop n entries)) c.unwrap_or.ensures
    ∙ passed_saves entries queries c.first_time.result c.first_from.result
    (λ time.
    ap (λ (now : ℕ). one_reaches queries now time) (sym c.clock-now.ensures.clock)
    ∙ (c.in-Some.ensures time ∙ c.first_time.ensures time))
    c.first_from.ensures
