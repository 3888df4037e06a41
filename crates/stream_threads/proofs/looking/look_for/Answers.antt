use Rattle.std.proofs.Common.{◌≡◌, ℕ, true, ap, subst, sym, ◌∙◌, inl, inr, ⊎_elim, List, rules}
use Rattle.history_model.specs.declared.line.Line.{Line}
use Rattle.history_model.specs.Lines.{published}
use Rattle.ask_text.specs.Ranges.{ended_at}
use Rattle.stream_history.specs.History.{IsOver}
use Rattle.stream_threads.proofs.looking.look_for.Goals as goal

pub returns-then-is_enough_for-clause-over : goal.returns-then-is_enough_for-clause-over
returns-then-is_enough_for-clause-over g c = λ ended.
    let found = c.in_ok-looked.ensures in
    ⊎_elim (λ shut. inr (shut.0, (found.shut shut.0).0 shut.1))
    (λ both. inl (found.all_ended.0 (search rules), both.1 ∙ found.length))
    (c.is_enough_for.ensures.enough (search rules) ended)

-- the position that the ask waits for wasn't published when the look was made
pub sleep_until_views-requires-clause-waits : goal.sleep_until_views-requires-clause-waits
sleep_until_views-requires-clause-waits g c =
    let found = c.in_ok-looked.ensures in
    let same : c.in_ok-looked.looked.view.value.position
    ≡ published c.in_ok-looked.looked.heard =
    found.position ∙ sym (ap published found.heard) in
    (c.wanted_position.ensures (published c.in_ok-looked.looked.heard)).0
    (subst (λ (n : ℕ). ended_at c.args.ask.now n ≡ true) same
    (c.is_enough_for.ensures.waits (search rules)))

-- and further ones may come
pub sleep_until_views-requires-clause-goes_on : goal.sleep_until_views-requires-clause-goes_on
sleep_until_views-requires-clause-goes_on g c = λ over.
    let found = c.in_ok-looked.ensures in
    let streams = c.args.shared.now.history.now.terms.streams in
    let here = subst (λ (lines : List Line). IsOver streams lines (published lines)) found.heard
    over in
    c.is_enough_for.ensures.goes_on (search rules)
    (⊎_elim (λ both. inr (found.all_ended.1 both.0, found.position ∙ (both.1 ∙ sym found.length)))
    (λ shut. inl (shut.0, (found.shut shut.0).1 shut.1)) here)
