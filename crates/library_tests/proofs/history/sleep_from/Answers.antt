use Rattle.std.proofs.Common.{sym, ◌∙◌, inl, inr, ⊎_elim, rules}
use Rattle.std.proofs.lemmas.Bool.{false≢true}
use Rattle.library_tests.proofs.history.sleep_from.Goals as goal

-- further positions may come, since the look didn't find that none is to come
pub sleep_until_views-requires-clause-goes_on : goal.sleep_until_views-requires-clause-goes_on
sleep_until_views-requires-clause-goes_on g c = λ over.
    let was = c.requires in
    absurd (false≢true (sym (search rules) ∙ c.is_over.ensures.1
    (⊎_elim
    (λ both. inr (was.all_ended.1 both.0, was.position ∙ (both.1 ∙ sym was.length)))
    (λ shut. inl (shut.0, (was.shut shut.0).1 shut.1)) over)))
