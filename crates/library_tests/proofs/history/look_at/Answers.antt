use Rattle.std.proofs.Common.{◌≡◌, List, Some, length, sym, ap, subst, ◌∙◌}
use Rattle.std.specs.Prelude.{◌↔◌, IsTrue}
use Rattle.history_model.specs.declared.line.Line.{Line}
use Rattle.history_model.specs.declared.line.Why.{Why}
use Rattle.history_model.specs.Lines.{entries, published, AllEnded, IsShutFor}
use Rattle.library_tests.proofs.history.look_at.Goals as goal

pub returns-clause-position : goal.returns-clause-position
returns-clause-position g c =
    let found = c.in_ok-looked.ensures in
    found.position ∙ sym (ap published found.heard)

pub returns-clause-length : goal.returns-clause-length
returns-clause-length g c =
    let found = c.in_ok-looked.ensures in
    found.length ∙ sym (ap (λ (lines : List Line). length (entries lines)) found.heard)

pub returns-clause-all_ended : goal.returns-clause-all_ended
returns-clause-all_ended g c =
    let found = c.in_ok-looked.ensures in
    subst (λ (lines : List Line). IsTrue c.in_ok-looked.looked.all_ended
    ↔ AllEnded c.args.history.now.terms.streams lines) (sym found.heard) found.all_ended

pub returns-clause-shut : goal.returns-clause-shut
returns-clause-shut g c =
    let found = c.in_ok-looked.ensures in
    subst (λ (lines : List Line). (why : Why) → (c.in_ok-looked.looked.shut ≡ Some why)
    ↔ IsShutFor lines why) (sym found.heard) found.shut
