use Rattle.alike_histories.proofs.Outcomes.{alike_have_answers, alike_have_ends}
use Rattle.alike_histories.proofs.laws.alike_have_answers.Goals as goal

pub returns-clause-answers : goal.returns-clause-answers
returns-clause-answers c = alike_have_answers

pub returns-clause-ends : goal.returns-clause-ends
returns-clause-ends c = alike_have_ends c.one_entry_more.ensures
