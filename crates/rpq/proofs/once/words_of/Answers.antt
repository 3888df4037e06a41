use Rattle.std.proofs.Common.{sym, subst}
use Rattle.rpq.specs.Program.{AreWords}
use Rattle.rpq.proofs.Handed.{some_from_ok}
use Rattle.rpq.proofs.once.words_of.Goals as goal

pub returns-in-Ok-clause-words : goal.returns-in-Ok-clause-words
returns-in-Ok-clause-words c =
    some_from_ok c.collect.result c.ok.result c.ok.ensures.value
    (λ words whole.
    let run = whole tt in
    subst (λ given. AreWords given words.items) (sym c.in-Ok.is)
    (run.0, run.1, run.2, run.3.0))
    c.collect.ensures.runs
