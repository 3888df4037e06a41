use Rattle.index_laws.proofs.Paths.{paths_by_numbers, paths_show_answers}
use Rattle.index_laws.proofs.laws.paths_by_numbers.Goals as goal

pub returns-clause-edges : goal.returns-clause-edges
returns-clause-edges c = paths_by_numbers

pub returns-clause-answers : goal.returns-clause-answers
returns-clause-answers c = paths_show_answers
