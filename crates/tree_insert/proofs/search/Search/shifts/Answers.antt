use Rattle.std.proofs.Common.{ap, ◌∙◌}
use Rattle.tree_insert.specs.Waiting.{SearchValue}
use Rattle.tree_insert.proofs.search.Search.shifts.Goals as goal

pub returns : goal.returns
returns c = c.deref.ensures.value ∙ ap (λ (search : SearchValue). search.shifts) c.self.view_is
