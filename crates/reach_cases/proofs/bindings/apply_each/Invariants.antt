use Rattle.std.proofs.Common.{◌≡◌, [], ◌∷◌, take}
use Rattle.rpq_model.specs.Answers.{AreAnswers}
use Rattle.rpq_model.specs.Query.{path_query}
use Rattle.join_bindings.specs.Leading.{HoldAnswers}
use Rattle.reach_cases.proofs.bindings.apply_each.Given as goal

-- the answers over the entries so far, which the joins hold, and no other joins
abbrev pub invariant-loop-count : goal.invariant-loop-count
invariant-loop-count l =
    AreAnswers (path_query l.query) (take l.count l.entries) l.old.items
    × HoldAnswers (l.query ∷ []) (take l.count l.entries) l.joins.pairs
    × (l.joins.joins ≡ l.defs)
