use Rattle.std.proofs.Common.{◌≡◌, ◌++◌, length}
use Rattle.path_engine.specs.Parts.{shares_in}
use Rattle.path_engine.proofs.parts.all_shares.Given as goal

-- with those of the other parts, the shares so far are all
abbrev pub invariant-loop-part : goal.invariant-loop-part
invariant-loop-part l =
    goal.iterator-loop-part.can_next l.part-iterator
    × goal.iterator-loop-part.is_finite l.part-iterator
    × (l.part-iterator.rest.len ≡ length l.part-iterator.rest.items)
    × (l.shares.items ++ shares_in l.part-iterator.rest.items ≡ shares_in l.fn.parts.items)
