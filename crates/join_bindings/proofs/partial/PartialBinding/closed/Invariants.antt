use Rattle.std.proofs.Common.{◌≡◌, take}
use Rattle.join_bindings.proofs.Closed.{names_of}
use Rattle.join_bindings.proofs.partial.PartialBinding.closed.Given as goal

-- the names so far
abbrev pub invariant-loop-name : goal.invariant-loop-name
invariant-loop-name l = l.list.items ≡ names_of (take l.name-index l.name-items)
