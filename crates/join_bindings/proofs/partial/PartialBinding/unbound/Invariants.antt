use Rattle.std.proofs.Common.{◌≡◌, None, length}
use Rattle.std.specs.Prelude.{All}
use Rattle.join_bindings.proofs.partial.PartialBinding.unbound.Given as goal

-- as many variables so far, all open
abbrev pub invariant-loop-number : goal.invariant-loop-number
invariant-loop-number l = record {
  many : length l.names.items ≡ l.number;
  all : All (λ name. name ≡ None) l.names.items;
}
