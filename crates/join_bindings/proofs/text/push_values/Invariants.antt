use Rattle.std.proofs.Common.{◌≡◌, ◌++◌, take}
use Rattle.join_bindings.specs.JoinText.{values_text}
use Rattle.join_bindings.proofs.text.push_values.Given as goal

-- the names so far
abbrev pub invariant-loop-name : goal.invariant-loop-name
invariant-loop-name l = l.text.items ≡ l.initial.text.items ++ values_text (take l.name-index l.names)
