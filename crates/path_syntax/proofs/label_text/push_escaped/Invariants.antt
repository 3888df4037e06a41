use Rattle.std.proofs.Common.{◌≡◌, ◌++◌, take}
use Rattle.path_syntax.specs.Grammar.{quoted}
use Rattle.path_syntax.proofs.label_text.push_escaped.Given as goal

abbrev pub invariant-loop-byte : goal.invariant-loop-byte
invariant-loop-byte l = l.text.items ≡ l.initial.text.items ++ quoted (take l.byte-index l.name)
