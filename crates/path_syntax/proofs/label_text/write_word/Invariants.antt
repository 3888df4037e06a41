use Rattle.std.proofs.Common.{◌≡◌, ◌++◌, take}
use Rattle.std.specs.List.{flat_map}
use Rattle.path_syntax.proofs.Words.{behind_slash}
use Rattle.path_syntax.proofs.label_text.write_word.Given as goal

abbrev pub invariant-loop-label : goal.invariant-loop-label
invariant-loop-label l = l.text.items ≡ l.initial.text.items ++ flat_map behind_slash (take l.label-index l.rest)
