use Rattle.std.proofs.Common.{◌≡◌, ◌++◌, ℕ, List}
use Rattle.std.specs.Fmt.{HasWritten, IsPlainFormatter}
use Rattle.path_syntax.specs.Grammar.{quoted}
use Rattle.query_file.proofs.word_text.write_escaped.Given as goal

-- what was written so far, and then what the letters that are left give, is the whole
abbrev pub invariant-loop-letter : goal.invariant-loop-letter
invariant-loop-letter g l =
    IsPlainFormatter l.initial.f → (done : List ℕ) × HasWritten g.W.Write.write_str_gives l.initial.f done l.f
    × (done ++ quoted l.letter-iterator.rest.now ≡ quoted l.name)
