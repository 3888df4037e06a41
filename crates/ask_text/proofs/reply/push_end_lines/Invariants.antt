use Rattle.std.proofs.Common.{◌≡◌, ◌++◌, take}
use Rattle.std.specs.Prelude.{flat_map}
use Rattle.ask_text.specs.Reply.{end_line}
use Rattle.ask_text.proofs.reply.push_end_lines.Given as goal

-- the lines of the targets with their ends so far
abbrev pub invariant-loop-target : goal.invariant-loop-target
invariant-loop-target l = l.text.items ≡ l.initial.text.items ++ flat_map end_line
    (take l.target-index l.row)
