use Rattle.std.proofs.Common.{◌≡◌, ◌++◌, take}
use Rattle.std.specs.Prelude.{flat_map}
use Rattle.ask_text.specs.Reply.{target_line}
use Rattle.ask_text.proofs.reply.push_targets.Given as goal

-- the lines of the targets so far
abbrev pub invariant-loop-target : goal.invariant-loop-target
invariant-loop-target l = l.text.items ≡ l.initial.text.items ++ flat_map target_line
    (take l.target-index l.row)
