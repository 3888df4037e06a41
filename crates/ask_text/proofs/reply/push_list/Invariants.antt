use Rattle.std.proofs.Common.{◌≡◌, ◌++◌, take}
use Rattle.std.specs.Prelude.{flat_map}
use Rattle.answer_rows.specs.Answers.{pairs}
use Rattle.answer_rows.specs.Listing.{listed}
use Rattle.ask_text.specs.Reply.{pair_line}
use Rattle.ask_text.proofs.reply.push_list.Given as goal

-- the lines of the pairs so far
abbrev pub invariant-loop-from : goal.invariant-loop-from
invariant-loop-from l = l.text.items ≡ l.initial.text.items ++ flat_map pair_line
    (pairs (listed (take l.from-index l.list)))
