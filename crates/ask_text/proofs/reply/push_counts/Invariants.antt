use Rattle.std.proofs.Common.{◌≡◌, ◌++◌, take, length}
use Rattle.std.specs.Prelude.{flat_map, zip}
use Rattle.ask_text.specs.Reply.{count_line}
use Rattle.ask_text.proofs.reply.push_counts.Given as goal

-- the lines of the queries so far
abbrev pub invariant-loop-number : goal.invariant-loop-number
invariant-loop-number l = l.text.items
    ≡ l.initial.text.items ++ flat_map (λ each. count_line each.0.name (length each.1))
    (zip (take l.number l.queries) (take l.number l.all))
