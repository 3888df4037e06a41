use Rattle.std.proofs.Common.{◌≡◌, ◌++◌, map, take}
use Rattle.std.specs.Prelude.{flat_map}
use Rattle.ask_text.specs.Replies.{session_line}
use Rattle.ask_text.proofs.session.session_text.Given as goal

-- the line of the session, and the replies so far
abbrev pub invariant-loop-answered : goal.invariant-loop-answered
invariant-loop-answered l = l.text.items
    ≡ session_line l.number ++ flat_map (λ text. text)
    (map (λ each. each.text) (take l.answered-index l.answers))
