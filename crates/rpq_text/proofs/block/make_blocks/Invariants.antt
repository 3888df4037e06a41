use Rattle.std.proofs.Common.{◌≡◌, take}
use Rattle.rpq_text.specs.Definitions.{definitions_of}
use Rattle.rpq_text.specs.Text.{blocks_from}
use Rattle.rpq_text.proofs.block.make_blocks.Given as goal

-- the blocks of the first entries
abbrev pub invariant-loop-i : goal.invariant-loop-i
invariant-loop-i l = l.text.items
    ≡ blocks_from (definitions_of l.queries) l.n (take l.i l.entries) (take l.i l.steps)
