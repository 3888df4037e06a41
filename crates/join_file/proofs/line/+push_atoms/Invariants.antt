use Rattle.std.proofs.Common.{length}
use Rattle.join_file.proofs.line.+push_atoms.Given as goal

-- the fields that are left
abbrev pub decreases-push_atoms : goal.decreases-push_atoms
decreases-push_atoms l = length l.fields.now
