use Rattle.std.proofs.Common.{◌≡◌, ◌≤◌, ◌*◌, drop, length}
use Rattle.join_file.specs.JoinLine.{with_atoms, none_read}
use Rattle.join_file.proofs.atoms.read_all.Given as goal

-- the atoms so far with those that are left give what all give; each has brought two variables at most
abbrev pub invariant-loop-text : goal.invariant-loop-text
invariant-loop-text l = record {
  so_far : with_atoms l.queries (record { atoms = l.atoms.items; seen = l.seen.items }) (drop l.text-index l.texts)
      ≡ with_atoms l.queries none_read l.texts;
  few : length l.seen.items ≤ 2 * l.text-index;
}
