-- What the number of nodes bounds: an expression has no more labels than nodes.
use Rattle.std.proofs.Common.{◌≤◌, arith}
use Rattle.path_syntax.specs.Expression.{Expression, Atom, Seq, Alt, Star, Plus, Opt}
use Rattle.path_syntax.specs.Size.{atoms, nodes}

pub atoms_within_nodes : (e : Expression) → atoms e ≤ nodes e
atoms_within_nodes (Atom label) = omega arith
atoms_within_nodes (Seq left right) = omega (arith, atoms_within_nodes left, atoms_within_nodes right)
atoms_within_nodes (Alt left right) = omega (arith, atoms_within_nodes left, atoms_within_nodes right)
atoms_within_nodes (Star body) = omega (arith, atoms_within_nodes body)
atoms_within_nodes (Plus body) = omega (arith, atoms_within_nodes body)
atoms_within_nodes (Opt body) = omega (arith, atoms_within_nodes body)
