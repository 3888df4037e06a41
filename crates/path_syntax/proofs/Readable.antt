-- The written form of an expression with few signs is within the limits.
use Rattle.std.proofs.Common.{Bool, ◌≤◌, ◌^◌, length, arith}
use Rattle.path_syntax.specs.Expression.{Expression, Atom, Seq, Alt, Star, Plus, Opt}
use Rattle.path_syntax.specs.GrammarLaws.{HasShortNames}
use Rattle.path_syntax.specs.Written.{written_expression, IsNamed}
use Rattle.path_syntax.specs.WrittenLaws.{written_signs, IsReadable}
use Rattle.path_syntax.proofs.ShortNames.{short_names}
use Rattle.path_syntax.proofs.Spelled.{AreRead, spelled}
use Rattle.path_syntax.proofs.WrittenSigns.{short_name, signs_of_written, atoms_within_signs, written_length}

has_short_names : (e : Expression) → IsNamed e → HasShortNames e
has_short_names (Atom label) named = short_name label.name named
has_short_names (Seq left right) named = (has_short_names left named.0, has_short_names right named.1)
has_short_names (Alt left right) named = (has_short_names left named.0, has_short_names right named.1)
has_short_names (Star body) named = has_short_names body named
has_short_names (Plus body) named = has_short_names body named
has_short_names (Opt body) named = has_short_names body named

pub readable : (inverses : Bool) (e : Expression) → IsNamed e → AreRead inverses e → written_signs e ≤ 512 → IsReadable inverses e
readable inverses e named read few =
    let bound : length (written_expression e) ≤ 2 ^ 24 = omega (arith, written_length e named, atoms_within_signs e) in
    record {
      short = bound;
      limits = record {
        few = omega (arith, signs_of_written e);
        short = short_names inverses (written_expression e) e (spelled inverses e read named).alternative (has_short_names e named);
      };
    }
