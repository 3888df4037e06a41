use Rattle.std.proofs.Common.{◌≤◌, length, ap, arith}
use Rattle.join_file.specs.JoinLine.{LineText}
use Rattle.join_file.proofs.Mapping.{ok_map}
use Rattle.join_file.proofs.line.read_text.Goals as goal

pub returns-in_ok-atom_texts-in-len2-up-clause-few : goal.returns-in_ok-atom_texts-in-len2-up-clause-few
returns-in_ok-atom_texts-in-len2-up-clause-few c =
    let few = c.in_ok-atom_texts-in-len2-up.ensures.few in
    let count = c.is_count.ensures.few c.if-not-is_count.false in
    ok_map c.checked_text.result _ (λ (text : LineText). length text.atoms ≤ 4)
    (λ text is. let many = ap length is in omega (arith, few, count, many))
    c.checked_text.ensures.atoms
