use Rattle.std.proofs.Common.{◌≡◌, [], ◌∷◌, arith}
use Rattle.std.specs.Prelude.{decimal}
use Rattle.std.proofs.lemmas.Fmt.{decimal_digit}
use Rattle.generated_run.specs.Summary.{total_lines, query_line}
use Rattle.generated_run.proofs.laws.summary_example.Goals as goal

pub returns : goal.returns
unfolding total_lines query_line
returns c first second first_name second_name =
    let none : decimal 0 ≡ 48 ∷ [] = decimal_digit 0 (omega arith) in
    let two : decimal 2 ≡ 50 ∷ [] = decimal_digit 2 (omega arith) in
    let three : decimal 3 ≡ 51 ∷ [] = decimal_digit 3 (omega arith) in
    rw (three, two, none, first_name, second_name)
