use Rattle.std.proofs.Common.{◌≡◌, List, [], ◌∷◌, ◌++◌, ℕ, refl, ap, arith}
use Rattle.std.specs.Prelude.{codes, decimal}
use Rattle.std.proofs.lemmas.Fmt.{decimal_digit}
use Rattle.rpq_text.specs.declared.ends.SinkName.TheVariants.{Events, Replies, Save}
use Rattle.rpq_model.specs.declared.mode.Mode.TheVariants.{Arbitrary}
use Rattle.rpq_text.specs.ErrorLines.{asks_text, joins_text, memory_line, run_lines}
use Rattle.rpq_text.specs.Examples.{edge_inserted, much_brought, query_named}
use Rattle.rpq_text.specs.Text.{block}
use Rattle.rpq_text.proofs.laws.line_examples.Goals as goal

-- what is said of a line of the asks file, by the digits of its number
asks_line : (line : ℕ) (text digits : List ℕ) → decimal line ≡ digits
    → asks_text line text ≡ codes "rpq: asks line " ++ (digits ++ (codes ": " ++ (text ++ codes "\n")))
unfolding asks_text
asks_line line text digits is =
    ap (λ (d : List ℕ). codes "rpq: asks line " ++ (d ++ (codes ": " ++ (text ++ codes "\n")))) is

-- what is said of a line of the joins file
joins_line : (line : ℕ) (text digits : List ℕ) → decimal line ≡ digits
    → joins_text line text
    ≡ codes "rpq: joins line " ++ (digits ++ (codes ": " ++ (text ++ codes "\n")))
unfolding joins_text
joins_line line text digits is =
    ap (λ (d : List ℕ). codes "rpq: joins line " ++ (d ++ (codes ": " ++ (text ++ codes "\n")))) is

a_block : block (query_named (codes "p") Arbitrary ∷ []) 3 edge_inserted much_brought
    ≡ codes "@3 1 7 x a y +\n- p x y\n+ p y z\n= 9 2 3\n+ p z z\n= 8 3\n++ j y z\n"
unfolding block
a_block = rw (
  decimal_digit 1 (omega arith),
  decimal_digit 2 (omega arith),
  decimal_digit 3 (omega arith),
  decimal_digit 7 (omega arith),
  decimal_digit 8 (omega arith),
  decimal_digit 9 (omega arith),
) refl

all_writes : run_lines [] [] (Events ∷ Replies ∷ Save ∷ []) 6
    ≡ codes "rpq: write failed: events\nrpq: write failed: replies\nrpq: write failed: save\n"
unfolding run_lines memory_line
all_writes = refl

pub returns : goal.returns
returns c =
    let one : decimal 1 ≡ 49 ∷ [] = decimal_digit 1 (omega arith) in
    let two : decimal 2 ≡ 50 ∷ [] = decimal_digit 2 (omega arith) in
    let three : decimal 3 ≡ 51 ∷ [] = decimal_digit 3 (omega arith) in
    record {
      yes = ap (λ (d : List ℕ). codes "r simple states " ++ d ++ codes " " ++ codes "yes" ++ codes "\n") two;
      no = ap (λ (d : List ℕ). codes "p arbitrary states " ++ d ++ codes " "
          ++ codes "no () a b/\"c|d\"" ++ codes "\n") three;
      block_is = a_block;
      words = refl;
      twice = joins_line 2 (codes "name twice") (50 ∷ []) two;
      joins = refl;
      long = refl;
      shape = asks_line 1 (codes "shape") (49 ∷ []) one;
      unknown = asks_line 2 (codes "unknown query") (50 ∷ []) two;
      replies = refl;
      stream = ap (λ (d : List ℕ). codes "rpq: read failed: stream " ++ d ++ codes "\n") two;
      from = refl;
      save = refl;
      writes = all_writes;
    }
