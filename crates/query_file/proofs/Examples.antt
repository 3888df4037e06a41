-- Some lines and files with what they give, by going through the bytes.
use Rattle.std.proofs.Common.{◌≡◌, ℕ, List, [], ◌∷◌, ◌++◌, codes, inl, inr, Ok, Err, refl, subst, arith}
use Rattle.std.proofs.lemmas.Bool.{false≢true}
use Rattle.text_parts.specs.Lines.{raw_lines, without_return}
use Rattle.text_parts.specs.Fields.{fields}
use Rattle.text_parts.specs.Numbers.{number_within}
use Rattle.rpq_base.specs.Names.{is_name}
use Rattle.rpq_base.proofs.Members.{cons_members, none_in}
use Rattle.path_syntax.specs.Reading.{kind_of, read_byte, reading}
use Rattle.path_syntax.specs.Grammar.{one_way}
use Rattle.path_syntax.specs.Faults.{IsOutcome, Faulty}
use Rattle.path_syntax.specs.declared.read.BadExpr.TheVariants.{Unexpected, Ended}
use Rattle.path_syntax.proofs.Answering.{has_fault}
use Rattle.path_syntax.proofs.Limits.{outcome}
use Rattle.path_syntax.specs.Expression.{Expression}
use Rattle.path_syntax.specs.Language.{In}
use Rattle.containment_test.specs.Containment.{IsLeastTriple}
use Rattle.rpq_model.specs.declared.mode.Mode.{Mode}
use Rattle.rpq_model.specs.declared.mode.Mode.TheVariants.{Arbitrary, Simple}
use Rattle.query_file.specs.declared.fault.QueryKind.TheVariants.{Number, Twice, NoQuery, Expr}
use Rattle.query_file.specs.Examples.{LineExamples}
use Rattle.query_file.specs.InOrder.{HasLengths, HasRoom}
use Rattle.query_file.specs.Queries.{NoneAtEnd, PassedOver, fault_at}
use Rattle.query_file.specs.QueryLine.{LineParts, HasParts, mode_text, length_of}
use Rattle.query_file.proofs.FirstFaults.{at_parts, contained_has_none, first_fault, one_expression}
use Rattle.query_file.proofs.SimpleExamples.{a_then_b, some_a, least_of_two, some_a_contained}

-- the line of the examples
line_parts : (slide : List ℕ) (mode : Mode) (expr : List ℕ) → fields (codes "query q window 10 slide " ++ (slide ++ codes " "))
    ≡ codes "query" ∷ codes "q" ∷ codes "window" ∷ codes "10" ∷ codes "slide" ∷ slide ∷ [] →
    HasParts ((codes "query q window 10 slide " ++ (slide ++ codes " ")) ++ (mode_text mode ++ expr)) (record { name = codes "q"; size = codes "10"; slide = slide; mode = mode; expr = expr })
unfolding is_name
line_parts slide mode expr are = record {
  before = codes "query q window 10 slide " ++ (slide ++ codes " ");
  split = refl;
  apart = record { front = codes "query q window 10 slide " ++ slide; blank = 32; split = refl; is_one = refl };
  fields_before = are;
  named = refl;
}

-- there is room for one query
pub first_room : (parts : LineParts) → HasLengths parts → HasRoom [] parts
first_room parts has = record {
  name = record { lengths = has; new = λ taken. none_in parts.name taken };
  room = omega arith;
}

pub examples : LineExamples
unfolding fields is_name length_of number_within raw_lines without_return kind_of read_byte reading
examples = record {
  parts = record {
    before = codes "  query q window 10 slide x ";
    split = refl;
    apart = record { front = codes "  query q window 10 slide x"; blank = 32; split = refl; is_one = refl };
    fields_before = refl;
    named = refl;
  };
  greatest = refl;
  beyond = refl;
  zeros = refl;
  number = λ before. first_fault one_way before (codes "query q window 10 slide 0 simple:") Number
      (_, line_parts (codes "0") Simple [] refl, λ lengths. absurd (false≢true lengths.slide));
  twice = λ query is. first_fault one_way (query ∷ []) (codes "query q window 10 slide 2 arbitrary: ||") (Twice (codes "q"))
      (_, line_parts (codes "2") Arbitrary (codes " ||") refl, (record { size = refl; slide = refl }, refl, (cons_members query.name [] (codes "q")).1 (inl is)));
  place = first_fault one_way [] (codes "query q window 10 slide 2 arbitrary: a||b") (Expr (Unexpected 4))
      (_, line_parts (codes "2") Arbitrary (codes " a||b") refl, (first_room _ (record { size = refl; slide = refl }), Faulty (Unexpected 4) (has_fault one_way (codes " a||b") (Unexpected 4) refl)));
  empty = first_fault one_way [] (codes "query q window 10 slide 2 arbitrary:") (Expr Ended)
      (_, line_parts (codes "2") Arbitrary [] refl, (first_room _ (record { size = refl; slide = refl }), Faulty Ended (has_fault one_way [] Ended refl)));
  refused = (_, line_parts (codes "5") Simple (codes " a/b") refl, (a_then_b, refl, outcome one_way (codes " a/b"), least_of_two));
  accepted = λ p q w fault.
      let (e, simple, read, least) =
      at_parts (codes "query q window 10 slide 5 simple: a+") (λ parts. (e : Expression) × (parts.mode ≡ Simple) × IsOutcome parts.expr (Ok e)
      × IsLeastTriple (In e) p q w) _ (line_parts (codes "5") Simple (codes " a+") refl) fault in
      contained_has_none (In some_a) p q w some_a_contained
      (subst (λ (f : Expression). IsLeastTriple (In f) p q w) (one_expression one_way (codes " a+") e some_a read (outcome one_way (codes " a+"))) least);
  lacking = PassedOver [] 0 [] (codes " # no query" ∷ []) (Err (fault_at 2 NoQuery)) (inl refl)
      (PassedOver [] 1 (codes " # no query") [] (Err (fault_at 2 NoQuery)) (inr refl) (NoneAtEnd 2));
  last = λ before line e f. omega (arith, e, f);
  over = λ before line e. omega (arith, e);
}
