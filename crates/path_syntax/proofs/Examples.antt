-- Some texts and their expressions, and some faults, by going through the bytes.
use Rattle.std.proofs.Common.{codes, ◌++◌, replicate, refl}
use Rattle.path_syntax.specs.GrammarLaws.{GrammarExamples, FaultExamples, TwoWayExamples}
use Rattle.path_syntax.specs.Grammar.{one_way, two_way}
use Rattle.path_syntax.specs.Reading.{kind_of, read_byte, reading}
use Rattle.path_syntax.specs.declared.read.BadExpr.TheVariants.{Unexpected, Ended, TooLarge, LongName}
use Rattle.path_syntax.proofs.Answering.{has_fault}
use Rattle.path_syntax.proofs.Soundness.{sound}
use Rattle.path_syntax.proofs.Completeness.{complete}

pub examples : GrammarExamples
unfolding kind_of
examples = record {
  grouped = sound one_way (codes "a/b/c|d|e") _ _ refl refl;
  spaced = sound one_way (codes " ( a | b ) */c") _ _ refl refl;
  quoted = sound one_way (codes "\"x/y\" ?") _ _ refl refl;
  escaped = sound one_way (codes "\"\\\"\"+") _ _ refl refl;
  twice = λ e text. let r = complete one_way (codes "a**") e text in let ran = r.ran in cc;
}

pub faults : FaultExamples
unfolding kind_of read_byte reading
faults = record {
  two_stars = has_fault one_way (codes "a**") (Unexpected 3) refl;
  empty_quotes = has_fault one_way (codes "\"\"") (Unexpected 2) refl;
  wrong_escape = has_fault one_way (codes "\"a\\b\"") (Unexpected 4) refl;
  no_operand = has_fault one_way (codes "a/") Ended refl;
  long_name = has_fault one_way (codes "a/" ++ replicate 256 97) (LongName 3) refl;
  many_signs = has_fault one_way (replicate 513 40) TooLarge refl;
}

pub two_way_examples : TwoWayExamples
unfolding kind_of read_byte reading
two_way_examples = record {
  one = sound two_way (codes "^a") _ _ refl refl;
  spaced = sound two_way (codes " ^ a ") _ _ refl refl;
  quoted = sound two_way (codes "^\"x/y\"") _ _ refl refl;
  starred = sound two_way (codes "a/^b*") _ _ refl refl;
  group = has_fault two_way (codes "^(a)") (Unexpected 2) refl;
  twice = has_fault two_way (codes "^^a") (Unexpected 2) refl;
  alone = has_fault two_way (codes "^") Ended refl;
  last = has_fault two_way (codes "a/^") Ended refl;
  long_name = has_fault two_way (codes "^ " ++ replicate 256 97) (LongName 3) refl;
  without = has_fault one_way (codes "^a") (Unexpected 1) refl;
}
