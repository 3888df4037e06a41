use Rattle.std.proofs.Common.{ℕ, List, [], ◌++◌, sym, ap, ◌∙◌, append_assoc, rules}
use Rattle.std.specs.Prelude.{encode_utf8}
use Rattle.std.specs.declared.str.Chars.{Chars}
use Rattle.std.proofs.Output.{has_written_append}
use Rattle.path_syntax.specs.Grammar.{quoted}
use Rattle.query_file.proofs.Letters.{next_letter}
use Rattle.query_file.proofs.word_text.write_escaped.Goals as goal

pub loop-letter-init : goal.loop-letter-init
loop-letter-init g c = λ plain. ([], search rules, ap quoted (ap (λ (letters : Chars). letters.rest.now) c.into_iter-letter-iterator.ensures.into_iter_gives ∙ c.chars-letter-items.ensures.rest))

pub loop-letter-preserved : goal.loop-letter-preserved
loop-letter-preserved g c = λ plain.
    let so_far = c.loop-letter.invariant plain in
    let letter : ℕ = c.in-Some.letter in (
      so_far.0 ++ quoted (encode_utf8 letter),
      has_written_append _ _ _ _ _ _ so_far.1 (search rules),
      append_assoc so_far.0 (quoted (encode_utf8 letter)) (quoted c.next.new.self.rest.now)
          ∙ (ap (λ (more : List ℕ). so_far.0 ++ more) (sym (ap quoted c.in-Some.ensures.steps.0 ∙ next_letter letter c.next.new.self.rest.now)) ∙ so_far.2),
    )
