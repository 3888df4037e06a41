use Rattle.std.proofs.Common.{ℕ, sym}
use Rattle.std.proofs.Output.{has_written_of_eq}
use Rattle.query_file.proofs.Letters.{letter_kept, no_sign}
use Rattle.query_file.proofs.word_text.write_letter.Goals as goal

pub returns : goal.returns
returns g c = λ plain ok.
    let letter : ℕ = c.args.letter in
    has_written_of_eq _ _ _ _ _ (sym (letter_kept letter (no_sign letter c.if-letter-eq34.false c.if-letter-eq92.false))) (c.write_char.ensures.writes plain ok)
