use Rattle.std.proofs.Common.{get_or, rules}
use Rattle.std.proofs.lemmas.List.{get_or_default}
use Rattle.path_syntax.specs.Grammar.{escaped}
use Rattle.rpq_run.proofs.ErrorTexts.{tells_element}
use Rattle.rpq_run.proofs.word_texts.put_quoted.Goals as goal

pub returns-in_err-put_escaped : goal.returns-in_err-put_escaped
returns-in_err-put_escaped g c =
    let name = c.args.name.now in
    let place = c.loop-byte.byte-index in
    tells_element escaped name place (get_or name place 0) c.loop-byte-test.true
    (get_or_default name place 0 (get_or name place 0) c.loop-byte-test.true)
    c.loop-byte.invariant.written c.loop-byte.invariant.quiet (search rules) c.in_err-put_escaped.ensures
