use Rattle.std.proofs.Common.{sym, ◌∙◌}
use Rattle.rpq_words.proofs.Pairs.{one_left}
use Rattle.rpq_words.proofs.reader_names.ReaderNames.of_pairs.Goals as goal

pub returns-else-is_empty-clause-refused : goal.returns-else-is_empty-clause-refused
returns-else-is_empty-clause-refused c = λ _.
    one_left c.args.texts.now c.loop-rest.rest.now c.loop-rest.readers.items c.loop-rest.invariant
    c.in_default.len_below (sym c.is_empty.ensures ∙ c.if-is_empty.false)
