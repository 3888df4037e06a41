use Rattle.std.proofs.Common.{length, eqb, not, rules, tests}
use Rattle.std.proofs.lemmas.Iterator.Splits.{YieldsList-from_slice_split}
use Rattle.std.proofs.lemmas.Iterator.Consumers.{YieldsList-from_filter}
use Rattle.text_parts.specs.Fields.{fields}
use Rattle.text_parts.specs.Lines.{is_blank}
use Rattle.tuple_text.proofs.Collected.{collected}
use Rattle.tuple_text.proofs.read.fields_of.Goals as goal

pub returns : goal.returns
unfolding fields
returns c =
    collected (λ found. found.items) c.collect.result c.collect.ensures.ran
    (YieldsList-from_filter _ (λ run. not (eqb (length run) 0))
    (YieldsList-from_slice_split _ is_blank c.args.line.now (cc) (cc) c.split.ensures.closure (λ x b q k. search (rules, tests)))
    c.filter.ensures.closure (λ x b q k. search (rules, tests)))
