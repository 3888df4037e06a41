use Rattle.std.proofs.Common.{◌≡◌, length, eqb, not, map, rules, tests}
use Rattle.std.specs.List.{All}
use Rattle.std.proofs.lemmas.Iterator.Splits.{YieldsList-from_slice_split}
use Rattle.std.proofs.lemmas.Iterator.Consumers.{YieldsList-from_filter, map_from_collect}
use Rattle.std.proofs.lemmas.List.Elements.{All-same}
use Rattle.std.proofs.lemmas.Result.{IfOk-weaker}
use Rattle.text_parts.specs.Fields.{fields, IsField}
use Rattle.text_parts.specs.Lines.{is_blank}
use Rattle.text_parts.proofs.FieldLaws.{fields_are_fields, all_from_map}
use Rattle.text_parts.proofs.field.fields.Goals as goal

pub returns-clause-ok : goal.returns-clause-ok
unfolding fields
returns-clause-ok c =
    map_from_collect _ c.collect.ensures.ran
    (YieldsList-from_filter _ (λ run. not (eqb (length run) 0))
    (YieldsList-from_slice_split _ is_blank c.args.line.now (cc) (cc) c.split.ensures.closure (λ x b q k. search (rules, tests)))
    c.filter.ensures.closure (λ x b q k. search (rules, tests)))

pub returns-clause-solid : goal.returns-clause-solid
returns-clause-solid c =
    let line = c.args.line.now in
    IfOk-weaker c.collect.result
    (λ found. map (λ field. field.now) found.items ≡ fields line)
    (λ found. All (λ field. IsField field.now) found.items)
    (λ found e. all_from_map IsField (λ field. field.now) found.items (All-same IsField _ (fields line) e (fields_are_fields line)))
    (returns-clause-ok c)
