use Rattle.std.proofs.Common.{length, ap, arith}
use Rattle.std.proofs.lemmas.List.{length-map}
use Rattle.text_parts.proofs.FieldLaws.{fields_few}
use Rattle.tuple_text.proofs.read.read_tuple.Goals as goal

pub read_fields-requires : goal.read_fields-requires
read_fields-requires c =
    omega (arith, fields_few c.args.line.now, ap length c.as_slice.ensures, ap length c.in_ok-fields.ensures, length-map c.in_ok-fields.fields.items (λ field. field.now))
