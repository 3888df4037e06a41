use Rattle.std.proofs.Common.{◌≡◌, true, codes, sym, rules}
use Rattle.std.specs.Str.{bytes_eq}
use Rattle.tuple_text.proofs.Steps.{end_found}
use Rattle.tuple_text.proofs.read.read_end.Goals as goal

pub returns-in-Ok-clause-exact : goal.returns-in-Ok-clause-exact
returns-in-Ok-clause-exact c =
    let same : bytes_eq c.args.word.now (codes "until") ≡ true = search rules in
    sym (end_found c.args.word.now c.args.field.now c.in-Ok.end same (record {
      digits = c.in-Ok.ensures.digits;
      value = sym c.in-Ok.ensures.value;
      range = c.in-Ok.ensures.within;
    }))
