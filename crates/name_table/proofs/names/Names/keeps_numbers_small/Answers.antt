use Rattle.std.proofs.Common.{[], length, ap, arith}
use Rattle.std.proofs.lemmas.List.{length-map}
use Rattle.std.proofs.lemmas.List.Quantifiers.{position-Some}
use Rattle.rpq_base.specs.Same.{same_name}
use Rattle.name_table.proofs.names.Names.keeps_numbers_small.Goals as goal

pub returns : goal.returns
returns c = λ name number is.
    omega (
      arith,
      (position-Some (λ each. same_name name each) c.args.self.now number [] is).0,
      ap length c.self.view_is,
      length-map c.self.inside.names.entries (λ entry. entry.0),
      c.self.invariant.0.few,
    )
