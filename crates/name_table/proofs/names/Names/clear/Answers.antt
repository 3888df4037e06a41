use Rattle.std.proofs.Common.{sym, subst}
use Rattle.name_table.specs.Table.{names_of, IsTable}
use Rattle.name_table.specs.Ranks.{AreRanks}
use Rattle.name_table.proofs.Ranking.{no_ranks}
use Rattle.name_table.proofs.Numbers.{no_names}
use Rattle.name_table.proofs.names.Names.clear.Goals as goal

pub invariant_of-self : goal.invariant_of-self
invariant_of-self c = (
  subst IsTable (sym c.with_hasher.ensures.empty) no_names,
  subst (λ ranks. AreRanks (names_of c.with_hasher.result.entries) ranks) (sym c.new.ensures.items) (no_ranks (names_of c.with_hasher.result.entries)),
)
