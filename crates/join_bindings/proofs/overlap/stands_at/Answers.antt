use Rattle.std.proofs.Common.{◌≡◌, true, List, [], get_or, sym, subst, arith}
use Rattle.std.specs.Prelude.{◌↔◌, Contains}
use Rattle.std.proofs.lemmas.Bool.{false≢true}
use Rattle.rpq_base.specs.declared.data.Pair.{Pair}
use Rattle.rpq_base.proofs.Members.{none_in}
use Rattle.join_bindings.specs.Overlaps.{StandsIn}
use Rattle.join_bindings.proofs.overlap.stands_at.Goals as goal

pub returns-in-Some : goal.returns-in-Some
returns-in-Some c =
    let is : c.in-Some.pairs.now ≡ get_or c.args.sets.now c.args.column.query [] = c.in-Some.ensures.lookup.4 (omega arith) [] in
    subst (λ (list : List Pair). (c.has_at.result ≡ true) ↔ StandsIn list c.args.column.side c.args.vertex.now) is c.has_at.ensures

pub returns-in-None : goal.returns-in-None
returns-in-None c =
    let is : [] ≡ get_or c.args.sets.now c.args.column.query [] = c.in-None.ensures.lookup.4 (omega arith) [] in (
      (λ e. absurd (false≢true e)),
      (λ some. absurd (none_in some.0 (subst (λ (list : List Pair). Contains list some.0) (sym is) some.1))),
    )
