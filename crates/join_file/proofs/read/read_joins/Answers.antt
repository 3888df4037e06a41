use Rattle.std.proofs.Common.{List, Ok, sym, ap, ◌∙◌}
use Rattle.join_file.specs.Joins.{JoinValue}
use Rattle.join_file.proofs.SomeVariable.{joins_are_sound}
use Rattle.join_file.proofs.ByParts.{whole}
use Rattle.join_file.proofs.read.read_joins.Goals as goal

pub returns-clause-joins : goal.returns-clause-joins
returns-clause-joins c =
    whole c.args.queries.now c.args.bytes.now c.new.result.items _ c.new.ensures.items c.in_ok-found.ensures.ok
    ∙ ap (λ (list : List JoinValue). Ok list) (sym c.found.view_is)

pub returns-clause-few : goal.returns-clause-few
returns-clause-few c =
    (joins_are_sound c.args.queries.now c.args.bytes.now _ (returns-clause-joins c)).0

pub returns-clause-sound : goal.returns-clause-sound
returns-clause-sound c =
    (joins_are_sound c.args.queries.now c.args.bytes.now _ (returns-clause-joins c)).1

pub returns-clause-variables : goal.returns-clause-variables
returns-clause-variables c =
    (joins_are_sound c.args.queries.now c.args.bytes.now _ (returns-clause-joins c)).2
