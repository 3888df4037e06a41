use Rattle.std.proofs.Common.{inl, inr}
use Rattle.std.proofs.lemmas.Result.{on_ok_weaker}
use Rattle.delta_forest.proofs.hanging.add_hanging.Goals as goal

pub returns-then-leaving-ending : goal.returns-then-leaving-ending
returns-then-leaving-ending c =
    on_ok_weaker c.add_where_it_leaves.result (λ adds. inr adds) c.add_where_it_leaves.ensures

pub returns : goal.returns
returns c =
    on_ok_weaker c.add_where_it_ends.result (λ adds. inl adds) c.add_where_it_ends.ensures
