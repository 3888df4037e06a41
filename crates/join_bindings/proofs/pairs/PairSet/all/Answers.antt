use Rattle.std.proofs.Common.{List, subst}
use Rattle.std.specs.Prelude.{◌↔◌, Contains}
use Rattle.rpq_base.specs.declared.data.Pair.{Pair}
use Rattle.join_file.proofs.Mapping.{ok_map}
use Rattle.join_bindings.proofs.pairs.PairSet.all.Goals as goal

pub returns : goal.returns
returns c = ok_map c.all_pairs.result _ (λ found. (pair : Pair) → Contains found.items pair ↔ Contains c.args.self.now pair) (λ found are pair.
    subst (λ (set : List Pair). Contains found.items pair ↔ Contains set pair) c.self.view_is (are pair)) c.all_pairs.ensures
