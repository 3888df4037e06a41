use Rattle.std.proofs.Common.{slice_get, sym, ap, ◌∙◌}
use Rattle.delta_tree.specs.Nodes.{TreeValue, ids_of}
use Rattle.delta_tree.proofs.tree.Tree.node_at.Goals as goal

pub returns : goal.returns
returns c =
    sym (ap (λ (tree : TreeValue). slice_get (ids_of tree) c.args.k) c.self.view_is)
    ∙ c.id_at.ensures
