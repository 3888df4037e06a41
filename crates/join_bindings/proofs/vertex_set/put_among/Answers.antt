use Rattle.std.proofs.Common.{List, ℕ, [], ◌∷◌, ◌++◌, ap, ◌∙◌}
use Rattle.join_bindings.proofs.Vertices.{put_behind}
use Rattle.join_bindings.proofs.vertex_set.put_among.Goals as goal

pub returns : goal.returns
returns c =
    put_behind c.args.few.now.items c.push.new.self.items c.in_ok-of.field-0 c.args.name.now c.in_ok-of.ensures
    (c.in_ok-push.ensures.items ∙ ap (λ (list : List (List ℕ)). list ++ c.in_ok-of.field-0 ∷ []) c.make_room.ensures)
