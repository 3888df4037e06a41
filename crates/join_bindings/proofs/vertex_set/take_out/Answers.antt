use Rattle.std.proofs.Common.{◌≡◌, not, filter, rules}
use Rattle.std.proofs.lemmas.Fn.{filter_same}
use Rattle.rpq_base.specs.Same.{same_name}
use Rattle.join_bindings.proofs.Vertices.{left_over}
use Rattle.join_bindings.proofs.vertex_set.take_out.Goals as goal

-- the vertices that stay
left : (c : goal.After-retain) → c.retain.new.self.items ≡ filter (λ each. not (same_name c.args.name.now each)) c.args.few.now.items
left c = filter_same _ (λ each. not (same_name c.args.name.now each)) _ (λ x b f' k. search rules) _ _ c.retain.ensures.filtered

pub returns : goal.returns
returns c = left_over c.args.few.now.items c.retain.new.self.items c.args.name.now (left c)
