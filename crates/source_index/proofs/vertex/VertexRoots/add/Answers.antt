use Rattle.std.proofs.Common.{OnOk, subst}
use Rattle.source_index.specs.Vertex.{AddsAt, RootsByState}
use Rattle.source_index.specs.VertexStorage.{states_of}
use Rattle.source_index.proofs.Keeping.{adds_found, adds_free, belongs, by_state, stands, step_found, step_free}
use Rattle.source_index.proofs.vertex.VertexRoots.add.Goals as goal

pub invariant_of-self : goal.invariant_of-self
invariant_of-self c =
    step_found c.self.inside.kept c.self.invariant c.add_at.new.kept c.in-Ok.place c.args.root
    c.add_at.result c.add_at.ensures.states c.add_at.ensures.added c.add_at.ensures.unchanged

pub invariant_of-self-in-Err : goal.invariant_of-self-in-Err
invariant_of-self-in-Err c =
    step_free c.self.inside.kept c.self.invariant c.insert_at.new.kept c.args.state c.in-Err.place
    c.args.root c.insert_at.result (belongs (states_of c.self.inside.kept) c.states_of.result.now
    c.in-Err.place c.args.state c.states_of.ensures c.in-Err.ensures.free) c.insert_at.ensures.inserted
    c.insert_at.ensures.states c.insert_at.ensures.many

pub returns-in-Ok-clause-added : goal.returns-in-Ok-clause-added
returns-in-Ok-clause-added c =
    subst (λ (old : RootsByState). OnOk c.add_at.result
    (AddsAt old (by_state c.add_at.new.kept) c.args.state c.args.root)) c.self.view_is
    (adds_found c.self.inside.kept c.self.invariant c.add_at.new.kept c.args.state c.in-Ok.place
    c.args.root c.add_at.result (stands (states_of c.self.inside.kept) c.states_of.result.now
    c.in-Ok.place c.args.state c.states_of.ensures c.in-Ok.ensures.found) c.add_at.ensures.states c.add_at.ensures.added)

pub returns-in-Err-clause-added : goal.returns-in-Err-clause-added
returns-in-Err-clause-added c =
    subst (λ (old : RootsByState). OnOk c.insert_at.result
    (AddsAt old (by_state c.insert_at.new.kept) c.args.state c.args.root)) c.self.view_is
    (adds_free c.self.inside.kept c.self.invariant c.insert_at.new.kept c.args.state
    c.in-Err.place c.args.root c.insert_at.result (belongs (states_of c.self.inside.kept) c.states_of.result.now
    c.in-Err.place c.args.state c.states_of.ensures c.in-Err.ensures.free) c.insert_at.ensures.inserted)
