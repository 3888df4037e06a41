use Rattle.std.proofs.Common.{ℕ, List, sym, subst, ◌∙◌, true≢false}
use Rattle.source_index.specs.Vertex.{DropsAt, IsFree, RootsByState}
use Rattle.source_index.specs.VertexStorage.{states_of}
use Rattle.source_index.proofs.Beside.{drops_none_at}
use Rattle.source_index.proofs.Keeping.{by_state, drops_found, drops_last, reads_none, stands, step_last, step_left}
use Rattle.source_index.proofs.vertex.VertexRoots.remove.Goals as goal

pub invariant_of-self : goal.invariant_of-self
invariant_of-self c =
    step_last c.self.inside.kept c.self.invariant c.take_at.new.kept c.args.state c.in-Ok.place
    c.args.root c.roots_at.result.now (stands (states_of c.self.inside.kept) c.states_of.result.now
    c.in-Ok.place c.args.state c.states_of.ensures c.in-Ok.ensures.found) c.take_at.ensures.states c.take_at.ensures.dropped
    c.roots_at.ensures c.remove_at.new.kept c.remove_at.ensures.states c.remove_at.ensures.many

pub invariant_of-self-else-is_empty : goal.invariant_of-self-else-is_empty
invariant_of-self-else-is_empty c =
    step_left c.self.inside.kept c.self.invariant c.take_at.new.kept c.args.state c.in-Ok.place
    c.args.root c.roots_at.result.now (stands (states_of c.self.inside.kept) c.states_of.result.now
    c.in-Ok.place c.args.state c.states_of.ensures c.in-Ok.ensures.found) c.take_at.ensures.states c.take_at.ensures.dropped
    c.roots_at.ensures
    (λ bare. true≢false (sym (c.is_empty.ensures.1 bare) ∙ c.if-is_empty.false))

pub returns-then-is_empty : goal.returns-then-is_empty
returns-then-is_empty c =
    subst (λ (old : RootsByState). DropsAt old (by_state c.remove_at.new.kept) c.args.state
    c.args.root) c.self.view_is
    (drops_last c.self.inside.kept c.self.invariant c.take_at.new.kept c.args.state c.in-Ok.place
    c.args.root c.roots_at.result.now (stands (states_of c.self.inside.kept) c.states_of.result.now
    c.in-Ok.place c.args.state c.states_of.ensures c.in-Ok.ensures.found) c.take_at.ensures.states c.take_at.ensures.dropped
    c.roots_at.ensures c.remove_at.new.kept c.remove_at.ensures.states c.remove_at.ensures.many
    (c.is_empty.ensures.0 c.if-is_empty.true))

pub returns-else-is_empty : goal.returns-else-is_empty
returns-else-is_empty c =
    subst (λ (old : RootsByState). DropsAt old (by_state c.take_at.new.kept) c.args.state
    c.args.root) c.self.view_is
    (drops_found c.self.inside.kept c.self.invariant c.take_at.new.kept c.args.state
    c.in-Ok.place c.args.root c.roots_at.result.now (stands (states_of c.self.inside.kept) c.states_of.result.now
    c.in-Ok.place c.args.state c.states_of.ensures c.in-Ok.ensures.found) c.take_at.ensures.states
    c.take_at.ensures.dropped c.roots_at.ensures)

pub returns-in_default : goal.returns-in_default
returns-in_default c =
    drops_none_at c.args.self.now c.args.state c.args.root
    (reads_none c.self.inside.kept c.self.invariant c.args.self.now c.args.state
    c.in_default.field-0 c.self.view_is
    (subst (λ (all : List ℕ). IsFree all c.args.state c.in_default.field-0) c.states_of.ensures
    c.in_default.ensures.free))
