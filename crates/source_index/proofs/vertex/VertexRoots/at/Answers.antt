use Rattle.std.proofs.Common.{sym, ap, slice_get, subst, ◌∙◌}
use Rattle.source_index.specs.Vertex.{IsFree}
use Rattle.source_index.proofs.Few.{none_twice}
use Rattle.source_index.proofs.Keeping.{reads, reads_none}
use Rattle.source_index.proofs.vertex.VertexRoots.at.Goals as goal

pub returns-in-Ok-clause-roots : goal.returns-in-Ok-clause-roots
returns-in-Ok-clause-roots c =
    c.as_slice.ensures.roots
    ∙ reads c.self.inside.kept c.self.invariant c.args.self.now c.args.state c.in-Ok.place
    c.roots_at.result.now c.self.view_is
    (sym (ap (λ states. slice_get states c.in-Ok.place) c.states_of.ensures)
    ∙ c.in-Ok.ensures.found)
    c.roots_at.ensures

pub returns-in-Err-clause-roots : goal.returns-in-Err-clause-roots
returns-in-Err-clause-roots c =
    sym (reads_none c.self.inside.kept c.self.invariant c.args.self.now c.args.state
    c.in-Err.field-0 c.self.view_is
    (subst (λ states. IsFree states c.args.state c.in-Err.field-0) c.states_of.ensures
    c.in-Err.ensures.free))

pub returns-in-Err-clause-once : goal.returns-in-Err-clause-once
returns-in-Err-clause-once c = none_twice
