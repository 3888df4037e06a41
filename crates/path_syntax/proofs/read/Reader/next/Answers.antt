use Rattle.std.proofs.Common.{option_map, sym, ◌∙◌, ap}
use Rattle.path_syntax.specs.Views.{state_of}
use Rattle.path_syntax.proofs.Readiness.{stays_ready}
use Rattle.path_syntax.proofs.read.Reader.next.Goals as goal

pub returns-in-Some-clause-ready : goal.returns-in-Some-clause-ready
returns-in-Some-clause-ready c =
    c.within_limits.ensures.ready
    (stays_ready c.args.inverses (state_of c.args.self.state) c.args.byte (state_of c.in-Some.state)
    (sym c.in_ok-state.ensures ∙ ap (option_map state_of) c.in-Some.is) c.requires.ready)
