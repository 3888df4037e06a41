use Rattle.std.proofs.Common.{◌≡◌, ◌≢◌, ℕ, ◌+◌, List, [], ◌∷◌, length, Ok, refl, ap, subst, arith}
use Rattle.std.proofs.lemmas.Bool.Decides.{nat_tests}
use Rattle.std.proofs.lemmas.List.{nil_from_length}
use Rattle.std.proofs.lemmas.List.Elements.{All-weaker}
use Rattle.containment_laws.specs.Accepted.{IsAccepted}
use Rattle.query_file.specs.Compiled.{CompiledValue, IsCompiled}
use Rattle.query_file.specs.declared.fault.QueryKind.TheVariants.{NoQuery}
use Rattle.query_file.specs.Queries.{IsQueryLine, fault_at}
use Rattle.query_file.specs.QueryLine.{IsFirstFault}
use Rattle.query_file.specs.Takes.{defs, Takes}
use Rattle.query_file.proofs.OneOutcome.{answered, one_outcome}
use Rattle.query_file.proofs.Taking.{lines_first, turn, stop, end, no_end}
use Rattle.query_file.proofs.Verdicts.{accepted_of}
use Rattle.query_file.proofs.read.read_lines.Goals as goal

none_of : (list : List CompiledValue) → defs list ≡ [] → list ≡ []
none_of [] e = refl
none_of (first ∷ list) e = absurd cc

pub returns-in-Err-clause-fault : goal.returns-in-Err-clause-fault
returns-in-Err-clause-fault c = λ other.
    let loop = c.loop-line in
    let both = c.in-Err.ensures.err other in
    let line = c.without_return.ensures.line in
    stop c.args.inverses c.args.bytes.now loop.rest.now c.in-Some.line.now c.in-Some.after.now (defs loop.queries.items) loop.count c.in-Err.kind loop.invariant.so_far
    c.in-Some.ensures.first (subst IsQueryLine line both.0)
    (subst (λ (l : List ℕ). IsFirstFault c.args.inverses (defs loop.queries.items) l c.in-Err.kind) line both.1)

pub loop-line-preserved : goal.loop-line-preserved
loop-line-preserved c =
    let loop = c.loop-line in
    let so_far = loop.invariant in
    let after : List CompiledValue = c.take_line-taken.new.queries.items in
    let taken = c.in_default-taken.ensures in
    let shorter = c.in-Some.ensures.shorter in
    let counted = so_far.counted in
    record {
      so_far = turn c.args.inverses c.args.bytes.now loop.rest.now c.in-Some.line.now c.in-Some.after.now (defs loop.queries.items) (defs after) loop.count so_far.so_far
          c.in-Some.ensures.first (subst (λ (l : List ℕ). Takes c.args.inverses (defs loop.queries.items) l (defs after)) c.without_return.ensures.line taken.ok);
      numbered = omega (arith, ap length (lines_first loop.rest.now c.in-Some.line.now c.in-Some.after.now c.in-Some.ensures.first), so_far.numbered);
      counted = omega (arith, shorter, counted);
      few = taken.few so_far.few;
      compiled = taken.compiled so_far.compiled;
    }

pub returns-in-Err-clause-memory : goal.returns-in-Err-clause-memory
returns-in-Err-clause-memory c = λ memory.
    let loop = c.loop-line in
    let first = ap length (lines_first loop.rest.now c.in-Some.line.now c.in-Some.after.now c.in-Some.ensures.first) in
    (omega arith, omega (arith, first, loop.invariant.numbered))

pub returns-then-is_empty-clause-fault : goal.returns-then-is_empty-clause-fault
returns-then-is_empty-clause-fault c = λ other.
    let loop = c.loop-line in
    let none : loop.queries.items ≡ [] = nil_from_length loop.queries.items (grind (arith, nat_tests)) in
    no_end c.args.inverses c.args.bytes.now loop.rest.now (defs loop.queries.items) loop.count loop.invariant.so_far c.in_default.ensures.end (ap defs none)

pub returns-clause-queries : goal.returns-clause-queries
returns-clause-queries c =
    let loop = c.loop-line in
    let some : defs loop.queries.items ≢ [] = λ e. let short = ap length (none_of loop.queries.items e) in grind (arith, nat_tests) in
    end c.args.inverses c.args.bytes.now loop.rest.now (defs loop.queries.items) loop.count loop.invariant.so_far c.in_default.ensures.end some

pub returns-in-Err-clause-exact : goal.returns-in-Err-clause-exact
returns-in-Err-clause-exact c = λ outcome is.
    answered c.args.inverses c.args.bytes.now (fault_at (c.loop-line.count + 1) c.in-Err.kind) (returns-in-Err-clause-fault c) outcome is

pub returns-then-is_empty-clause-exact : goal.returns-then-is_empty-clause-exact
returns-then-is_empty-clause-exact c = λ outcome is.
    answered c.args.inverses c.args.bytes.now (fault_at c.loop-line.count NoQuery) (returns-then-is_empty-clause-fault c) outcome is

pub returns-clause-exact : goal.returns-clause-exact
returns-clause-exact c = λ outcome is.
    one_outcome c.args.inverses c.args.bytes.now outcome (Ok (defs c.loop-line.queries.items)) is (returns-clause-queries c)

pub returns-clause-accepted : goal.returns-clause-accepted
returns-clause-accepted c =
    let loop = c.loop-line in
    let all : List CompiledValue = loop.queries.items in
    All-weaker IsCompiled (λ (each : CompiledValue). IsAccepted each.def) accepted_of all loop.invariant.compiled
