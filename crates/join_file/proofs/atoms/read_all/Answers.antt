use Rattle.std.proofs.Common.{arith}
use Rattle.text_parts.proofs.LineByLine.{err_out}
use Rattle.join_file.specs.declared.fault.JoinFileFaultKind.{JoinFileFaultKind}
use Rattle.join_file.specs.JoinLine.{AtomsRead}
use Rattle.join_file.proofs.Reading.{atom_taken, atom_refused, atoms_end}
use Rattle.join_file.proofs.atoms.read_all.Goals as goal

pub returns-in_err-atom-clause-err : goal.returns-in_err-atom-clause-err
returns-in_err-atom-clause-err c =
    let loop = c.loop-text in
    let read : AtomsRead = record { atoms = loop.atoms.items; seen = loop.seen.items } in
    let kind : JoinFileFaultKind = c.in_err-atom.field-0.0 in
    err_out c.from_residual.result kind _ c.from_residual.ensures.1 (λ other.
    atom_refused c.args.queries.now read c.args.texts.now loop.text-index c.text-item.result kind _ c.loop-text-test.true c.text-item.is
    (c.in_err-atom.ensures.err other) loop.invariant.so_far)

pub loop-text-preserved : goal.loop-text-preserved
loop-text-preserved c =
    let loop = c.loop-text in
    let read : AtomsRead = record { atoms = loop.atoms.items; seen = loop.seen.items } in
    let few = c.in_ok-atom.ensures.few in
    let so_few = loop.invariant.few in
    record {
      so_far = atom_taken c.args.queries.now read c.push.new.self.items c.read_atom.new.seen.items c.args.texts.now loop.text-index c.text-item.result
          c.in_ok-atom.atom _ c.loop-text-test.true c.text-item.is c.in_ok-atom.ensures.ok c.in_ok-push.ensures.items loop.invariant.so_far;
      few = omega (arith, few, so_few);
    }

pub returns-clause-ok : goal.returns-clause-ok
returns-clause-ok c =
    let loop = c.loop-text in
    let read : AtomsRead = record { atoms = loop.atoms.items; seen = loop.seen.items } in
    atoms_end c.args.queries.now read c.args.texts.now loop.text-index _ c.loop-text-test.false loop.invariant.so_far
