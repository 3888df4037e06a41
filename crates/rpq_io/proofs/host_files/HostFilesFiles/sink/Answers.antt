use Rattle.std.proofs.Common.{rules, ◌≡◌, [], ◌∷◌, ◌++◌, refl}
use Rattle.rpq_io.proofs.Names.{counts_noted}
use Rattle.rpq_io.proofs.host_files.HostFilesFiles.sink.Goals as goal

pub returns-then-was_opened-clause-faults : goal.returns-then-was_opened-clause-faults
returns-then-was_opened-clause-faults g c =
    let noted : c.note.new.self.names ≡ c.args.self.now.names.unmade_names ++ c.args.name.now ∷ [] =
    search rules in
    counts_noted _ _ _ _ refl noted

pub returns-in_err-opened-clause-faults : goal.returns-in_err-opened-clause-faults
returns-in_err-opened-clause-faults g c =
    let noted : c.note_outcome.new.failed.names ≡ c.args.self.now.names.unmade_names ++ c.args.name.now ∷ [] =
    search rules in
    counts_noted _ _ _ _ (search rules) noted
