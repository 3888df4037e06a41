use Rattle.std.proofs.Common.{rules, ◌≡◌, [], ◌∷◌, ◌++◌}
use Rattle.rpq_io.proofs.Names.{counts_noted}
use Rattle.rpq_io.proofs.host_files.HostFilesFiles.source.Goals as goal

pub returns-in_err-opened-clause-faults : goal.returns-in_err-opened-clause-faults
returns-in_err-opened-clause-faults g c =
    let noted : c.note_outcome.new.failed.names ≡ c.args.self.now.names.unread_names ++ c.args.name.now ∷ [] =
    search rules in
    counts_noted _ _ _ _ (search rules) noted
