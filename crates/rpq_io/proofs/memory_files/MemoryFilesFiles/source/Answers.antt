use Rattle.std.proofs.Common.{rules, ◌≡◌, [], ◌∷◌, ◌++◌, refl}
use Rattle.rpq_io.proofs.Names.{counts_noted}
use Rattle.rpq_io.proofs.memory_files.MemoryFilesFiles.source.Goals as goal

pub returns-in_default-clause-faults : goal.returns-in_default-clause-faults
returns-in_default-clause-faults c =
    let noted : c.match-source-2.self.unread_names ≡ c.args.self.now.unread_names ++ c.args.name.now ∷ [] = search rules in
    counts_noted _ _ _ _ refl noted
