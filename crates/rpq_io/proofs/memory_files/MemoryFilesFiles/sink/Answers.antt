use Rattle.std.proofs.Common.{rules, ◌≡◌, [], ◌∷◌, ◌++◌, refl}
use Rattle.rpq_io.proofs.Names.{counts_noted}
use Rattle.rpq_io.proofs.memory_files.MemoryFilesFiles.sink.Goals as goal

pub returns-then-next_fails-clause-faults : goal.returns-then-next_fails-clause-faults
returns-then-next_fails-clause-faults c =
    let noted : c.note.new.self.names ≡ c.args.self.now.unmade_names ++ c.args.name.now ∷ [] =
    search rules in
    counts_noted _ _ _ _ refl noted
