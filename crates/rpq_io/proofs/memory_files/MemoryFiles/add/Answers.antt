use Rattle.std.proofs.Common.{rules, ◌≡◌, [], ◌∷◌, ◌++◌, refl}
use Rattle.rpq_io.specs.Memory.{FileBytes}
use Rattle.rpq_io.proofs.Finding.{file_added, file_others}
use Rattle.rpq_io.proofs.memory_files.MemoryFiles.add.Goals as goal

pub returns-clause-ok : goal.returns-clause-ok
returns-clause-ok c =
    let file : FileBytes =
    record {
      name = c.args.name.now;
      bytes = c.args.bytes.now;
      piece = c.args.piece;
      fails =
          c.args.fails.now;
    } in
    let added : c.push.new.self.items ≡ c.args.self.now.files ++ file ∷ [] = search rules in
    file_added _ _ file _ added refl c.requires.absent

pub returns-clause-others : goal.returns-clause-others
returns-clause-others c = λ other differs.
    let file : FileBytes =
    record {
      name = c.args.name.now;
      bytes = c.args.bytes.now;
      piece = c.args.piece;
      fails =
          c.args.fails.now;
    } in
    let added : c.push.new.self.items ≡ c.args.self.now.files ++ file ∷ [] = search rules in
    file_others _ _ file _ other added refl differs
