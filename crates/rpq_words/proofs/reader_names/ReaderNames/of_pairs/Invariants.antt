use Rattle.std.proofs.Common.{◌≡◌, ◌++◌, map, length}
use Rattle.std.specs.Prelude.{option_map}
use Rattle.rpq_words.specs.Found.{paired}
use Rattle.rpq_words.proofs.reader_names.ReaderNames.of_pairs.Given as goal

-- the readers so far, and those of the texts that are left
abbrev pub invariant-loop-rest : goal.invariant-loop-rest
invariant-loop-rest l = paired (map (λ text. text.now) l.texts)
    ≡ option_map (λ more. l.readers.items ++ more) (paired (map (λ text. text.now) l.rest))

abbrev pub decreases-loop-rest : goal.decreases-loop-rest
decreases-loop-rest l = length l.rest
