-- Some of the tuples, as the definitions compute them.
use Rattle.std.proofs.Common.{refl}
use Rattle.tuple_generator.specs.Seeds.{next_seed, seed}
use Rattle.tuple_generator.specs.Generator.{generated_tuple}
use Rattle.tuple_generator.specs.Examples.{WorkedTuples}
use Rattle.std.specs.Fmt.{digits}

pub worked_tuples : WorkedTuples
unfolding next_seed seed generated_tuple digits
worked_tuples = record { three = refl; fourth = refl; eleventh = refl; fifteenth = refl }
