-- The roots at one place as they are kept; no public contract cites these.
use Rattle.std.specs.Prelude.{ℕ, List}
use Rattle.source_index.specs.declared.roots.RootStorage.{RootStorage}
use Rattle.source_index.specs.declared.roots.RootStorage.TheVariants.{Few, Many}

-- the roots, in the order in which they are kept
abbrev pub roots_of : RootStorage → List ℕ
roots_of (Few few) = few.items
roots_of (Many many) = many.value.keys
