-- How the stream of the generated tuples ends. Only private contracts cite this file.
use Rattle.std.specs.Prelude.{ℕ, Bool, true, false, List, [], Option, Some, None}
use Rattle.std.specs.Global.{Vec}
use Rattle.stream_tuples.specs.declared.ends.StreamEnd.{StreamEnd}
use Rattle.stream_tuples.specs.declared.ends.StreamEnd.TheVariants.{Whole, Full, Memory}

-- by whether all is done for which memory is needed, and whether all tuples fit into the history
abbrev pub end_of : Bool → Bool → StreamEnd
end_of false fits = Memory
end_of true false = Full
end_of true true = Whole

-- the bytes of a text, if there is one
abbrev pub bytes_of : Option (Vec ℕ) → List ℕ
bytes_of None = []
bytes_of (Some text) = text.items
