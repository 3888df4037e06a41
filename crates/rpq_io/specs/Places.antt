-- Where the host's sinks write.
use Rattle.std.specs.Prelude.{ℕ, List, Option}
use Rattle.rpq_io.specs.declared.place.Place.{Place}
use Rattle.rpq_io.specs.declared.place.Place.TheVariants.{File, Output, Errors}

-- the bytes written there, where its writer tells them
abbrev pub place_contents : {F O E : Type 0} → (F → Option (List ℕ)) → (O → Option (List ℕ))
    → (E → Option (List ℕ)) → Place F O E → Option (List ℕ)
place_contents file output errors (File writer) = file writer
place_contents file output errors (Output writer) = output writer
place_contents file output errors (Errors writer) = errors writer
