-- Which of the program's outputs a place is.
use Rattle.rpq_io.specs.declared.place.Place.{Place}
use Rattle.rpq_io.specs.declared.place.Place.TheVariants.{File, Output, Errors}

-- it is standard output
abbrev pub IsOutput : {F O E : Type 0} → Place F O E → Type 0
IsOutput (File file) = ⊥
IsOutput (Output writer) = Unit {0}
IsOutput (Errors writer) = ⊥

-- it is standard error
abbrev pub IsErrors : {F O E : Type 0} → Place F O E → Type 0
IsErrors (File file) = ⊥
IsErrors (Output writer) = ⊥
IsErrors (Errors writer) = Unit {0}
