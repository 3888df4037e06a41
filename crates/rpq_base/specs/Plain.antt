-- Values whose labels all point forwards.
use Rattle.std.specs.Prelude.{◌≡◌, false}
use Rattle.rpq_base.specs.declared.data.Label.{Label}
use Rattle.rpq_base.specs.declared.data.Act.{Act}
use Rattle.rpq_base.specs.declared.data.Act.TheVariants.{Insert, Delete, Tick}
use Rattle.rpq_base.specs.declared.data.Tuple.{Tuple}
use Rattle.rpq_base.specs.declared.data.Entry.{Entry}

-- a label that isn't taken backwards
abbrev pub IsPlainLabel : Label → Type 0
IsPlainLabel label = label.back ≡ false

-- an act with such a label, or a tick
abbrev pub IsPlainAct : Act → Type 0
IsPlainAct (Insert edge until) = IsPlainLabel edge.label
IsPlainAct (Delete edge) = IsPlainLabel edge.label
IsPlainAct Tick = Unit {0}

-- a tuple with such an act
abbrev pub IsPlainTuple : Tuple → Type 0
IsPlainTuple tuple = IsPlainAct tuple.act

-- an entry with such a tuple
abbrev pub IsPlain : Entry → Type 0
IsPlain entry = IsPlainTuple entry.tuple
