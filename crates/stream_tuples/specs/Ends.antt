-- Which ends a stream meets.
use Rattle.stream_tuples.specs.declared.ends.StreamEnd.{StreamEnd}
use Rattle.stream_tuples.specs.declared.ends.StreamEnd.TheVariants.{Whole, Line, LongLine}
use Rattle.stream_tuples.specs.declared.ends.StreamEnd.TheVariants.{LongStream, Read, Faults}
use Rattle.stream_tuples.specs.declared.ends.StreamEnd.TheVariants.{Full, Closed, Memory}
use Rattle.stream_tuples.specs.declared.faults.FaultPolicy.{FaultPolicy}
use Rattle.stream_tuples.specs.declared.faults.FaultPolicy.TheVariants.{Stop, Report}

-- an end that a stream can have by this policy: no write of its faults fails where they aren't told
-- apart, and no line ends it where they are
abbrev pub CanEnd : FaultPolicy → StreamEnd → Type 0
CanEnd Stop Faults = ⊥
CanEnd Stop other = Unit {0}
CanEnd Report (Line number fault) = ⊥
CanEnd Report (LongLine number) = ⊥
CanEnd Report other = Unit {0}

-- an end that the reading of a stream meets by itself. Only private contracts cite it
abbrev pub IsReadEnd : FaultPolicy → StreamEnd → Type 0
IsReadEnd policy Whole = Unit {0}
IsReadEnd policy (Line number fault) = CanEnd policy (Line number fault)
IsReadEnd policy (LongLine number) = CanEnd policy (LongLine number)
IsReadEnd policy LongStream = Unit {0}
IsReadEnd policy Read = Unit {0}
IsReadEnd policy Faults = ⊥
IsReadEnd policy Full = ⊥
IsReadEnd policy (Closed why) = ⊥
IsReadEnd policy Memory = Unit {0}
