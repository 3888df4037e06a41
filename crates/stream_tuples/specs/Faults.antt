-- What is told of faulty lines, and the items of a stream where they are.
use Rattle.std.specs.Prelude.{ℕ, List, [], ◌++◌, flat_map, codes, decimal, Option, Some, None}
use Rattle.std.specs.List.{filter_map}
use Rattle.rpq_base.specs.Plain.{IsPlainTuple}
use Rattle.rpq_base.specs.declared.data.Tuple.{Tuple}
use Rattle.stream_tuples.specs.declared.faults.FaultPolicy.{FaultPolicy}
use Rattle.stream_tuples.specs.declared.faults.FaultPolicy.TheVariants.{Stop, Report}
use Rattle.stream_tuples.specs.declared.faults.StreamItem.{StreamItem}
use Rattle.stream_tuples.specs.declared.faults.StreamItem.TheVariants as item

-- what is told of the line with this number and these bytes, of which this is wrong
abbrev pub fault_report : ℕ → List ℕ → List ℕ → List ℕ
fault_report number wrong line =
    codes "line "
    ++ (decimal number ++ (codes ": " ++ (wrong ++ (codes ": " ++ (line ++ codes "\n")))))

-- what is told of the line with this number, which is too long and has these first bytes
abbrev pub long_report : ℕ → List ℕ → List ℕ
long_report number front = fault_report number (codes "too long") front

-- the tuple of an item, if it is one, and what is told of it, if it is faulty
abbrev pub tuple_of : StreamItem → Option Tuple
tuple_of (item.Tuple tuple) = Some tuple
tuple_of (item.Fault report) = None

abbrev pub report_of : StreamItem → List ℕ
report_of (item.Tuple tuple) = []
report_of (item.Fault report) = report

-- the tuples among items, in order
abbrev pub tuples_in : List StreamItem → List Tuple
tuples_in items = filter_map tuple_of items

-- what is told of the faulty ones among items, one after another
abbrev pub reports_in : List StreamItem → List ℕ
reports_in items = flat_map report_of items

-- an item that a stream with this policy gives: its tuple is plain, and a fault is none where it
-- ends the stream
abbrev pub IsItemOf : FaultPolicy → StreamItem → Type 0
IsItemOf policy (item.Tuple tuple) = IsPlainTuple tuple
IsItemOf Stop (item.Fault report) = ⊥
IsItemOf Report (item.Fault report) = Unit {0}
