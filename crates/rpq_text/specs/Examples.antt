-- Some lines as they are written.
use Rattle.std.specs.Prelude.{◌≡◌, ℕ, Bool, true, false, List, [], ◌∷◌, ◌++◌, None, codes}
use Rattle.rpq_base.specs.declared.data.Act.TheVariants.{Insert}
use Rattle.rpq_base.specs.declared.data.Entry.{Entry}
use Rattle.rpq_base.specs.declared.data.Event.{Event}
use Rattle.rpq_base.specs.declared.data.Label.{Label}
use Rattle.containment_test.specs.declared.verdict.Verdict.TheVariants.{Yes, No}
use Rattle.path_syntax.specs.Expression.{Atom}
use Rattle.rpq_model.specs.declared.mode.Mode.{Mode}
use Rattle.rpq_model.specs.declared.mode.Mode.TheVariants.{Arbitrary, Simple}
use Rattle.rpq_model.specs.Query.{Query}
use Rattle.ask_text.specs.declared.fault.AskKind.{AskKind}
use Rattle.join_file.specs.declared.fault.JoinFileFaultKind.TheVariants.{Twice}
use Rattle.ask_text.specs.declared.fault.AskKind.TheVariants.{Shape, UnknownQuery}
use Rattle.rpq_text.specs.declared.ends.Which.TheVariants.{Joins, From, Stream, Replies, Save}
use Rattle.rpq_text.specs.declared.ends.SinkName.TheVariants.{Events, Replies as RepliesSink}
use Rattle.rpq_text.specs.declared.ends.SinkName.TheVariants.{Save as SaveSink}
use Rattle.rpq_text.specs.declared.ends.StartFault.{StartFault}
use Rattle.rpq_text.specs.declared.ends.StartFault.TheVariants.{Words, Joins as JoinsFaulty, Asks}
use Rattle.rpq_text.specs.declared.ends.StartFault.TheVariants.{Open, Long}
use Rattle.rpq_text.specs.ErrorLines.{start_line, run_lines}
use Rattle.entry_steps.specs.Steps.{StepValue}
use Rattle.rpq_text.specs.Text.{block}
use Rattle.rpq_text.specs.Verdicts.{verdict_line}

-- the label with a name
abbrev pub label_named : List ℕ → Label
label_named name = record { name = name; back = false }

-- a query for one label with this name and these paths
abbrev pub query_named : List ℕ → Mode → Query
query_named name mode = record {
  name = name;
  window = record { size = 10; slide = 5 };
  mode = mode;
  expr = Atom (label_named (codes "a"));
}

-- a run that doesn't begin for this kind of fault in this line of the asks file
abbrev pub asks_fault : ℕ → AskKind → StartFault
asks_fault line kind = Asks (record { line = line; kind = kind })

-- the entry `7 x a y +` of the first stream
abbrev pub edge_inserted : Entry
edge_inserted = record {
  stream = 1;
  tuple = record {
    time = 7;
    act = Insert (record {
      from = codes "x";
      label = label_named (codes "a");
      to = codes "y";
    }) None;
  };
}

-- a change of the first query's pairs
abbrev pub change : Bool → List ℕ → List ℕ → Event
change added from to =
    record { query = 0; added = added; pair = record { from = from; to = to } }

-- what an entry brings: a pair is lost, two are gained by paths that end at 9 and 8, and a binding
-- is gained
abbrev pub much_brought : StepValue
much_brought = record {
  events = change false (codes "x") (codes "y") ∷ change true (codes "y") (codes "z")
      ∷ change true (codes "z") (codes "z") ∷ [];
  shown = record { until = 9; positions = 2 ∷ 3 ∷ [] } ∷ record { until = 8; positions = 3 ∷ [] }
      ∷ [];
  joined = codes "++ j y z\n";
}

-- a block; a verdict yes; a verdict no, whose first word is empty and whose last has two labels;
-- the lines for words that are refused, for a fault of a joins file and faults of an asks file, for
-- files that can't be opened, and for one that is too long; and those of a run in which writes of
-- all sinks failed
pub record LineExamples : Type 0 where
  pub block_is : block (query_named (codes "p") Arbitrary ∷ []) 3 edge_inserted much_brought
      ≡ codes "@3 1 7 x a y +\n- p x y\n+ p y z\n= 9 2 3\n+ p z z\n= 8 3\n++ j y z\n"
  pub yes : verdict_line (query_named (codes "r") Simple) 2 Yes ≡ codes "r simple states 2 yes\n"
  pub no : verdict_line (query_named (codes "p") Arbitrary) 3
      (No [] (label_named (codes "a") ∷ [])
      (label_named (codes "b") ∷ label_named (codes "c|d") ∷ []))
      ≡ codes "p arbitrary states 3 no () a b/\"c|d\"\n"
  pub words : start_line Words ≡ codes "rpq: words\nusage: rpq [--workers N] [--history N] "
      ++ codes "[--asks FILE --replies FILE] [--check] [--generate N] "
      ++ codes "[--two-way] [--paths] [--joins FILE] [--save FILE] [--from FILE] [--endless] "
      ++ codes "[--reader ASKS REPLIES]... [--faults FILE]... QUERIES [STREAM...]\n"
  pub twice : start_line (JoinsFaulty (record { line = 2; kind = Twice (codes "j") }))
      ≡ codes "rpq: joins line 2: name twice\n"
  pub joins : start_line (Open Joins) ≡ codes "rpq: read failed: joins\n"
  pub long : start_line (Long Joins) ≡ codes "rpq: joins: too long\n"
  pub shape : start_line (asks_fault 1 Shape) ≡ codes "rpq: asks line 1: shape\n"
  pub unknown : start_line (asks_fault 2 UnknownQuery)
      ≡ codes "rpq: asks line 2: unknown query\n"
  pub replies : start_line (Open Replies) ≡ codes "rpq: write failed: replies\n"
  pub stream : start_line (Open (Stream 2)) ≡ codes "rpq: read failed: stream 2\n"
  pub from : start_line (Open From) ≡ codes "rpq: read failed: from\n"
  pub save : start_line (Open Save) ≡ codes "rpq: write failed: save\n"
  pub writes : run_lines [] [] (Events ∷ RepliesSink ∷ SaveSink ∷ []) 6
      ≡ codes "rpq: write failed: events\nrpq: write failed: replies\n"
      ++ codes "rpq: write failed: save\n"
