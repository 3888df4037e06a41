use Rattle.std.proofs.Common.{List, sym, subst}
use Rattle.dfa_table.specs.DfaValue.{DfaValue}
use Rattle.source_tree.specs.declared.change.EndChange.{EndChange}
use Rattle.end_events.specs.Changes.{AreNamed}
use Rattle.query_index.specs.Answering.{IsEdgeFor}
use Rattle.query_index.specs.Stepping.{HasStepped, log_if}
use Rattle.query_index.proofs.Answered.{answered_if, first_named, second_named}
use Rattle.query_index.proofs.index.QueryIndex.answer.Given.{Over}
use Rattle.query_index.proofs.index.QueryIndex.answer.Goals as goal

-- the ends that came or went with the second change
abbrev second : (g : Over) → goal.After-deref g → List EndChange
second g c = log_if c.in_ok-logs.logs.second c.step.new.self.forest

-- the index took the entry, whose edge has these numbers in the index's automaton too
stepped : (g : Over) (c : goal.After-deref g) →
    HasStepped c.args.names.now c.args.entry.now c.args.self.now c.step.new.self
    c.in_ok-logs.logs.first.items (second g c)
stepped g c =
    c.in_ok-logs.ensures c.args.names.now
    (subst (λ (dfa : DfaValue).
    IsEdgeFor c.args.names.now dfa c.args.entry.now.tuple.act c.args.id)
    (sym c.requires.index.is.automaton) c.requires.edge)

pub step-requires-clause-small : goal.step-requires-clause-small
step-requires-clause-small g c κs within = (
  c.args.names.now,
  c.keeps_numbers_small.ensures,
  subst (λ (dfa : DfaValue).
      IsEdgeFor c.args.names.now dfa c.args.entry.now.tuple.act c.args.id)
      (sym c.requires.index.is.automaton) c.requires.edge,
)

pub events_between-requires-clause-first_named : goal.events_between-requires-clause-first_named
events_between-requires-clause-first_named g c =
    let names = c.args.names.now in
    let has = c.requires.index in
    subst (AreNamed names) (sym c.deref.ensures.value)
    (first_named c.laws.ensures names c.args.entry.now c.args.query.now c.args.self.now
    c.step.new.self c.in_ok-logs.logs.first.items (second g c) c.mode_of-mode.ensures.slide
    c.mode_of-mode.ensures.compiled (stepped g c) has.history has.fed has.is)

pub events_between-requires-clause-second_named : goal.events_between-requires-clause-second_named
events_between-requires-clause-second_named g c =
    let names = c.args.names.now in
    let has = c.requires.index in
    subst (AreNamed names) (sym c.second_log-second.ensures)
    (second_named c.laws.ensures names c.args.entry.now c.args.query.now c.args.self.now
    c.step.new.self c.in_ok-logs.logs.first.items (second g c) c.mode_of-mode.ensures.slide
    c.mode_of-mode.ensures.compiled (stepped g c) has.history has.fed has.is)

pub returns : goal.returns
returns g c =
    let names = c.args.names.now in
    let logs = c.in_ok-logs.logs in
    let taken = c.in_ok-logs.ensures names
    (subst (λ (dfa : DfaValue). IsEdgeFor names dfa c.args.entry.now.tuple.act c.args.id)
    (sym c.requires.index.is.automaton) c.requires.edge) in
    answered_if c.laws.ensures names c.args.entry.now c.args.query.now c.args.self.now
    c.step.new.self logs.first.items (log_if logs.second c.step.new.self.forest)
    c.mode_of-mode.ensures.slide c.mode_of-mode.ensures.compiled taken c.args.number
    c.mode_of-mode.result c.deref.result.now c.second_log-second.result.now c.deref.ensures.value
    c.second_log-second.ensures c.requires.index c.mode_of-mode.ensures.is
    c.events_between.result c.events_between.ensures.are c.events_between.ensures.have_names
