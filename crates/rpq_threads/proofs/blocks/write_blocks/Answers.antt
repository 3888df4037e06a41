use Rattle.std.proofs.Common.{◌≡◌, ◌≤◌, List, Option, Err, take, length, refl, sym, ap}
use Rattle.std.proofs.Common.{subst, ◌∙◌, arith}
use Rattle.std.specs.Prelude.{⊤}
use Rattle.std.proofs.lemmas.List.{take_all}
use Rattle.std.specs.Io.KnownBytes.{append_known}
use Rattle.rpq_base.specs.declared.data.Entry.{Entry}
use Rattle.rpq_base.specs.declared.data.Event.{Event}
use Rattle.rpq_io.proofs.Bytes.{append_known-nil}
use Rattle.history_model.specs.declared.line.Why.{Why}
use Rattle.rpq_text.specs.Definitions.{definitions_of}
use Rattle.engine_loop.proofs.TellingMore.{tells_nothing}
use Rattle.engine_loop.specs.Telling.{TellsOn}
use Rattle.entry_steps.specs.Steps.{StepValue, events_of}
use Rattle.rpq_text.specs.Text.{blocks_from}
use Rattle.standing.specs.Circles.{as_seen}
use Rattle.rpq_threads.specs.Blocks.{WritesBlocks}
use Rattle.rpq_threads.specs.Told.{all_events}
use Rattle.rpq_text.proofs.BlockLists.{read_at}
use Rattle.rpq_threads.proofs.Outcomes.{handed_fault}
use Rattle.rpq_threads.proofs.Writing.{written_with, told_with, block_stops, tell_stops, writes_all}
use Rattle.rpq_threads.proofs.blocks.write_blocks.Goals as goal

pub loop-i-init : goal.loop-i-init
loop-i-init g c = record {
  written = sym (append_known-nil (g.K.Sink.written c.args.events.now));
  told = tells_nothing ⊤ (as_seen g.O.Standing.seen c.args.circle.now);
  quiet = refl;
}

pub loop-i-preserved : goal.loop-i-preserved
loop-i-preserved g c =
    let was = c.loop-i.invariant in
    let entries = c.args.entries.now in
    let steps = c.args.steps.now in
    let many = c.requires.as_many in
    let i = c.loop-i.i in
    let entry = c.index-entries-i.result in
    let step = c.index-steps-i.result in
    let below = c.loop-i-test.true in
    let seen = g.O.Standing.seen in
    let first = as_seen seen c.args.circle.now in
    let mid = as_seen seen c.loop-i.circle in
    let last = as_seen seen c.tell_events.new.circle in
    let before = g.K.Sink.written c.args.events.now in
    let between = g.K.Sink.written c.loop-i.events in
    let after = g.K.Sink.written c.write_block.new.events in
    let queries = definitions_of c.args.queries.now in
    let position = c.args.position in
    let there = read_at entries i entry below c.index-entries-i.is in
    let are = read_at steps i step (omega (arith, below, many)) c.index-steps-i.is in
    let written = c.in_ok-write_block.ensures.ok in
    let told : TellsOn step.events ⊤ mid last =
    subst (λ (es : List Event). TellsOn es ⊤ mid last)
    (ap (λ (each : StepValue). each.events) c.step.view_is)
    c.in-Ok.ensures.told in
    record {
      written = written_with entries steps i entry step there are many queries position before
          between first mid was.written was.told after written;
      told = told_with entries steps i entry step there are many queries position before
          between first mid was.written was.told ⊤ last told;
      quiet = c.in_ok-write_block.ensures.counted.quiet (λ is. cc) ∙ was.quiet;
    }

pub returns-in_err-write_block-clause-blocks : goal.returns-in_err-write_block-clause-blocks
returns-in_err-write_block-clause-blocks g c =
    let was = c.loop-i.invariant in
    let entries = c.args.entries.now in
    let steps = c.args.steps.now in
    let many = c.requires.as_many in
    let i = c.loop-i.i in
    let entry = c.index-entries-i.result in
    let step = c.index-steps-i.result in
    let below = c.loop-i-test.true in
    let seen = g.O.Standing.seen in
    let first = as_seen seen c.args.circle.now in
    let mid = as_seen seen c.loop-i.circle in
    let before = g.K.Sink.written c.args.events.now in
    let between = g.K.Sink.written c.loop-i.events in
    let after = g.K.Sink.written c.write_block.new.events in
    let queries = definitions_of c.args.queries.now in
    let position = c.args.position in
    let there = read_at entries i entry below c.index-entries-i.is in
    let are = read_at steps i step (omega (arith, below, many)) c.index-steps-i.is in
    let why = c.in_err-write_block.field-0.0 in
    let did = c.in_err-write_block.ensures in
    handed_fault c.from_residual.result why
    (λ (fault : Option Why). WritesBlocks queries position entries steps fault before after first
    mid) c.from_residual.ensures.1
    (block_stops entries steps i entry step there are many queries position before between
    first mid was.written was.told why after
    (λ is. did.write (ap (λ (w : Why). Err w) is))
    (λ is. did.memory (ap (λ (w : Why). Err w) is)))

pub returns-in_default-clause-blocks : goal.returns-in_default-clause-blocks
returns-in_default-clause-blocks g c =
    let was = c.loop-i.invariant in
    let entries = c.args.entries.now in
    let steps = c.args.steps.now in
    let many = c.requires.as_many in
    let i = c.loop-i.i in
    let entry = c.index-entries-i.result in
    let step = c.index-steps-i.result in
    let below = c.loop-i-test.true in
    let seen = g.O.Standing.seen in
    let first = as_seen seen c.args.circle.now in
    let mid = as_seen seen c.loop-i.circle in
    let last = as_seen seen c.tell_events.new.circle in
    let before = g.K.Sink.written c.args.events.now in
    let between = g.K.Sink.written c.loop-i.events in
    let after = g.K.Sink.written c.write_block.new.events in
    let queries = definitions_of c.args.queries.now in
    let position = c.args.position in
    let there = read_at entries i entry below c.index-entries-i.is in
    let are = read_at steps i step (omega (arith, below, many)) c.index-steps-i.is in
    let written = c.in_ok-write_block.ensures.ok in
    let told : TellsOn step.events ⊥ mid last =
    subst (λ (es : List Event). TellsOn es ⊥ mid last)
    (ap (λ (each : StepValue). each.events) c.step.view_is)
    c.in_default.ensures.part in
    tell_stops entries steps i entry step there are many queries position before between
    first mid was.written was.told after last written told

pub returns-clause-blocks : goal.returns-clause-blocks
returns-clause-blocks g c =
    let was = c.loop-i.invariant in
    let entries = c.args.entries.now in
    let steps = c.args.steps.now in
    let many = c.requires.as_many in
    let i = c.loop-i.i in
    let over : length entries ≤ i = omega (arith, c.loop-i-test.false) in
    let seen = g.O.Standing.seen in
    let queries = definitions_of c.args.queries.now in
    let position = c.args.position in
    let before = g.K.Sink.written c.args.events.now in
    let whole : take i entries ≡ entries = take_all i entries over in
    let own : take i steps ≡ steps = take_all i steps (omega (arith, over, many)) in
    writes_all queries position entries steps many before (g.K.Sink.written c.loop-i.events)
    (as_seen seen c.args.circle.now) (as_seen seen c.loop-i.circle)
    (was.written ∙ ap (append_known before)
    (ap (λ (es : List Entry). blocks_from queries position es (take i steps)) whole
    ∙ ap (λ (ss : List StepValue). blocks_from queries position entries ss) own))
    (subst (λ (ss : List StepValue). TellsOn (all_events (events_of ss)) ⊤
    (as_seen seen c.args.circle.now) (as_seen seen c.loop-i.circle)) own was.told)
