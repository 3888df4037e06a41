use Rattle.std.proofs.Common.{ℕ, ◌+◌, List, ◌++◌, take, drop, flat_map, Vec, Global, Bor}
use Rattle.std.proofs.Common.{◌<◌, length, ap, ap₂, ◌∙◌, arith}
use Rattle.path_witness.specs.Shows.{Shown}
use Rattle.rpq_text.specs.Definitions.{definitions_of}
use Rattle.rpq_text.specs.Text.{event_lines, event_of, shown_line}
use Rattle.rpq_text.proofs.EventLines.{read_event, with_path, without_path}
use Rattle.rpq_text.proofs.block.push_events.Goals as goal
use Rattle.rpq_text.proofs.block.push_events.Goals.{then-event+in_ok-rest, else-event}

pub loop-place-preserved : goal.loop-place-preserved
loop-place-preserved c =
    let queries = definitions_of c.args.queries.now in
    let events = c.args.events.now in
    let place = c.loop-place.place in
    let event = event_of c.at-event.result in
    let is = read_event events place event c.at-event.ensures in
    let below : place < length events =
    omega (arith, c.loop-place-test.true, c.len-place-end.ensures) in
    let shown = c.loop-place.rest.now in
    let later = drop (place + 1) events in
    elim c.if-event.branch [
      | then-event+in_ok-rest w ↦
          ap (λ (text : Vec ℕ Global). text.items ++ event_lines queries later c.if-event.rest.now)
          w.text-is
          ∙ (ap (λ (rest : Bor (List Shown)).
          w.push_next.new.text.items ++ event_lines queries later rest.now) w.rest-is
          ∙ (ap₂ (λ (text : List ℕ) (rest : List Shown). text ++ event_lines queries later rest)
          w.in_ok-rest.ensures.line w.in_ok-rest.ensures.rest
          ∙ (ap (λ (text : List ℕ). (text ++ flat_map shown_line (take 1 shown))
          ++ event_lines queries later (drop 1 shown)) c.in_ok-push_event.ensures
          ∙ (with_path queries events place event shown c.loop-place.text.items
          below is w.if-event.true
          ∙ c.loop-place.invariant))))
      | else-event w ↦
          ap (λ (text : Vec ℕ Global). text.items ++ event_lines queries later c.if-event.rest.now)
          w.text-is
          ∙ (ap (λ (rest : Bor (List Shown)).
          c.push_event.new.text.items ++ event_lines queries later rest.now) w.rest-is
          ∙ (ap (λ (text : List ℕ). text ++ event_lines queries later shown)
          c.in_ok-push_event.ensures
          ∙ (without_path queries events place event shown c.loop-place.text.items
          below is w.if-event.false
          ∙ c.loop-place.invariant)))
    ]
