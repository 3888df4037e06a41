use Rattle.std.proofs.Common.{◌≡◌, ℕ, ◌+◌, true, List, ◌++◌, drop, get_or, refl, ap, sym, ◌∙◌}
use Rattle.std.proofs.Common.{rules, arith}
use Rattle.std.specs.Io.KnownBytes.{append_known}
use Rattle.std.proofs.lemmas.List.{get_or_default}
use Rattle.live_asks.specs.declared.ends.ReaderEnd.TheVariants.{Whole}
use Rattle.rpq_text.specs.ErrorLines.{reader_line, reader_lines}
use Rattle.rpq_run.proofs.ErrorTexts.{tells_in_turn, readers_from, readers_more}
use Rattle.rpq_run.proofs.errors.tell_readers.Goals as goal

pub returns-in_err-put_line : goal.returns-in_err-put_line
returns-in_err-put_line g c =
    let ends = c.args.readers.now in
    let place = c.loop-place.place in
    let told = c.loop-place.invariant.written in
    let end = get_or ends place Whole in
    let line = c.reader_line.result.bytes in
    let more = reader_lines ((place + 1) + 1) (drop (place + 1) ends) in
    let number : 1 + place ≡ place + 1 = omega arith in
    let line_is : line ≡ reader_line (place + 1) end = c.reader_line.ensures ∙ ap (λ n. reader_line n end) number in
    let all : told.done ++ (line ++ more) ≡ reader_lines 1 ends =
    ap (λ (l : List ℕ). told.done ++ (l ++ more)) line_is
    ∙ (ap (λ (t : List ℕ). told.done ++ t) (sym (readers_from ends place end c.loop-place-test.true
    (get_or_default ends place Whole end c.loop-place-test.true))) ∙ told.cut) in
    tells_in_turn told.done more (reader_lines 1 ends) all told.written c.loop-place.invariant.quiet (search rules)
    c.in_err-put_line.ensures

pub loop-place-preserved : goal.loop-place-preserved
loop-place-preserved g c =
    let ends = c.args.readers.now in
    let place = c.loop-place.place in
    let end = get_or ends place Whole in
    let between = g.S.Sink.written c.loop-place.errors in
    let number : 1 + place ≡ place + 1 = omega arith in
    let line_is : c.reader_line.result.bytes ≡ reader_line (place + 1) end =
    c.reader_line.ensures ∙ ap (λ n. reader_line n end) number in
    record {
      written = readers_more ends place end (g.S.Sink.written c.args.errors.now) between
          (g.S.Sink.written c.put_line.new.errors) c.loop-place-test.true
          (get_or_default ends place Whole end c.loop-place-test.true) c.loop-place.invariant.written
          (c.in_ok-put_line.ensures.whole (refl {a = true}) ∙ ap (λ (l : List ℕ). append_known between l) line_is);
      quiet = c.in_ok-put_line.ensures.counted.quiet (λ err. cc err) ∙ c.loop-place.invariant.quiet;
    }
