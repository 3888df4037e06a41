use Rattle.std.proofs.Common.{◌≡◌, Err, ap, sym, subst, ◌∙◌}
use Rattle.rpq_io.proofs.Counting.{counts_as}
use Rattle.text_items.specs.declared.ends.TextEnd.{TextEnd}
use Rattle.stream_tuples.specs.declared.ends.StreamEnd.{StreamEnd}
use Rattle.stream_tuples.specs.Progress.{EndsReading}
use Rattle.stream_tuples.specs.StreamText.{stream_end}
use Rattle.stream_tuples.proofs.Reading.{ends_stream, told_read}
use Rattle.stream_tuples.proofs.stream.next_stream_item.Goals as goal

pub returns-in-Err-clause-err : goal.returns-in-Err-clause-err
returns-in-Err-clause-err g c =
    let left = g.S.Source.left in
    let old = c.args.reader.now in
    let new = c.next_item.new.reader in
    subst (EndsReading c.args.policy left old new) (sym c.stream_end.ensures)
    (ends_stream c.args.policy left old new c.in-Err.end c.in-Err.ensures.err)

pub returns-in-Err-clause-read : goal.returns-in-Err-clause-read
returns-in-Err-clause-read g c =
    let end = c.in-Err.end in
    counts_as _ _ _ _
    (λ met.
    let same : end ≡ TextEnd.Read = cc met in
    ap (λ (e : StreamEnd). Err e) (c.stream_end.ensures ∙ ap stream_end same))
    (λ met.
    let same : c.stream_end.result ≡ StreamEnd.Read = cc met in
    ap (λ (e : TextEnd StreamEnd). Err e)
    (told_read c.args.policy end c.in-Err.ensures.err.met (sym c.stream_end.ensures ∙ same)))
    c.in-Err.ensures.read
