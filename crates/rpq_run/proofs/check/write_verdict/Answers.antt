use Rattle.std.proofs.Common.{◌≡◌, ◌++◌, length, ap, ap₂, ◌∙◌, rules}
use Rattle.query_file.specs.Compiled.{CompiledValue}
use Rattle.rpq_text.specs.WordTexts.{verdict_at_end, verdict_front}
use Rattle.rpq_run.proofs.ErrorTexts.{tells_as, tells_failed, tells_then}
use Rattle.rpq_text.proofs.WordPieces.{verdict_in_parts}
use Rattle.rpq_run.proofs.check.write_verdict.Goals as goal

pub returns-in_err-put_piece : goal.returns-in_err-put_piece
returns-in_err-put_piece g c =
    let query = c.args.query.now in
    let name : c.name_of.result.now ≡ query.def.name =
    c.name_of.ensures ∙ ap (λ (q : CompiledValue). q.def.name) c.query.view_is in
    tells_as (verdict_in_parts query.def (length query.dfa.rows) query.verdict)
    (tells_failed (verdict_front query.def.mode (length query.dfa.rows) ++ verdict_at_end query.verdict)
    (search rules) (tells_as name c.in_err-put_piece.ensures))

pub returns-in_err-put_piece-2 : goal.returns-in_err-put_piece-2
returns-in_err-put_piece-2 g c =
    let query = c.args.query.now in
    let name : c.name_of.result.now ≡ query.def.name =
    c.name_of.ensures ∙ ap (λ (q : CompiledValue). q.def.name) c.query.view_is in
    let front : c.as_bytes.result.now ≡ verdict_front query.def.mode (length query.dfa.rows) =
    c.as_bytes.ensures.value ∙ (c.as_str.ensures.value ∙ (c.verdict_front-front.ensures
    ∙ ap₂ verdict_front (ap (λ (q : CompiledValue). q.def.mode) c.query.view_is)
    (c.states.ensures.number ∙ ap (λ (q : CompiledValue). length q.dfa.rows) c.query.view_is))) in
    tells_as (verdict_in_parts query.def (length query.dfa.rows) query.verdict)
    (tells_then (tells_as name c.in_ok-put_piece.ensures)
    (tells_failed (verdict_at_end query.verdict) (search rules) (tells_as front c.in_err-put_piece-2.ensures)))

pub returns : goal.returns
returns g c =
    let query = c.args.query.now in
    let name : c.name_of.result.now ≡ query.def.name =
    c.name_of.ensures ∙ ap (λ (q : CompiledValue). q.def.name) c.query.view_is in
    let front : c.as_bytes.result.now ≡ verdict_front query.def.mode (length query.dfa.rows) =
    c.as_bytes.ensures.value ∙ (c.as_str.ensures.value ∙ (c.verdict_front-front.ensures
    ∙ ap₂ verdict_front (ap (λ (q : CompiledValue). q.def.mode) c.query.view_is)
    (c.states.ensures.number ∙ ap (λ (q : CompiledValue). length q.dfa.rows) c.query.view_is))) in
    tells_as (verdict_in_parts query.def (length query.dfa.rows) query.verdict)
    (tells_then (tells_as name c.in_ok-put_piece.ensures)
    (tells_then (tells_as front c.in_ok-put_piece-2.ensures)
    (tells_as (ap (λ (q : CompiledValue). verdict_at_end q.verdict) c.query.view_is) c.end_with_verdict.ensures)))
