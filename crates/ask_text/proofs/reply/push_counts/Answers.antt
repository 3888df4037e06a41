use Rattle.std.proofs.Common.{rules, ◌≡◌, ◌<◌, ◌++◌, ℕ, List, length, take, get_or, sym, ap, ap₂, ◌∙◌, append_assoc, arith}
use Rattle.std.specs.Prelude.{flat_map, zip}
use Rattle.rpq_model.specs.Query.{Query}
use Rattle.answer_rows.specs.Answers.{Answer}
use Rattle.ask_text.specs.Reply.{count_line}
use Rattle.ask_text.proofs.Counts.{one_told}
use Rattle.ask_text.proofs.reply.push_counts.Goals as goal

pub loop-number-preserved : goal.loop-number-preserved
loop-number-preserved c =
    let queries = c.args.queries.now in
    let all = c.args.all.now in
    let number = c.loop-number.number in
    let query = c.index-queries-number.result in
    let rows = c.index-all-number.result in
    let before = c.args.text.now.items in
    let tell : Query × List Answer → List ℕ = λ each. count_line each.0.name (length each.1) in
    let so_far = flat_map tell (zip (take number queries) (take number all)) in
    let within : number < length queries = c.loop-number-test.true in
    let also : number < length all = omega (arith, within, c.requires) in
    let name : c.as_bytes.result.now ≡ query.name = search rules in
    let said : c.push_count_line.new.text.items ≡ c.loop-number.text.items ++ count_line query.name (length rows) =
    c.in_ok-push_count_line.ensures
    ∙ ap₂ (λ (text : List ℕ) (count : ℕ). c.loop-number.text.items ++ count_line text count) name c.count.ensures.count in
    let here : tell (get_or queries number query, get_or all number rows) ≡ tell (query, rows) =
    ap₂ (λ (each : Query) (list : List Answer). tell (each, list)) (sym c.index-queries-number.is) (sym c.index-all-number.is) in
    said
    ∙ ap (λ (text : List ℕ). text ++ tell (query, rows)) c.loop-number.invariant
    ∙ append_assoc before so_far (tell (query, rows))
    ∙ ap (λ (text : List ℕ). before ++ text)
    (ap (λ (text : List ℕ). so_far ++ text) (sym here) ∙ sym (one_told tell queries all number query rows within also))
