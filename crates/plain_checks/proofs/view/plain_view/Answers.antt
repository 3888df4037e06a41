use Rattle.std.proofs.Common.{◌≡◌, ◌+◌, List, [], ◌∷◌, ◌++◌, take, sym, ap, subst, ◌∙◌}
use Rattle.std.specs.List.{AllZip}
use Rattle.std.proofs.lemmas.List.{take_more}
use Rattle.std.proofs.lemmas.Slice.Zip.{all_zipped_more}
use Rattle.rpq_model.specs.Query.{Query, path_query}
use Rattle.answer_rows.specs.Answers.{Answer}
use Rattle.answer_view.specs.View.{AreRowsOf}
use Rattle.plain_checks.proofs.view.plain_view.Goals as goal

pub loop-query-preserved : goal.loop-query-preserved
loop-query-preserved c =
    let queries = c.args.queries.now in
    let index = c.loop-query.query-index in
    let query = c.query-item.result in
    let before = c.loop-query.rows.items in
    let rows = c.in_ok-rows_of.field-0 in
    let are_of : Query → List Answer → Type 0 =
    λ each. AreRowsOf (path_query each) c.args.entries.now in
    let more : take (index + 1) queries ≡ take index queries ++ query ∷ [] =
    take_more queries index query c.loop-query-test.true
    ∙ ap (λ (each : Query). take index queries ++ each ∷ []) (sym c.query-item.is) in
    let zipped = all_zipped_more are_of (take index queries) before query rows
    c.loop-query.invariant c.in_ok-rows_of.ensures in
    subst (AllZip are_of (take (index + 1) queries)) (sym c.in_ok-push.ensures.items)
    (subst (λ (some : List Query). AllZip are_of some (before ++ rows ∷ [])) (sym more) zipped)
