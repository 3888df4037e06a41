use Rattle.std.proofs.Common.{◌≡◌, List, not, ap, subst, ◌∙◌}
use Rattle.std.specs.Prelude.{◌↔◌, IsTrue}
use Rattle.rpq_base.specs.declared.data.Label.{Label}
use Rattle.path_syntax.specs.Expression.{expression}
use Rattle.path_syntax.specs.Language.{In}
use Rattle.rpq_model.specs.Path.{word_of}
use Rattle.rpq_model.specs.Query.{Query, language_of}
use Rattle.plain_checks.specs.PathTests.{edges_of, takes_path}
use Rattle.plain_checks.proofs.PathTesting.{some_decides, fits_decides}
use Rattle.plain_checks.proofs.path_test.fits.Goals as goal

pub returns : goal.returns
returns c =
    let edges = edges_of c.args.edges.now in
    let word_is : c.deref.result.now ≡ word_of edges = c.deref.ensures.value ∙ c.in_ok-word.ensures in
    fits_decides c.args.query.now c.args.pair.now edges (not c.is_empty.result) c.in_ok-is_word.is_word c.leads-leads.result c.takes-takes.result
    (some_decides c.args.edges.now c.is_empty.result c.is_empty.ensures)
    (subst (λ (query : Query). IsTrue c.in_ok-is_word.is_word ↔ language_of query (word_of edges)) c.query.view_is
    (subst (λ (word : List Label). IsTrue c.in_ok-is_word.is_word ↔ In (expression c.query.inside.expr) word) word_is c.in_ok-is_word.ensures.answer))
    c.leads-leads.ensures
    (c.takes-takes.ensures ∙ ap (λ (query : Query). takes_path query.mode c.args.pair.now.from edges) c.query.view_is)
