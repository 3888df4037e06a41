use Rattle.std.proofs.Common.{◌≡◌, ◌<◌, Some, ap, subst, ◌∙◌, rules}
use Rattle.std.specs.Prelude.{slice_get}
use Rattle.rpq_model.specs.Query.{Query}
use Rattle.path_witness.specs.Marks.{MarksValue}
use Rattle.path_witness.proofs.Telling.{query_here}
use Rattle.path_witness.proofs.path_entries.mode_of.Goals as goal

-- the query with the number
here_is : (c : goal.After-result-1) (def : Query) →
    slice_get c.args.marks.now.queries c.args.query ≡ Some def → c.index-def.result.now ≡ def
here_is c def there =
    query_here _ c.args.marks.now c.args.query c.index-def.result.now def
    (ap (λ queries. queries.items) c.deref.ensures
    ∙ ap (λ (marks : MarksValue). marks.queries) c.marks.view_is) c.index-def.ensures there

pub returns-clause-mode : goal.returns-clause-mode
returns-clause-mode c def there =
    ap (λ inside. inside.mode) c.def-inside.view_is
    ∙ (ap (λ (query : Query). query.mode) c.def.view_is
    ∙ ap (λ (query : Query). query.mode) (here_is c def there))

pub returns-clause-slide : goal.returns-clause-slide
returns-clause-slide c def there =
    let some : 0 < c.index-def.result.now.window.slide = search rules in
    subst (λ (query : Query). 0 < query.window.slide) (here_is c def there) some
