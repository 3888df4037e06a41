use Rattle.std.proofs.Common.{◌≡◌, ◌<◌, List, length, Some, refl, sym, ap, subst, ◌∙◌, rules}
use Rattle.std.specs.Prelude.{slice_get}
use Rattle.std.proofs.lemmas.Option.{same_Some, slice_get_read}
use Rattle.rpq_model.specs.Query.{Query}
use Rattle.path_witness.specs.Marks.{MarksValue, StandsFor}
use Rattle.path_witness.proofs.Enough.{found_is}
use Rattle.path_witness.proofs.marks.Marks.find.Goals as goal

pub returns : goal.returns
returns c history def there stands =
    let before : StandsFor _ history = subst (λ (marks : MarksValue). StandsFor marks history) (sym c.self.view_is) stands in
    let def_there : slice_get c.self.inside.queries.value.items c.args.query ≡ Some def =
    ap (λ (marks : MarksValue). slice_get marks.queries c.args.query) c.self.view_is ∙ there in
    let found = c.in_ok-def.ensures.lookup in
    let queries_are : c.deref-2.result.now ≡ c.self.inside.queries.value.items =
    c.deref-2.ensures.value ∙ ap (λ queries. queries.items) c.deref.ensures in
    let def_is : slice_get c.self.inside.queries.value.items c.args.query ≡ Some c.in_ok-def.def.now =
    subst (λ (queries : List Query). slice_get queries c.args.query ≡ Some c.in_ok-def.def.now) queries_are
    (slice_get_read c.deref-2.result.now (length c.deref-2.result.now) c.args.query c.in_ok-def.def.now refl found.3.0 found.1) in
    let some : 0 < c.in_ok-def.def.now.window.slide = search rules in
    found_is _ history c.args.edge.now c.args.query def c.kept_mark.result c.mark_above.result before def_there
    (subst (λ (query : Query). 0 < query.window.slide) (same_Some _ _ (sym def_is ∙ def_there)) some) c.kept_mark.ensures c.mark_above.ensures
