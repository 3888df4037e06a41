use Rattle.std.proofs.Common.{ℕ, List, Option, Vec, Global, IfOk, sym, ap, subst, ◌∙◌}
use Rattle.rpq_base.specs.declared.data.Edge.{Edge}
use Rattle.rpq_base.specs.declared.data.Entry.{Entry}
use Rattle.rpq_base.specs.declared.data.Pair.{Pair}
use Rattle.rpq_model.specs.declared.mode.Mode.{Mode}
use Rattle.delta_forest.specs.Forest.{ForestValue}
use Rattle.end_events.specs.Changes.{counts}
use Rattle.query_index.specs.Index.{IsIndexFor}
use Rattle.query_index.specs.Paths.{ShowsEnd, ShowsPair}
use Rattle.query_index.proofs.BestPaths.{none_counted, none_unnumbered, shows}
use Rattle.query_index.proofs.Outcomes.{if_ok_map}
use Rattle.query_index.proofs.index.QueryIndex.best_path.Goals as goal

pub returns-in_default : goal.returns-in_default
returns-in_default c =
    none_unnumbered c.kept_is_best.ensures c.index_tells_answers.ensures
    c.paths_by_numbers.ensures.answers c.args.query.now c.args.names.now c.args.self.now
    c.mode_of-mode.ensures.slide c.mode_of-mode.ensures.compiled
    (record { from = c.args.from.now; to = c.args.to.now }) c.in_default.ensures.none

pub returns-then-not-counts : goal.returns-then-not-counts
returns-then-not-counts c =
    none_counted c.kept_is_best.ensures c.index_tells_answers.ensures
    c.paths_by_numbers.ensures.answers c.args.query.now c.args.names.now c.args.self.now
    c.mode_of-mode.ensures.slide c.mode_of-mode.ensures.compiled
    (record { from = c.args.from.now; to = c.args.to.now }) c.in-Some.ends.from c.in-Some.ends.to
    c.in-Some.ensures.some
    (ap (λ (mode : Mode). counts mode c.in-Some.ends.from c.in-Some.ends.to)
    (sym {A = Mode} c.mode_of-mode.ensures.is)
    ∙ (sym c.counts.ensures ∙ c.if-not-counts.true))

pub returns : goal.returns
returns c =
    let query = c.args.query.now in
    let names = c.args.names.now in
    let index = c.args.self.now in
    let ends = c.in-Some.ends in
    let pair : Pair = record { from = c.args.from.now; to = c.args.to.now } in
    if_ok_map (ShowsEnd names index.forest ends.from ends.to)
    (λ (found : Option (Vec Edge Global)). (history : List Entry) (fed : ℕ) →
    IsIndexFor query history fed names index → ShowsPair query.def history pair found)
    (λ found end. shows c.kept_is_best.ensures c.index_tells_answers.ensures
    c.paths_by_numbers.ensures.answers query names index c.mode_of-mode.ensures.slide
    c.mode_of-mode.ensures.compiled pair ends.from ends.to c.in-Some.ensures.some
    (ap (λ (mode : Mode). counts mode ends.from ends.to) (sym {A = Mode} c.mode_of-mode.ensures.is)
    ∙ (sym c.counts.ensures ∙ c.if-not-counts.false)) found end)
    c.path_between.result
    (subst (λ (forest : ForestValue).
    IfOk c.path_between.result (ShowsEnd names forest ends.from ends.to)) c.trees.ensures
    c.path_between.ensures)
