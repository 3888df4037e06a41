use Rattle.std.proofs.Common.{sym, subst}
use Rattle.rpq_model.specs.declared.mode.Mode.{Mode}
use Rattle.delta_forest.specs.Forest.{kept}
use Rattle.query_index.specs.Shown.{HasRows}
use Rattle.query_index.specs.Showing.{HaveShown}
use Rattle.query_index.proofs.Shown.{rows_of_query}
use Rattle.query_index.proofs.Still.{stands_still}
use Rattle.query_index.proofs.Stepping.{is_index}
use Rattle.query_index.proofs.index.QueryIndex.rows.Goals as goal

pub fresh_rows-requires-clause-rows : goal.fresh_rows-requires-clause-rows
fresh_rows-requires-clause-rows c =
    subst (λ (mode : Mode). HasRows mode c.args.names.now c.args.self.now)
    (sym {A = Mode} c.mode_of-mode.ensures.is) c.requires.index.is.rows

pub returns-in_err-rows-clause-kept : goal.returns-in_err-rows-clause-kept
returns-in_err-rows-clause-kept c =
    stands_still c.args.query.now c.args.names.now c.args.self.now c.fresh_rows.new.self
    c.fresh_rows.ensures.clock c.fresh_rows.ensures.forest
    (subst (λ (mode : Mode). HasRows mode c.args.names.now c.fresh_rows.new.self)
    c.mode_of-mode.ensures.is c.fresh_rows.ensures.kept)

pub returns-clause-kept : goal.returns-clause-kept
returns-clause-kept c =
    stands_still c.args.query.now c.args.names.now c.args.self.now c.fresh_rows.new.self
    c.fresh_rows.ensures.clock c.fresh_rows.ensures.forest
    (subst (λ (mode : Mode). HasRows mode c.args.names.now c.fresh_rows.new.self)
    c.mode_of-mode.ensures.is c.fresh_rows.ensures.kept)

pub returns-clause-rows : goal.returns-clause-rows
returns-clause-rows c = λ history fed is.
    let query = c.args.query.now in
    let index = c.args.self.now in
    let names = c.args.names.now in
    rows_of_query query.def history names index.forest c.in_ok-rows.rows
    (c.index_tells_answers.ensures query.def history names index.forest.dfa (kept index.forest)
    (is_index c.kept_is_best.ensures query history fed names index c.mode_of-mode.ensures.slide
    c.mode_of-mode.ensures.compiled is))
    c.count-count.ensures.sorted
    (subst (λ (mode : Mode). HaveShown mode names index.forest c.in_ok-rows.rows)
    c.mode_of-mode.ensures.is c.in_ok-rows.ensures.shown)
