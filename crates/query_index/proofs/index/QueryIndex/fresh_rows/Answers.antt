use Rattle.std.proofs.Common.{List, sym, subst, ◌∙◌}
use Rattle.answer_rows.specs.Answers.{Answer}
use Rattle.query_index.specs.IndexValue.{IndexValue}
use Rattle.query_index.specs.Shown.{HasRows, IsStale, ShowAllBut}
use Rattle.query_index.specs.Showing.{HaveShown}
use Rattle.query_index.specs.declared.stale.StaleRoots.{StaleRoots}
use Rattle.query_index.proofs.Shown.{nothing_shown}
use Rattle.query_index.proofs.index.QueryIndex.fresh_rows.Goals as goal

pub renew_stale-requires-clause-rows : goal.renew_stale-requires-clause-rows
renew_stale-requires-clause-rows c =
    let names = c.args.names.now in
    let inside = c.self.inside in
    let has = subst (HasRows c.args.mode names) (sym c.self.view_is) c.requires.rows in
    subst (λ (stale : StaleRoots).
    ShowAllBut (IsStale stale) c.args.mode names inside.forest c.replace-rows.result)
    (sym {A = StaleRoots} c.replace-stale.ensures.value)
    (subst (λ (rows : List Answer).
    ShowAllBut (IsStale inside.stale) c.args.mode names inside.forest rows)
    (sym {A = List Answer} c.replace-rows.ensures.value) has.fresh)

pub returns-clause-kept : goal.returns-clause-kept
returns-clause-kept c =
    let names = c.args.names.now in
    let has = subst (HasRows c.args.mode names) (sym c.self.view_is) c.requires.rows in
    record {
      named = has.named;
      fresh = λ pair until fresh.
          subst (λ (rows : List Answer). HaveShown c.args.mode names c.self.inside.forest rows)
          (sym {A = List Answer} c.in_ok-self-inside.ensures) c.in_ok-renew_stale.ensures pair until;
    }

pub returns-clause-shown : goal.returns-clause-shown
returns-clause-shown c =
    subst (λ (index : IndexValue).
    HaveShown c.args.mode c.args.names.now index.forest c.renew_stale.new.rows) c.self.view_is
    c.in_ok-renew_stale.ensures

pub returns-then-named-eq0-clause-shown : goal.returns-then-named-eq0-clause-shown
returns-then-named-eq0-clause-shown c =
    let names = c.args.names.now in
    let forest = c.args.self.now.forest in
    subst (λ (rows : List Answer). HaveShown c.args.mode names forest rows)
    (sym {A = List Answer} c.new.ensures)
    (nothing_shown c.args.mode names forest (sym c.requires.named ∙ c.if-named-eq0.true))
