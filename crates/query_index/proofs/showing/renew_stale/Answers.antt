use Rattle.std.proofs.Common.{ℕ, List, Contains, sym, subst}
use Rattle.query_index.specs.Shown.{IsStale, ShowAllBut}
use Rattle.query_index.specs.declared.stale.StaleRoots.{StaleRoots}
use Rattle.query_index.proofs.showing.renew_stale.Goals as goal

pub renew_every-requires-clause-rows : goal.renew_every-requires-clause-rows
renew_every-requires-clause-rows c =
    subst (λ (stale : StaleRoots). ShowAllBut (IsStale stale) c.args.mode c.args.names.now
    c.args.forest.now c.args.rows.now) c.in-Every.is c.requires.rows

pub renew_each-requires-clause-rows : goal.renew_each-requires-clause-rows
renew_each-requires-clause-rows c =
    subst (λ (roots : List ℕ). ShowAllBut (Contains roots) c.args.mode c.args.names.now
    c.args.forest.now c.args.rows.now) (sym {A = List ℕ} c.as_slice.ensures)
    (subst (λ (stale : StaleRoots). ShowAllBut (IsStale stale) c.args.mode c.args.names.now
    c.args.forest.now c.args.rows.now) c.in-Roots.is c.requires.rows)
