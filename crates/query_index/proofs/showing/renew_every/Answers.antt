use Rattle.std.proofs.Common.{◌≡◌, ℕ, ◌+◌, ◌≤◌, ◌⊎◌, inl, inr, ⊎_elim, arith}
use Rattle.std.proofs.lemmas.Bool.{cases_eq}
use Rattle.query_index.specs.Shown.{IsStale}
use Rattle.query_index.specs.declared.stale.StaleRoots.TheVariants.{Every}
use Rattle.query_index.proofs.Shown.{have_shown, renewed_more, show_all_but}
use Rattle.query_index.proofs.showing.renew_every.Goals as goal

pub loop-root-init : goal.loop-root-init
loop-root-init c =
    show_all_but c.args.mode c.args.names.now c.args.forest.now (IsStale Every)
    (λ (each : ℕ). 0 ≤ each) c.args.rows.now (λ each within stale. omega arith) c.requires.rows

-- this root or a later one
this_or_later : (root each : ℕ) → root ≤ each → (each ≡ root) ⊎ (root + 1 ≤ each)
this_or_later root each from = ⊎_elim
    (λ (same : each ≡ root). inl same)
    (λ differ. inr (omega (arith, from, differ)))
    (cases_eq each root)

pub loop-root-preserved : goal.loop-root-preserved
loop-root-preserved c =
    let root = c.loop-root.root in
    renewed_more c.args.mode c.args.names.now c.args.forest.now (λ (each : ℕ). root ≤ each)
    (λ (each : ℕ). root + 1 ≤ each) root c.loop-root.rows c.renew.new.rows
    (λ each from. this_or_later root each from) c.loop-root.invariant c.in_ok-renew.ensures

pub returns : goal.returns
returns c =
    have_shown c.args.mode c.args.names.now c.args.forest.now
    (λ (each : ℕ). c.loop-root.root ≤ each) c.loop-root.rows
    (λ each within past. omega (arith, c.requires.named, c.loop-root-test.false, within, past))
    c.loop-root.invariant
