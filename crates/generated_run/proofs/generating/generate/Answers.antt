use Rattle.std.proofs.Common.{◌≡◌, ℕ, min, Option, map, sym, subst, ◌∙◌, arith}
use Rattle.std.specs.Prelude.{⊤}
use Rattle.std.specs.Global.{Vec}
use Rattle.std.proofs.lemmas.Result.{on_err_weaker, on_ok_weaker}
use Rattle.standing.specs.Circles.{Parts, as_seen}
use Rattle.tuple_generator.specs.Generator.{generated_history}
use Rattle.generated_run.specs.Generates.{AreTold, Generates, queries_of}
use Rattle.generated_run.proofs.Running.{generates}
use Rattle.generated_run.proofs.generating.generate.Goals as goal

pub returns : goal.returns
returns g c =
    let seen = g.O.Standing.seen in
    let task = c.args.task in
    let made = c.run.new.entries.count in
    let last = c.run.new.counts.circle in
    let wanted : c.run.new.entries.wanted ≡ min task.count task.limit =
    c.run.ensures.wanted ∙ (c.new-entries.ensures.wanted ∙ c.min.ensures) in
    let told_of : (whole : Type 0) →
    AreTold task.two_way (queries_of task) (generated_history made)
    (map seen c.new-counts.result.circle.members) whole (as_seen seen last) →
    AreTold task.two_way (queries_of task) (generated_history made)
    (map seen c.args.circle.members) whole (as_seen seen last) =
    λ whole told. subst (λ (circle : Parts _). AreTold task.two_way (queries_of task)
    (generated_history made) (map seen circle.members) whole (as_seen seen last))
    c.new-counts.ensures.circle told in
    subst (λ (summary : Option (Vec ℕ)). Generates seen task c.args.circle
    (record { history = c.into_entries.result; summary = summary; circle = last }))
    (sym c.ok-summary.ensures.value)
    (generates seen task c.args.circle last c.into_entries.result made
    c.into_entries.ensures.entries (omega (arith, c.into_entries.ensures.within, wanted))
    c.run.result (on_ok_weaker c.run.result (λ is. is ∙ wanted) c.run.ensures.all)
    (on_ok_weaker c.run.result (told_of ⊤) c.run.ensures.told)
    (on_err_weaker c.run.result (told_of ⊥) c.run.ensures.part) c.run.ensures.summary)
