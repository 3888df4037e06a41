use Rattle.std.proofs.Common.{rules, ◌≡◌, ℕ, List, length, sym, ap, subst, ◌∙◌}
use Rattle.std.specs.Prelude.{All}
use Rattle.rpq_model.specs.Query.{Query}
use Rattle.join_file.specs.Joins.{JoinValue}
use Rattle.join_file.specs.Sound.{IsSound}
use Rattle.reach_cases.proofs.Applying.{one_blank}
use Rattle.reach_cases.proofs.bindings.answer_bindings.Goals as goal

-- the joins are those of the file, and over one query
pub new-requires-2-clause-sound : goal.new-requires-2-clause-sound
new-requires-2-clause-sound g c =
    let found = c.in_ok-read_joins in
    let one : length c.in_ok-queries.queries.items ≡ 1 = search rules in
    let same : length c.deref-2.result.now ≡ 1 =
    ap (λ (queries : List Query). length queries) c.deref-2.ensures.value ∙ one in
    let shared : c.in_ok-try_clone.field-0.value.items ≡ found.field-0.items =
    ap (λ joins. joins.items) (c.in_ok-try_clone.ensures ∙ c.in_ok-defs.ensures.ok) in
    subst (λ (joins : List JoinValue). All (IsSound 1) joins) (sym shared)
    (subst (λ (number : ℕ). All (IsSound number) found.field-0.items) same found.ensures.sound)

pub apply_each-requires-clause-blank : goal.apply_each-requires-clause-blank
apply_each-requires-clause-blank g c =
    one_blank c.in_ok-joins.joins.pairs c.in_ok-joins.ensures.many c.in_ok-joins.ensures.blank
