use Rattle.std.proofs.Common.{◌≡◌, ℕ, ◌+◌, max, List, [], ◌∷◌, ◌++◌, length, sym, ap, subst, ◌∙◌, rules, length-append}
use Rattle.rpq_base.specs.declared.data.Entry.{Entry}
use Rattle.rpq_model.specs.Query.{Query}
use Rattle.rpq_model.proofs.Ticks.{clock_more}
use Rattle.path_witness.specs.Marks.{MarksValue, StandsFor, KeepFor}
use Rattle.path_witness.proofs.marks.Marks.take.Goals as goal

pub returns-clause-taken : goal.returns-clause-taken
returns-clause-taken c history stands =
    let entry = c.args.entry.now in
    let before : StandsFor _ history = subst (λ (marks : MarksValue). StandsFor marks history) (sym c.self.view_is) stands in
    let position : c.self.inside.taken + 1 ≡ length history + 1 = ap (λ (count : ℕ). count + 1) before.counted in
    let queries_are : c.self.inside.queries.value.items ≡ c.as_slice-queries.result.now = search rules in
    let kept = c.in_ok-take_one.ensures.taken history position
    (subst (λ (queries : List Query). KeepFor queries history c.self.inside.rows.entries) queries_are before.kept) in
    c.look_through.ensures.stands (history ++ entry ∷ []) (record {
      counted = position ∙ sym (length-append history (entry ∷ []));
      time = c.max-self-inside.ensures
          ∙ (ap (λ (each : Entry). max c.self.inside.clock each.tuple.time) c.entry.view_is
          ∙ (ap (λ (now : ℕ). max now entry.tuple.time) before.time ∙ sym (clock_more history entry)));
      kept = subst (λ (queries : List Query). KeepFor queries (history ++ entry ∷ []) c.take_one.new.rows.entries) (sym queries_are) kept;
    })
