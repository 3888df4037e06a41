use Rattle.std.proofs.Common.{◌≡◌, ℕ, Bool, true, false, Option, [], None, cond, refl, sym, ap, ◌∙◌}
use Rattle.std.specs.Map.{lookup}
use Rattle.std.specs.Option.{option_map_or}
use Rattle.edge_store.specs.Edges.{same_half}
use Rattle.edge_store.proofs.edge_map.EdgeMap.take.Goals as goal
use Rattle.edge_store.proofs.edge_map.EdgeMap.take.Goals.{in-Some, in-None}

-- nothing is taken from nothing
none_left : (taken : Bool) (nothing : Option ℕ) → nothing ≡ None → nothing ≡ cond taken None nothing
none_left true nothing none = none
none_left false nothing none = refl

pub returns-clause-rest : goal.returns-clause-rest
returns-clause-rest c other = elim c.match-self.branch [
  | in-Some w ↦
      ap (λ inside. lookup (same_half other)
      (option_map_or (λ boxed. boxed.value.entries) inside.table [])) w.self-inside-is
      ∙ w.take.ensures.rest other
      ∙ ap (λ entries. cond (same_half c.args.half other) None (lookup (same_half other) entries))
      (ap (λ map. map.entries) w.deref_mut.ensures.value
      ∙ sym (ap (λ map. option_map_or (λ boxed. boxed.value.entries) map []) w.in-Some.is)
      ∙ ap (λ row. row.entries) c.self.view_is)
  | in-None w ↦
      ap (λ inside. lookup (same_half other)
      (option_map_or (λ boxed. boxed.value.entries) inside.table [])) w.self-inside-is
      ∙ ap (λ map. lookup (same_half other)
      (option_map_or (λ boxed. boxed.value.entries) map [])) w.in-None.is
      ∙ none_left (same_half c.args.half other) None refl
      ∙ ap (λ entries. cond (same_half c.args.half other) None (lookup (same_half other) entries))
      (sym (ap (λ map. option_map_or (λ boxed. boxed.value.entries) map []) w.in-None.is)
      ∙ ap (λ row. row.entries) c.self.view_is)
]
