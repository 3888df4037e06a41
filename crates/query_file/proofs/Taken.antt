-- Names that are taken.
use Rattle.std.proofs.Common.{◌↔◌, ℕ, IsTrue, List, [], ◌∷◌, inl, inr, map}
use Rattle.std.specs.List.{list_any}
use Rattle.std.proofs.lemmas.Bool.{false≢true, or_cases, or_left, or_right}
use Rattle.rpq_base.specs.Same.{same_name}
use Rattle.rpq_base.proofs.Equality.{names}
use Rattle.rpq_base.proofs.Members.{cons_members, none_in}
use Rattle.query_file.specs.Compiled.{CompiledValue}
use Rattle.query_file.specs.InOrder.{IsTaken}

-- a name is taken where the test finds a query with it
pub taken_is : (name : List ℕ) (before : List CompiledValue) → IsTrue (list_any (λ each. same_name each.def.name name) before) ↔ IsTaken (map (λ each. each.def) before) name
taken_is name [] = (λ e. absurd (false≢true e), λ has. absurd (none_in name has))
taken_is name (first ∷ before) =
    let later = taken_is name before in
    let members = cons_members first.def.name (map (λ query. query.name) (map (λ (each : CompiledValue). each.def) before)) name in
    let here = names first.def.name name in (
      λ found. elim (or_cases (same_name first.def.name name) (list_any (λ (each : CompiledValue). same_name each.def.name name) before) found) [
        | inl is ↦ members.1 (inl (here.0 is))
        | inr is ↦ members.1 (inr (later.0 is))
      ],
      λ has. elim (members.0 has) [
        | inl is ↦ or_left (same_name first.def.name name) (list_any (λ (each : CompiledValue). same_name each.def.name name) before) (here.1 is)
        | inr is ↦ or_right (same_name first.def.name name) (list_any (λ (each : CompiledValue). same_name each.def.name name) before) (later.1 is)
      ],
    )
