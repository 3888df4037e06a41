use Rattle.std.proofs.Common.{◌≡◌, Some, List, ℕ, get_or, ap, sym, subst, ◌∙◌}
use Rattle.std.specs.List.{IsDistinct}
use Rattle.std.proofs.lemmas.Option.{slice_get-get_or}
use Rattle.rpq_base.specs.Same.{same_name}
use Rattle.name_table.proofs.Numbers.{number_at}
use Rattle.name_table.proofs.names.Names.name_of.Goals as goal

pub returns-clause-number : goal.returns-clause-number
returns-clause-number c =
    let name : List ℕ = c.index-as_slice-number.result in
    let all : c.as_slice.result.now ≡ c.args.self.now = c.as_slice.ensures ∙ c.keys.ensures.rest ∙ c.self.view_is in
    number_at c.args.self.now c.args.number name
    (subst (IsDistinct same_name) c.self.view_is c.self.invariant.0.apart)
    (slice_get-get_or c.args.self.now c.args.number name c.requires
    ∙ ap (λ (each : List ℕ). Some each)
    (ap (λ (names : List (List ℕ)). get_or names c.args.number name) (sym all) ∙ sym c.index-as_slice-number.is))
