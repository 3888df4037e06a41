use Rattle.std.proofs.Common.{◌≡◌, ◌==◌, ℕ, List, sym, ◌∙◌}
use Rattle.std.specs.Cmp.{nat_eq_equiv}
use Rattle.std.specs.List.{list_any}
use Rattle.std.proofs.lemmas.Map.Views.{Contains-from_any, list_any-from_Contains, exact_unsigned_eq}
use Rattle.source_tree.proofs.reached.is_among.Goals as goal

-- the test in its other order
turned : (finals : List ℕ) (state : ℕ) →
    list_any (λ (each : ℕ). each == state) finals ≡ list_any (λ (each : ℕ). state == each) finals
turned finals state = λ i. list_any (λ (each : ℕ). nat_eq_equiv.symm each state i) finals

pub returns : goal.returns
returns c =
    let value = c.contains.ensures.value ∙ turned c.args.finals.now c.args.state in (
      (λ passed. Contains-from_any exact_unsigned_eq c.args.state c.args.finals.now
          (sym value ∙ passed)),
      (λ there. value
          ∙ list_any-from_Contains nat_eq_equiv c.args.state c.args.finals.now there),
    )
