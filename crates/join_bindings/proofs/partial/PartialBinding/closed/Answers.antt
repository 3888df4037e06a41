use Rattle.std.proofs.Common.{◌≡◌, ℕ, List, [], ◌∷◌, ◌++◌, take, Vec, Global, Option, sym, ap, subst, ◌∙◌}
use Rattle.std.specs.Option.{option_to_list}
use Rattle.std.proofs.lemmas.List.{take_all, append-nil}
use Rattle.join_bindings.specs.Partial.{Agrees}
use Rattle.join_bindings.proofs.Closed.{names_of, full_is, full_agrees, names_more}
use Rattle.join_bindings.proofs.partial.PartialBinding.closed.Goals as goal
use Rattle.join_bindings.proofs.partial.PartialBinding.closed.Goals.{in-Some+in_ok-copy+in_ok-push}
use Rattle.join_bindings.proofs.partial.PartialBinding.closed.Goals.{in_default}

pub loop-name-preserved : goal.loop-name-preserved
loop-name-preserved c =
    let bound = c.deref-name-items.result.now in
    let index = c.loop-name.name-index in
    let name = c.name-item.result in
    let list = c.loop-name.list.items in
    let more : c.match-name.list.items ≡ list ++ option_to_list name =
    elim c.match-name.branch [
      | in-Some+in_ok-copy+in_ok-push w ↦
          ap (λ (names : Vec (List ℕ) Global). names.items) w.list-is
          ∙ (w.in_ok-push.ensures.items
          ∙ (ap (λ (one : List ℕ). list ++ one ∷ []) w.in_ok-copy.ensures
          ∙ ap (λ (each : Option (List ℕ)). list ++ option_to_list each) (sym w.in-Some.is)))
      | in_default w ↦
          ap (λ (names : Vec (List ℕ) Global). names.items) w.list-is
          ∙ (sym (append-nil list) ∙ ap (λ (each : Option (List ℕ)). list ++ option_to_list each) (sym w.in_default.is))
    ] in
    more ∙ (ap (λ (names : List (List ℕ)). names ++ option_to_list name) c.loop-name.invariant ∙ names_more bound index name c.loop-name-test.true c.name-item.is)

pub returns : goal.returns
returns c =
    let bound = c.args.self.now in
    let all : take c.loop-name.name-index c.deref-name-items.result.now ≡ bound =
    take_all c.loop-name.name-index c.deref-name-items.result.now c.loop-name-test.false ∙ (c.deref-name-items.ensures.value ∙ c.self.view_is) in
    let list_is : c.loop-name.list.items ≡ names_of bound = c.loop-name.invariant ∙ ap names_of all in
    λ names. (
      (λ agree. list_is ∙ full_is bound names c.requires agree),
      (λ is. subst (Agrees bound) (sym list_is ∙ is) (full_agrees bound c.requires)),
    )
