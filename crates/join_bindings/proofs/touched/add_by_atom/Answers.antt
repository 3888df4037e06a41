use Rattle.std.proofs.Common.{ℕ, List, sym, subst, inl, inr, ⊎_elim}
use Rattle.std.specs.Prelude.{Contains}
use Rattle.std.proofs.lemmas.List.Elements.{Contains-append_left, Contains-append_right, Contains-append_cases}
use Rattle.join_bindings.proofs.touched.add_by_atom.Goals as goal

pub returns-in_ok-append : goal.returns-in_ok-append
returns-in_ok-append c = λ names.
    let old = c.args.found.now.items in
    let more = c.in_ok-more.more.items in
    let items = c.in_ok-append.ensures.items in
    let through = c.in_ok-more.ensures names in (
      (λ member. ⊎_elim
          (λ before. inl before)
          (λ new. inr (record { query = c.if-atom-event.true; is = through.0 new }))
          (Contains-append_cases old more names (subst (λ (list : List (List (List ℕ))). Contains list names) items member))),
      (λ either. subst (λ (list : List (List (List ℕ))). Contains list names) (sym items) (⊎_elim
          (λ before. Contains-append_left old more names before)
          (λ new. Contains-append_right old more names (through.1 new.is))
          either)),
    )
