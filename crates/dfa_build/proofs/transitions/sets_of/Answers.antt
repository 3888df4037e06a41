use Rattle.std.proofs.Common.{◌≡◌, ℕ, ◌<◌, List, [], length, get_or, map, Vec, Global, subst, sym, ◌∙◌, rules, arith}
use Rattle.std.specs.Prelude.{◌↔◌, All, Contains, IsTrue}
use Rattle.std.proofs.lemmas.List.Elements.{All-get_or}
use Rattle.std.proofs.lemmas.List.{length-map}
use Rattle.dfa_build.specs.PositionSet.{has}
use Rattle.dfa_build.proofs.Filling.{items_at, right_more}
use Rattle.dfa_build.proofs.transitions.sets_of.Goals as goal

pub set_of-requires : goal.set_of-requires
set_of-requires c =
    let items : Vec ℕ Global → List ℕ = λ row. row.items in
    let rows = c.args.rows.now in
    let place = c.loop-row.row-index in
    let few : List ℕ → Type 0 = All (λ (place : ℕ). place < 64) in
    let within : place < length (map items rows) = omega (arith, length-map rows items, c.loop-row-test.true) in
    subst few (items_at items rows place c.row-item.result c.loop-row-test.true c.row-item.is ∙ sym c.deref.ensures.value)
    (All-get_or few (map items rows) place [] within c.requires)

pub loop-row-preserved : goal.loop-row-preserved
loop-row-preserved c =
    let items : Vec ℕ Global → List ℕ = λ row. row.items in
    let rows = c.args.rows.now in
    let place = c.loop-row.row-index in
    let here : get_or (map items rows) place [] ≡ c.deref.result.now = items_at items rows place c.row-item.result c.loop-row-test.true c.row-item.is ∙ sym c.deref.ensures.value in
    record {
      as_many = search rules;
      members = right_more (λ (place position : ℕ). Contains (get_or (map items rows) place []) position) c.loop-row.sets.items c.push.new.self.items c.set_of.result place
          c.loop-row.invariant.as_many c.in_ok-push.ensures.items c.loop-row.invariant.members
          (λ position. let P : List ℕ → Type 0 = λ list. IsTrue (has c.set_of.result position) ↔ Contains list position in subst P (sym here) (c.set_of.ensures position));
    }
