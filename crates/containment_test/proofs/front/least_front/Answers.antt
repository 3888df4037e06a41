use Rattle.std.proofs.Common.{◌≡◌, Some, None, sym, ap, ◌∙◌, rules}
use Rattle.state_pairs.specs.Goals.{level_at}
use Rattle.std.proofs.lemmas.Option.{none-some, same_Some}
use Rattle.dfa_table.specs.Runs.{walk}
use Rattle.containment_test.proofs.Loops.{walk_of_goal}
use Rattle.containment_test.specs.Needed.{needed_at}
use Rattle.containment_test.specs.declared.needed.NeededLabel.{NeededLabel}
use Rattle.containment_test.proofs.front.least_front.Goals as goal

no_needed : (needed : NeededLabel) → None ≡ Some needed → ⊥
no_needed needed e = cc

pub levels-requires-clause-within : goal.levels-requires-clause-within
levels-requires-clause-within c = λ node label next leads. (c.requires.valid.targets node label next leads).1

pub least_word-requires-clause-within : goal.least_word-requires-clause-within
least_word-requires-clause-within c = λ node label next leads. (c.requires.valid.targets node label next leads).1

pub returns-then-is_none-clause-none : goal.returns-then-is_none-clause-none
returns-then-is_none-clause-none c = λ word reaches.
    let none : level_at c.in_ok-levels.levels.items 0 ≡ None = search rules in
    let has = c.in_ok-levels.ensures.least 0 word c.requires.valid.some reaches in
    none-some has.0 (sym none ∙ has.1)

pub returns-in_default-clause-none : goal.returns-in_default-clause-none
returns-in_default-clause-none c = λ word reaches.
    let dfa = c.args.dfa.now in
    let to = walk_of_goal c.in_ok-word.word.items dfa c.args.needed.now 0 c.in_ok-word.ensures.reaches in
    let none : walk dfa 0 c.in_ok-word.word.items ≡ None = search rules in
    none-some to.0 (sym none ∙ to.1)

pub returns-clause-none : goal.returns-clause-none
returns-clause-none c = λ word reaches.
    let dfa = c.args.dfa.now in
    let needed = c.args.needed.now in
    let to = walk_of_goal c.in_ok-word.word.items dfa needed 0 c.in_ok-word.ensures.reaches in
    let end : walk dfa 0 c.in_ok-word.word.items ≡ Some c.in-Some.state = search rules in
    let same : to.0 ≡ c.in-Some.state = same_Some to.0 c.in-Some.state (sym to.1 ∙ end) in
    let none : needed_at needed c.in-Some.state ≡ None = search rules in
    no_needed to.2.0 (sym none ∙ (ap (needed_at needed) (sym same) ∙ to.2.1))
