use Rattle.std.proofs.Common.{◌≡◌, ℕ, suc, ◌-◌, List, [], ◌∷◌, ◌++◌, length, Some, sym, ap, ◌∙◌, subst, arith, append_assoc}
use Rattle.std.proofs.lemmas.List.{append-nil}
use Rattle.state_pairs.specs.Goals.{level_at, IsLeastWord}
use Rattle.state_pairs.specs.Rounds.{IsNearest}
use Rattle.state_pairs.proofs.Least.{goal_is_least, least_step, has_near}
use Rattle.state_pairs.proofs.search.least_word.Goals as goal

pub returns-in_default : goal.returns-in_default
returns-in_default g c =
    let graph = g.G.Graph.graph c.args.graph.now in
    let level = c.loop-level.level - 1 in
    let above : c.loop-level.level ≡ suc level = omega (arith, c.loop-level-test.true) in
    let near = has_near graph c.args.levels.now c.loop-level.node level c.requires.levels c.requires.within c.loop-level.invariant.below (c.loop-level.invariant.level ∙ ap (λ (n : ℕ). Some n) above) in
    absurd (c.in_default.ensures.none (record { label = near.0; next = near.1.0; within = near.1.1; leads = near.1.2; level = near.1.3 }))

pub loop-level-preserved : goal.loop-level-preserved
loop-level-preserved g c =
    let graph = g.G.Graph.graph c.args.graph.now in
    let levels = c.args.levels.now in
    let level = c.loop-level.level - 1 in
    let node = c.loop-level.node in
    let label = c.in-Some.label in
    let next = c.in-Some.next in
    let word = c.loop-level.word.items in
    let above : c.loop-level.level ≡ suc level = omega (arith, c.loop-level-test.true) in
    let nearest : IsNearest graph levels level node label next = c.in-Some.ensures.some in
    let is : level_at levels node ≡ Some (suc level) = c.loop-level.invariant.level ∙ ap (λ (n : ℕ). Some n) above in
    record {
      below = c.requires.within node label next nearest.leads;
      level = nearest.level;
      least = λ rest long least.
          let step = least_step graph levels node label next level rest c.requires.levels c.requires.within c.loop-level.invariant.below is nearest long least in
          let longer : length (label ∷ rest) ≡ c.loop-level.level = omega (arith, long, above) in
          let whole = c.loop-level.invariant.least (label ∷ rest) longer step in
          let same : word ++ label ∷ rest ≡ c.push.new.self.items ++ rest = sym (append_assoc word (label ∷ []) rest) ∙ ap (λ (front : List ℕ). front ++ rest) (sym c.in_ok-push.ensures.items) in
          subst (IsLeastWord graph c.args.from) same whole;
    }

pub returns : goal.returns
returns g c =
    let graph = g.G.Graph.graph c.args.graph.now in
    let none : c.loop-level.level ≡ 0 = omega (arith, c.loop-level-test.false) in
    let least = goal_is_least graph c.args.levels.now c.loop-level.node c.requires.levels (c.loop-level.invariant.level ∙ ap (λ (n : ℕ). Some n) none) in
    subst (IsLeastWord graph c.args.from) (append-nil c.loop-level.word.items) (c.loop-level.invariant.least [] (sym none) least)
