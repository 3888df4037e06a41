use Rattle.std.proofs.Common.{◌≡◌, ℕ, ◌<◌, length, List, Option, sym, ap, ◌∙◌, subst}
use Rattle.std.specs.Prelude.{IfOk, IfSome, unwrap_or}
use Rattle.std.proofs.lemmas.Option.{none-some}
use Rattle.std.proofs.lemmas.Result.{IfOk-weaker}
use Rattle.dfa_table.specs.DfaValue.{DfaValue}
use Rattle.state_pairs.specs.Goals.{level_at, IsLeastWord}
use Rattle.state_pairs.specs.PairGraph.{number_of, pair_of, pair_graph}
use Rattle.state_pairs.specs.Pairs.{HasExtraWord, IsLeastExtra}
use Rattle.state_pairs.proofs.Paired.{pairs_stay}
use Rattle.state_pairs.proofs.Extra.{level_of_extra, least_of_pairs}
use Rattle.state_pairs.proofs.pairs.PairTable.least_extra_word.Goals as goal

pub least_word-requires-clause-within : goal.least_word-requires-clause-within
least_word-requires-clause-within c = pairs_stay c.self.inside.dfa.now c.states.ensures.valid

pub least_word-requires-clause-some : goal.least_word-requires-clause-some
least_word-requires-clause-some c = λ none.
    let dfa = c.self.inside.dfa.now in
    let levels = c.self.inside.levels.items in
    let first = c.args.first in
    let second = c.args.second in
    let same : c.args.self.now ≡ dfa = sym c.self.view_is in
    let at : c.pair-node.result ≡ pair_of dfa (number_of dfa first) second =
    c.pair-node.ensures ∙ ap (λ (n : ℕ). pair_of dfa n second) (c.unwrap_or-first.ensures ∙ ap (unwrap_or first) c.states.ensures.number) in
    let within = subst (λ (d : DfaValue). IfSome first (λ state. state < length d.rows)) same c.requires.first in
    let below = subst (λ (d : DfaValue). second < length d.rows) same c.requires.second in
    let extra = subst (λ (d : DfaValue). HasExtraWord d first second) same c.requires.some in
    let level = level_of_extra dfa levels first second c.states.ensures.valid c.self.invariant within below extra in
    none-some level.0 (sym none ∙ (ap (λ (all : List (Option ℕ)). level_at all c.pair-node.result) c.deref.ensures.value ∙ (ap (level_at levels) at ∙ level.1)))

pub returns : goal.returns
returns c =
    let dfa = c.self.inside.dfa.now in
    let first = c.args.first in
    let second = c.args.second in
    let same : c.args.self.now ≡ dfa = sym c.self.view_is in
    let at : c.pair-node.result ≡ pair_of dfa (number_of dfa first) second =
    c.pair-node.ensures ∙ ap (λ (n : ℕ). pair_of dfa n second) (c.unwrap_or-first.ensures ∙ ap (unwrap_or first) c.states.ensures.number) in
    let below = subst (λ (d : DfaValue). second < length d.rows) same c.requires.second in
    subst (λ (d : DfaValue). IfOk c.least_word.result (λ numbers. IsLeastExtra d first second numbers.items)) (sym same)
    (IfOk-weaker c.least_word.result _ _
    (λ numbers least. least_of_pairs dfa first second numbers.items c.states.ensures.valid below (subst (λ (node : ℕ). IsLeastWord (pair_graph dfa) node numbers.items) at least))
    c.least_word.ensures)
