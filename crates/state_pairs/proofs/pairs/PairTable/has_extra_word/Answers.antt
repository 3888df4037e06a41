use Rattle.std.proofs.Common.{◌≡◌, ℕ, ◌<◌, length, None, sym, ap, ◌∙◌, subst, arith}
use Rattle.std.proofs.lemmas.List.{get_or_read}
use Rattle.std.specs.Prelude.{◌↔◌, IsTrue, IfSome, is_some, unwrap_or}
use Rattle.dfa_table.specs.DfaValue.{DfaValue}
use Rattle.state_pairs.specs.Goals.{level_at}
use Rattle.state_pairs.specs.PairGraph.{number_of, pair_of}
use Rattle.state_pairs.specs.Pairs.{HasExtraWord}
use Rattle.state_pairs.proofs.Extra.{node_within, level_tells}
use Rattle.state_pairs.proofs.pairs.PairTable.has_extra_word.Goals as goal

pub returns : goal.returns
returns c =
    let dfa = c.self.inside.dfa.now in
    let levels = c.self.inside.levels.items in
    let first = c.args.first in
    let second = c.args.second in
    let same : c.args.self.now ≡ dfa = sym c.self.view_is in
    let at : c.pair.result ≡ pair_of dfa (number_of dfa first) second =
    c.pair.ensures ∙ ap (λ (n : ℕ). pair_of dfa n second) (c.unwrap_or-first.ensures ∙ ap (unwrap_or first) c.states.ensures.number) in
    let within = subst (λ (d : DfaValue). IfSome first (λ state. state < length d.rows)) same c.requires.first in
    let below = subst (λ (d : DfaValue). second < length d.rows) same c.requires.second in
    let inside : c.pair.result < length levels = omega (arith, at, node_within dfa first second within below, c.self.invariant.as_many) in
    let is : c.is_some.result ≡ is_some (level_at levels (pair_of dfa (number_of dfa first) second)) =
    c.is_some.ensures ∙ (ap is_some (get_or_read levels c.pair.result c.index.result.now inside c.index.ensures None) ∙ ap (λ (n : ℕ). is_some (level_at levels n)) at) in
    let tells = level_tells dfa levels first second c.states.ensures.valid c.self.invariant within below in
    subst (λ (d : DfaValue). IsTrue c.is_some.result ↔ HasExtraWord d first second) (sym same)
    ((λ some. tells.0 (sym is ∙ some)), (λ extra. is ∙ tells.1 extra))
