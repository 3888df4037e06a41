use Rattle.std.proofs.Common.{rules, ◌∙◌}
use Rattle.std.proofs.lemmas.Fn.{always_returns_same}
use Rattle.end_events.specs.Order.{numbered_cmp}
use Rattle.end_events.proofs.Numbered.{found_by_search}
use Rattle.end_events.proofs.events.is_among.Goals as goal

pub returns : goal.returns
returns c =
    let names = c.args.names.now in
    let one = c.args.pair.now in
    c.is_ok.ensures.value
    ∙ found_by_search names c.binary_search_by-found.result c.args.others.now one
    c.requires.numbered c.requires.others_numbered c.requires.sorted
    (c.binary_search_by-found.ensures.position (λ each. numbered_cmp names each one)
    (always_returns_same _ _ _ (λ a r f' k. search rules)))
    c.binary_search_by-found.ensures.bound
