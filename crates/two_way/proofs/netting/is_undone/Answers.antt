use Rattle.std.proofs.Common.{rules, sym, ◌∙◌}
use Rattle.std.proofs.lemmas.Fn.{always_returns_same}
use Rattle.two_way.specs.Differences.{event_cmp}
use Rattle.two_way.specs.Net.{opposite}
use Rattle.two_way.proofs.Staying.{found_by_search}
use Rattle.two_way.proofs.netting.is_undone.Goals as goal

pub returns : goal.returns
returns c =
    let one = opposite c.args.event.now in
    let search_is = c.is_ok.ensures.value in
    let finds = found_by_search c.binary_search_by-found.result c.args.others.now one c.requires
    (c.binary_search_by-found.ensures.position (λ each. event_cmp each one) (always_returns_same _ _ _ (λ a r f' k. search rules)))
    c.binary_search_by-found.ensures.bound in (
      (λ e. finds.0 (sym search_is ∙ e)),
      (λ member. search_is ∙ finds.1 member),
    )
