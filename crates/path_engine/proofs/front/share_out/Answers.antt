use Rattle.std.proofs.Common.{◌≡◌, ◌++◌, List, length, take, drop, sym, ap, subst, ◌∙◌}
use Rattle.std.proofs.lemmas.List.Sorted.{All-permutation}
use Rattle.std.specs.List.Sorted.{IsPermutation}
use Rattle.path_engine.specs.declared.parts.Part.{Part}
use Rattle.path_engine.specs.Front.{IsFed, IsReady}
use Rattle.path_engine.specs.Parts.{AreReadyParts, HaveFedParts, shares_in}
use Rattle.path_engine.proofs.Dealing.{all_in_part, fed_in_order, parts_in_step}
use Rattle.path_engine.proofs.Each.{written_back}
use Rattle.path_engine.proofs.front.share_out.Goals as goal

pub feed_parts-requires-clause-ready : goal.feed_parts-requires-clause-ready
feed_parts-requires-clause-ready g c κs within =
    let more = length c.args.entries.now in
    let names = c.args.names.now in
    let queries = c.args.queries.now in
    let parts = c.in_ok-parts.parts.items in
    let ready = All-permutation (IsReady more queries names) c.args.shares.items (shares_in parts)
    c.in_ok-parts.ensures c.requires.ready in
    subst (AreReadyParts more queries names) (sym {A = List Part} c.deref_mut.ensures.value)
    (λ place part below is.
    all_in_part (IsReady more queries names) parts place part ready below is)

pub returns : goal.returns
returns g c =
    let queries = c.args.queries.now in
    let names = c.args.names.now in
    let entries = c.args.entries.now in
    let parts = c.in_ok-parts.parts in
    let news : List Part = c.feed_parts.new.parts in
    let same : c.deref_mut.result.now ≡ parts.items = c.deref_mut.ensures.value in
    let long : length news ≡ length parts.items =
    c.feed_parts.auto.parts ∙ ap (λ (all : List Part). length all) same in
    let back : take parts.len (news ++ drop (length news) parts.items) ≡ news =
    written_back news parts.items parts.len long parts.ok.0 in
    let fed = subst (λ (olds : List Part). HaveFedParts queries names entries olds news) same
    c.feed_parts.ensures in
    fed_in_order queries names entries c.args.shares.items (shares_in parts.items)
    (shares_in news) c.in_ok-fed.fed.items c.requires.places c.in_ok-parts.ensures
    (parts_in_step (IsFed queries names entries) parts.items news long fed)
    (subst (λ (all : List Part). IsPermutation (shares_in all) c.in_ok-fed.fed.items) back
    c.in_ok-fed.ensures.same) c.in_ok-fed.ensures.sorted
