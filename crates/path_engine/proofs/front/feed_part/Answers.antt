use Rattle.std.proofs.Common.{◌≡◌, ◌<◌, ℕ, List, length, get_or, slice_index_or}
use Rattle.std.proofs.Common.{sym, ap, subst, ◌∙◌, arith, length-set, get_or-set_other}
use Rattle.std.proofs.lemmas.List.{get_or_default}
use Rattle.path_engine.specs.declared.front.Share.{Share}
use Rattle.path_engine.specs.Front.{HaveFed, IsFed, IsReady}
use Rattle.path_engine.proofs.Dealing.{zip_from_each}
use Rattle.path_engine.proofs.Each.{written_back}
use Rattle.path_engine.proofs.Fronts.{each_more}
use Rattle.path_engine.proofs.front.feed_part.Goals as goal

pub loop-share-init : goal.loop-share-init
loop-share-init g c =
    let same = c.deref_mut-share-items.ensures.value in
    record {
      as_many = ap (λ (all : List Share). length all) same;
      left = λ k d after. ap (λ (all : List Share). get_or all k d) same;
      fed = λ k d below. absurd (omega (arith, below));
    }

pub feed_one-requires-clause-ready : goal.feed_one-requires-clause-ready
feed_one-requires-clause-ready g c κs within =
    let place = c.loop-share.share-index in
    let found = c.share-item.result in
    let was = c.loop-share.invariant in
    let old_is : slice_index_or c.loop-share.share-items place found
    ≡ get_or c.args.shares.now.items place found = was.left place found (omega arith) in
    subst (IsReady (length c.args.entries.now) c.args.queries.now c.args.names.now)
    (sym {A = Share} old_is)
    (c.requires.ready place found (omega (arith, was.as_many, c.loop-share-test.true)))

pub loop-share-preserved : goal.loop-share-preserved
loop-share-preserved g c =
    let queries = c.args.queries.now in
    let names = c.args.names.now in
    let entries = c.args.entries.now in
    let olds = c.args.shares.now.items in
    let current = c.loop-share.share-items in
    let place = c.loop-share.share-index in
    let found = c.share-item.result in
    let was = c.loop-share.invariant in
    let new = c.feed_one.new.share in
    let inside : place < length current = omega (arith, c.loop-share-test.true) in
    let here : (d : Share) → IsFed queries names entries (get_or olds place d) new =
    λ d.
    subst (λ (old : Share). IsFed queries names entries old new)
    (get_or_default current place found d inside ∙ was.left place d (omega arith))
    c.feed_one.ensures in
    record {
      as_many = length-set current place new ∙ was.as_many;
      left = λ k d after.
          get_or-set_other current place k new d (λ same. omega (arith, same, after))
          ∙ was.left k d (omega (arith, after));
      fed = each_more (λ (k : ℕ) (old now : Share). IsFed queries names entries old now)
          olds current place new inside here was.fed;
    }

pub returns : goal.returns
returns g c =
    let queries = c.args.queries.now in
    let names = c.args.names.now in
    let entries = c.args.entries.now in
    let olds = c.args.shares.now.items in
    let news = c.loop-share.share-items in
    let was = c.loop-share.invariant in
    subst (HaveFed queries names entries olds)
    (sym {A = List Share}
    (written_back news olds c.args.shares.now.len was.as_many c.args.shares.now.ok.0))
    (zip_from_each (IsFed queries names entries) olds news was.as_many
    (λ k d below.
    was.fed k d (omega (arith, below, was.as_many, c.loop-share-test.false))))
