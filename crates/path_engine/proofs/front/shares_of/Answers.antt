use Rattle.std.proofs.Common.{◌++◌, ◌∷◌, [], List, length, map, length-append}
use Rattle.std.proofs.Common.{sym, ap, ◌∙◌, append_assoc, arith}
use Rattle.std.proofs.lemmas.List.{length-map, map-append, append-nil}
use Rattle.query_index.specs.IndexValue.{IndexValue}
use Rattle.path_engine.specs.declared.front.Share.{Share}
use Rattle.path_engine.proofs.Fronts.{in_place_more, index_of, nothing_left}
use Rattle.path_engine.proofs.front.shares_of.Goals as goal

pub loop-index-init : goal.loop-index-init
loop-index-init c =
    let gives = c.into_iter-index-iterator.ensures.into_iter_gives in
    let none = c.in_ok-shares.ensures.items in (
      tt,
      tt,
      omega (arith, gives.1, ap length gives.0),
      ap (λ (shares : List Share). map index_of shares ++ c.into_iter-index-iterator.result.rest.items)
          none ∙ gives.0,
      omega (arith, ap (λ (shares : List Share). length shares) none),
      λ k d below. absurd (omega (arith, below, ap (λ (shares : List Share). length shares) none)),
    )

pub overflow_add-place : goal.overflow_add-place
overflow_add-place c =
    let was = c.loop-index.invariant in
    let shares = c.loop-index.shares.items in
    record {
      fits = omega (
        arith,
        c.requires.few,
        was.4,
        ap (λ (all : List IndexValue). length all) was.3,
        length-append (map index_of shares) c.loop-index.index-iterator.rest.items,
        length-map shares index_of,
      );
    }

pub loop-index-preserved : goal.loop-index-preserved
loop-index-preserved c =
    let was = c.loop-index.invariant in
    let steps = c.in-Some.ensures.steps in
    let shares = c.loop-index.shares.items in
    let rest = c.next.new.self.rest.items in
    let share = c.share_of-share.result in (
      tt,
      tt,
      omega (arith, was.2, steps.1, ap (λ (xs : List IndexValue). length xs) steps.0),
      ap (λ (all : List Share). map index_of all ++ rest) c.in_ok-push.ensures.items
          ∙ (ap (λ (all : List IndexValue). all ++ rest) (map-append index_of shares (share ∷ []))
          ∙ (append_assoc (map index_of shares) (share.index ∷ []) rest
          ∙ (ap (λ (each : IndexValue). map index_of shares ++ each ∷ rest)
          c.share_of-share.ensures.index
          ∙ (ap (λ (all : List IndexValue). map index_of shares ++ all) (sym steps.0) ∙ was.3)))),
      omega (
        arith,
        was.4,
        ap (λ (all : List Share). length all) c.in_ok-push.ensures.items,
        length-append shares (share ∷ []),
      ),
      in_place_more shares c.push.new.self.items share c.in_ok-push.ensures.items
          (c.share_of-share.ensures.place ∙ was.4) was.5,
    )

pub returns-clause-indexes : goal.returns-clause-indexes
returns-clause-indexes c =
    let was = c.loop-index.invariant in
    sym (append-nil (map index_of c.loop-index.shares.items))
    ∙ (ap (λ (all : List IndexValue). map index_of c.loop-index.shares.items ++ all)
    (sym (nothing_left c.loop-index.index-iterator.rest.items
    (omega (arith, was.2, c.in-None.ensures.steps.0)))) ∙ was.3)

pub returns-clause-places : goal.returns-clause-places
returns-clause-places c = c.loop-index.invariant.5
