use Rattle.std.proofs.Common.{rules, ◌∷◌, ◌++◌, map, sym, ap, ◌∙◌}
use Rattle.std.proofs.lemmas.List.Elements.{All-head, All-tail, All-same}
use Rattle.turn_lock.specs.Passes.{IsAtRest}
use Rattle.turn_lock.specs.Seats.{known_of}
use Rattle.turn_lock.proofs.Joins.{joins}
use Rattle.turn_lock.proofs.Seats.{at_rest, joined_first, joined_more}
use Rattle.turn_lock.proofs.turns.Turns.gather.Goals as goal

pub loop-other-init : goal.loop-other-init
loop-other-init g c =
    let first = c.in-Some.first in
    let is = sym c.into_iter-passes.ensures.rest ∙ c.in-Some.ensures.items
    ∙ ap (λ it. first ∷ it.rest.items)
    (sym c.into_iter-other-iterator.ensures.into_iter_gives) in
    let all = All-same (IsAtRest c.args.self.now) _ _ (sym is) c.requires.rest in
    let head = All-head (IsAtRest c.args.self.now) _ _ all in
    let same = c.first.view_is in (
      ap (λ p. p.id) same ∙ head.0,
      (at_rest _ _ (ap (λ p. p.found) same ∙ head.1) c.first.invariant.0).0,
      All-tail (IsAtRest c.args.self.now) _ _ all,
      joined_first _ c.first.inside.seat.me.0 _ _ _ is same c.first.invariant.1,
    )

pub join_seat-requires : goal.join_seat-requires
join_seat-requires g c =
    let i = c.loop-other.invariant in
    let all = All-same (IsAtRest c.args.self.now) _ _ (sym c.in-Some-2.ensures.steps.0) i.2 in
    let head = All-head (IsAtRest c.args.self.now) _ _ all in
    let same = c.other.view_is in
    let seat = at_rest _ _ (ap (λ p. p.found) same ∙ head.1) c.other.invariant.0 in
    let table = ap (λ t. t.id) c.self.view_is in (
      i.0 ∙ sym table,
      ap (λ p. p.id) same ∙ head.0 ∙ sym table,
      seat.1,
      search rules,
      joins _ _ _ _ _ _ _ _ _ i.1 seat.0,
    )

pub loop-other-preserved : goal.loop-other-preserved
loop-other-preserved g c =
    let i = c.loop-other.invariant in
    let steps = c.in-Some-2.ensures.steps.0 in
    let all = All-same (IsAtRest c.args.self.now) _ _ (sym steps) i.2 in
    let join = c.join_seat.ensures in (
      join.0 ∙ i.0,
      ap (λ m. m.0.stage) join.2 ∙ i.1,
      All-tail (IsAtRest c.args.self.now) _ _ all,
      i.3 ∙ joined_more _ _ _ c.other.inside.seat.me.0 _ _ _ steps c.other.view_is
          c.other.invariant.1
          ∙ ap (λ m. m.0.known ∷
          (m.0.heard ++ map known_of c.next-in-loop-other.new.self.rest.items)) (sym join.2),
    )
