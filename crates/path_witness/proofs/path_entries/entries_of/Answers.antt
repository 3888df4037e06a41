use Rattle.std.proofs.Common.{◌+◌, ℕ, List, take, Some, refl, sym, subst}
use Rattle.std.proofs.lemmas.List.{take_all}
use Rattle.std.proofs.lemmas.List.Elements.{All-contains}
use Rattle.rpq_base.specs.declared.data.Edge.{Edge}
use Rattle.path_witness.specs.Told.{IsSeen, IsBestOf, AreMarked}
use Rattle.path_witness.proofs.Telling.{marked_at_first, marked_more}
use Rattle.path_witness.proofs.path_entries.entries_of.Goals as goal

pub loop-place-init : goal.loop-place-init
loop-place-init c =
    marked_at_first (IsBestOf c.args.marks.now c.args.query) c.args.edges.now
    c.new-positions.result.items _ c.new-positions.ensures.items refl

pub mark_of-mark-requires : goal.mark_of-mark-requires
mark_of-mark-requires c =
    let edge = c.index-edges-place.result in
    All-contains (IsSeen c.args.marks.now c.args.query) c.args.edges.now edge c.requires
    (c.loop-place.place, c.loop-place-test.true, sym c.index-edges-place.is)

pub loop-place-preserved : goal.loop-place-preserved
loop-place-preserved c =
    let kind = IsBestOf c.args.marks.now c.args.query in
    let edges = c.args.edges.now in
    let place = c.loop-place.place in
    let positions = c.push.new.self.items in
    subst (λ (least : ℕ). AreMarked kind (take (place + 1) edges) positions (Some least))
    (sym c.least_with.ensures)
    (marked_more kind edges place c.index-edges-place.result c.mark_of-mark.result
    c.loop-place.positions.items positions c.loop-place.least c.loop-place-test.true
    c.index-edges-place.is c.mark_of-mark.ensures c.in_ok-push.ensures.items
    c.loop-place.invariant)

pub returns : goal.returns
returns c =
    let kind = IsBestOf c.args.marks.now c.args.query in
    let place = c.loop-place.place in
    record {
      least = c.loop-place.least;
      marked = subst
          (λ (edges : List Edge). AreMarked kind edges c.loop-place.positions.items
          c.loop-place.least) (take_all place c.args.edges.now c.loop-place-test.false)
          c.loop-place.invariant;
      until = c.unwrap_or-until.ensures;
    }
