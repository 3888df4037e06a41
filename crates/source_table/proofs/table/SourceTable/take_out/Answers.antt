use Rattle.std.proofs.Common.{◌+◌, ◌<◌, List, None, Some, cond, vec_len, nat_eq, length, sym, ap, subst, ◌∙◌, refl, arith}
use Rattle.std.specs.Prelude.{is_some}
use Rattle.source_tree.specs.Ends.{SourceValue}
use Rattle.std.proofs.lemmas.Option.{slice_get_read}
use Rattle.source_table.specs.Sources.{GivesSource, roots_of}
use Rattle.source_table.proofs.Moved.{moves, gives_absent, gives_none, placed_moved, placed_without, still_last}
use Rattle.source_table.proofs.Lists.{mapped}
use Rattle.source_table.proofs.Placed.{are_apart, root_of, within}
use Rattle.source_table.proofs.table.SourceTable.take_out.Goals as goal

pub swap_remove-requires : goal.swap_remove-requires
swap_remove-requires c =
    omega (
      arith,
      within c.self.inside.sources.items c.self.inside.places.marks.items c.self.invariant.0
          c.in-Some.place c.args.root (sym c.in-Some.ensures.was),
      c.self.inside.sources.ok.0,
    )

pub move_to-requires-clause-there : goal.move_to-requires-clause-there
move_to-requires-clause-there c =
    let old = c.self.inside.sources.items in
    let new = c.swap_remove.new.self.items in
    let before = c.self.inside.places.marks.items in
    let gone = c.in-Some.place in
    let moved = moves old new gone (vec_len c.self.inside.sources) c.self.inside.sources.ok.0
    (omega (
      arith,
      c.swap_remove.ensures.len,
      c.self.inside.sources.ok.0,
      c.swap_remove.new.self.ok.0,
    )) c.swap_remove.ensures.by_index in
    let lower : gone + 1 < length old = omega (
      arith,
      c.if-index-len.true,
      c.len.ensures,
      c.swap_remove.ensures.len,
      c.self.inside.sources.ok.0,
    ) in
    let here : gone < length new = omega (
      arith,
      c.if-index-len.true,
      c.len.ensures,
      c.swap_remove.new.self.ok.0,
    ) in
    let came = mapped root_of new gone c.index.result.now
    (slice_get_read new (length new) gone c.index.result.now refl here c.index.ensures)
    ∙ ap Some (sym c.root.ensures.root) in
    ap is_some (still_last old new before c.take.new.self.marks.items gone c.args.root
    c.root.result c.self.invariant.0 moved (sym c.in-Some.ensures.was) lower came
    c.take.ensures.taken)

pub invariant_of-self : goal.invariant_of-self
invariant_of-self c =
    let old = c.self.inside.sources.items in
    let new = c.swap_remove.new.self.items in
    let before = c.self.inside.places.marks.items in
    let gone = c.in-Some.place in
    let moved = moves old new gone (vec_len c.self.inside.sources) c.self.inside.sources.ok.0
    (omega (
      arith,
      c.swap_remove.ensures.len,
      c.self.inside.sources.ok.0,
      c.swap_remove.new.self.ok.0,
    )) c.swap_remove.ensures.by_index in
    let lower : gone + 1 < length old = omega (
      arith,
      c.if-index-len.true,
      c.len.ensures,
      c.swap_remove.ensures.len,
      c.self.inside.sources.ok.0,
    ) in
    let here : gone < length new = omega (
      arith,
      c.if-index-len.true,
      c.len.ensures,
      c.swap_remove.new.self.ok.0,
    ) in
    let came = mapped root_of new gone c.index.result.now
    (slice_get_read new (length new) gone c.index.result.now refl here c.index.ensures)
    ∙ ap Some (sym c.root.ensures.root) in
    let is = sym c.in-Some.ensures.was in (
      placed_moved old new before c.move_to.new.self.marks.items gone c.args.root c.root.result
          c.self.invariant.0 moved is lower came
          (λ each. c.move_to.ensures.given each ∙ ap (cond (nat_eq c.root.result each) (Some gone))
          (c.take.ensures.taken each)),
      omega (arith, c.move_to.ensures.len, c.take.ensures.len, c.self.invariant.1),
    )

pub returns-then-index-len-clause-gone : goal.returns-then-index-len-clause-gone
returns-then-index-len-clause-gone c =
    let old = c.self.inside.sources.items in
    let new = c.swap_remove.new.self.items in
    let gone = c.in-Some.place in
    subst (λ (all : List SourceValue). GivesSource all new c.args.root None) c.self.view_is
    (gives_none old new c.self.inside.places.marks.items c.move_to.new.self.marks.items gone
    c.args.root c.self.invariant.0 (invariant_of-self c).0
    (moves old new gone (vec_len c.self.inside.sources) c.self.inside.sources.ok.0
    (omega (
      arith,
      c.swap_remove.ensures.len,
      c.self.inside.sources.ok.0,
      c.swap_remove.new.self.ok.0,
    )) c.swap_remove.ensures.by_index)
    (sym c.in-Some.ensures.was))

pub returns-then-index-len-clause-apart : goal.returns-then-index-len-clause-apart
returns-then-index-len-clause-apart c =
    are_apart (roots_of c.swap_remove.new.self.items) c.move_to.new.self.marks.items
    (invariant_of-self c).0

pub invariant_of-self-else-index-len : goal.invariant_of-self-else-index-len
invariant_of-self-else-index-len c =
    let old = c.self.inside.sources.items in
    let new = c.swap_remove.new.self.items in
    let gone = c.in-Some.place in
    let is = sym c.in-Some.ensures.was in
    let below = within old c.self.inside.places.marks.items c.self.invariant.0 gone c.args.root is in (
      placed_without old new c.self.inside.places.marks.items c.take.new.self.marks.items gone
          c.args.root c.self.invariant.0
          (moves old new gone (vec_len c.self.inside.sources) c.self.inside.sources.ok.0
          (omega (
            arith,
            c.swap_remove.ensures.len,
            c.self.inside.sources.ok.0,
            c.swap_remove.new.self.ok.0,
          )) c.swap_remove.ensures.by_index)
          is
          (omega (
            arith,
            c.if-index-len.false,
            c.len.ensures,
            c.swap_remove.ensures.len,
            c.self.inside.sources.ok.0,
            below,
          ))
          c.take.ensures.taken,
      omega (arith, c.take.ensures.len, c.self.invariant.1),
    )

pub returns-else-index-len-clause-gone : goal.returns-else-index-len-clause-gone
returns-else-index-len-clause-gone c =
    let old = c.self.inside.sources.items in
    let new = c.swap_remove.new.self.items in
    let gone = c.in-Some.place in
    subst (λ (all : List SourceValue). GivesSource all new c.args.root None) c.self.view_is
    (gives_none old new c.self.inside.places.marks.items c.take.new.self.marks.items gone
    c.args.root c.self.invariant.0 (invariant_of-self-else-index-len c).0
    (moves old new gone (vec_len c.self.inside.sources) c.self.inside.sources.ok.0
    (omega (
      arith,
      c.swap_remove.ensures.len,
      c.self.inside.sources.ok.0,
      c.swap_remove.new.self.ok.0,
    )) c.swap_remove.ensures.by_index)
    (sym c.in-Some.ensures.was))

pub returns-else-index-len-clause-apart : goal.returns-else-index-len-clause-apart
returns-else-index-len-clause-apart c =
    are_apart (roots_of c.swap_remove.new.self.items) c.take.new.self.marks.items
    (invariant_of-self-else-index-len c).0

pub returns-in_default-clause-gone : goal.returns-in_default-clause-gone
returns-in_default-clause-gone c =
    subst (λ (old : List SourceValue). GivesSource old c.self.inside.sources.items c.args.root None)
    c.self.view_is
    (gives_absent c.self.inside.sources.items c.self.inside.places.marks.items c.args.root
    c.self.invariant.0 (sym c.take.ensures.was ∙ c.in_default.is))

pub returns-in_default-clause-apart : goal.returns-in_default-clause-apart
returns-in_default-clause-apart c =
    are_apart (roots_of c.self.inside.sources.items) c.self.inside.places.marks.items
    c.self.invariant.0
