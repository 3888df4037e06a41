use Rattle.std.proofs.Common.{length, sym, subst, inl, inr, ⊎_elim, arith}
use Rattle.std.specs.Prelude.{Contains}
use Rattle.std.proofs.lemmas.Option.{slice_get_within}
use Rattle.join_file.specs.Sound.{IsSound}
use Rattle.join_bindings.proofs.Finding.{stands, join_more}
use Rattle.join_bindings.proofs.found.add_found.Goals as goal

pub add_touched-requires : goal.add_touched-requires
add_touched-requires c =
    subst (IsSound (length c.args.sets.now)) (sym c.index-defs-join.is)
    (c.requires.sound c.loop-join.join c.index-defs-join.result c.loop-join-test.true)

pub loop-join-preserved : goal.loop-join-preserved
loop-join-preserved c = λ each.
    let index = c.loop-join.join in
    let join = c.index-defs-join.result in
    let defs = c.args.defs.now in
    join_more c.args.sets.now defs c.args.added c.args.events.now index join each
    (Contains c.args.found.now.items each) (Contains c.loop-join.found.items each) (Contains c.add_touched.new.found.items each)
    (stands defs index join c.loop-join-test.true c.index-defs-join.is)
    (c.in_ok-add_touched.ensures each) (c.loop-join.invariant each)

pub returns : goal.returns
returns c = λ each.
    let both = c.loop-join.invariant each in
    let defs = c.args.defs.now in
    let end = c.loop-join-test.false in (
      (λ member. ⊎_elim (λ old. inl old) (λ some. inr some.1) (both.0 member)),
      (λ either. both.1 (⊎_elim
          (λ old. inl old)
          (λ found. let below = slice_get_within defs each.join found.0 found.1 in inr (omega (arith, below, end), found))
          either)),
    )
