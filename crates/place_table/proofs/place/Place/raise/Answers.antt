use Rattle.std.proofs.Common.{refl}
use Rattle.place_table.proofs.Raised.{found_within, ok_is_one, raised_new, raised_there, enough_there}
use Rattle.place_table.proofs.place.Place.raise.Goals as goal

pub returns-in_default-clause-raises : goal.returns-in_default-clause-raises
returns-in_default-clause-raises c shift is =
    raised_new c.self.inside.id c.self.inside.nodes c.args.self.now c.args.root c.args.kept
    c.self.view_is c.push.new.self c.in_default.ensures.place c.in_ok-push.ensures.pushed
    c.shift_to.result c.shift_to.ensures shift (ok_is_one c.shift_to.result shift is)

pub at-before-requires : goal.at-before-requires
at-before-requires c =
    found_within c.self.inside.nodes c.args.root c.in-Some.place c.in-Some.ensures.place

pub returns-then-kept-before-clause-stays : goal.returns-then-kept-before-clause-stays
returns-then-kept-before-clause-stays c is = (
  refl,
  enough_there c.self.inside.id c.self.inside.nodes c.args.self.now c.args.root c.args.kept
      c.self.view_is c.in-Some.place c.at-before.result c.in-Some.ensures.place
      c.in-Some.ensures.once c.at-before.ensures c.if-kept-before.true,
)

pub set_at-requires : goal.set_at-requires
set_at-requires c =
    found_within c.self.inside.nodes c.args.root c.in-Some.place c.in-Some.ensures.place

pub returns-clause-raises : goal.returns-clause-raises
returns-clause-raises c shift is =
    raised_there c.self.inside.id c.self.inside.nodes c.args.self.now c.args.root c.args.kept
    c.self.view_is c.in-Some.place c.at-before.result c.in-Some.ensures.place c.in-Some.ensures.once
    c.at-before.ensures c.set_at.new.self c.if-kept-before.false c.set_at.ensures
    c.shift_to-2.result c.shift_to-2.ensures shift (ok_is_one c.shift_to-2.result shift is)
