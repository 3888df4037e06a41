use Rattle.place_table.proofs.Raised.{raised_read, stays_same, enough_read, there_still}
use Rattle.place_table.proofs.places.Places.raise_at.Goals as goal

pub returns-clause-raises : goal.returns-clause-raises
returns-clause-raises c shift is =
    raised_read c.self.inside.hints c.self.inside.places.items c.args.self.now c.args.number
    c.index_mut.result.now c.raise.new.self c.args.spot c.self.invariant c.self.view_is c.requires
    c.index_mut.ensures.value c.args.kept shift c.raise.ensures.id (c.raise.ensures.raises shift is)

pub returns-clause-stays : goal.returns-clause-stays
returns-clause-stays c is =
    let (same, enough) = c.raise.ensures.stays is in (
      stays_same c.self.inside.hints c.self.inside.places.items c.args.self.now c.args.number
          c.index_mut.result.now c.raise.new.self c.args.spot c.self.invariant c.self.view_is
          c.requires c.index_mut.ensures.value same,
      enough_read c.self.inside.hints c.self.inside.places.items c.args.self.now c.args.number
          c.index_mut.result.now c.raise.new.self c.args.spot c.self.invariant c.self.view_is
          c.requires c.index_mut.ensures.value c.args.kept.value enough,
    )

pub returns-clause-there : goal.returns-clause-there
returns-clause-there c =
    there_still c.self.inside.hints c.self.inside.places.items c.args.self.now c.args.number
    c.index_mut.result.now c.raise.new.self c.args.spot c.self.invariant c.self.view_is c.requires
    c.index_mut.ensures.value c.raise.ensures.id
