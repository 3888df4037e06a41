use Rattle.std.proofs.Common.{◌≡◌, ◌<◌, List, length, get_or, refl, subst}
use Rattle.std.specs.declared.cmp.Ordering.TheVariants.{Equal}
use Rattle.shared_map.proofs.Search.{value_seen, written_seen}
use Rattle.shared_map.proofs.chunk.Chunk.value_mut.Goals as goal

pub returns : goal.returns
returns g c =
    let place = c.place_there-place.result in
    let here = c.index_mut.result.now in
    let within : place < length c.args.self.now =
    subst (λ (entries : List (g.row.K.Denot × g.row.V.Denot)). place < length entries) c.self.view_is c.place_there-place.ensures.within in
    let is : g.K.Ord.cmp (get_or c.args.self.now place here).0 c.args.key.now ≡ Equal =
    subst (λ (entries : List (g.row.K.Denot × g.row.V.Denot)). g.K.Ord.cmp (get_or entries place here).0 c.args.key.now ≡ Equal)
    c.self.view_is (c.place_there-place.ensures.place here) in (
      (
        refl,
        λ w. written_seen g.met.K.Ord.total c.self.inside.entries.items c.args.self.now place c.args.key.now w
            here c.self.view_is c.index_mut.ensures.value c.requires.sorted within is,
      ),
      record {
        writes_back = tt;
        value = value_seen g.met.K.Ord.total c.self.inside.entries.items c.args.self.now place c.args.key.now
            here c.self.view_is c.index_mut.ensures.value c.requires.sorted within is;
      },
    )
