-- What a chunk and a map end as, once a reference into them has ended.
use Rattle.std.specs.Prelude.{List, Bool}
use Rattle.std.specs.Borrow.{Fml, RattleType, MutBor, Lends}
use Rattle.std.specs.BTreeMap.Lent.{OrdMembers}
use Rattle.std.specs.Map.{set_value}
use Rattle.shared_map.specs.contracts.chunk.Chunk.{the_row}

-- once the borrow ends, the first entry that passes has the last value written through it
abbrev pub lends_value : (K V : RattleType) → OrdMembers K.Denot →
    MutBor (List (K.Denot × V.Denot)) → (K.Denot → Bool) → MutBor V.Denot → Fml
lends_value K V g chunk test r =
    Lends (the_row K V (record { cmp = g.cmp }) (record { eq = g.eq })
    (record { partial_cmp = g.partial_cmp })) V chunk r (set_value test chunk.now)
