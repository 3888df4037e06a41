-- What a map ends as, once a reference into it has ended.
use Rattle.std.specs.Prelude.{◌≡◌, List, Bool, Result}
use Rattle.std.specs.Borrow.{Fml, RattleType, MutBor, LendsSoOk}
use Rattle.std.specs.BTreeMap.Lent.{OrdMembers}
use Rattle.std.specs.Map.{set_value}
use Rattle.shared_map.specs.contracts.map.SharedMap.{the_row}

-- once the borrow ends, the entry that passes has the last value written through it, and after an
-- error nothing changed
abbrev pub lends_entry : (K V : RattleType) → OrdMembers K.Denot →
    MutBor (List (K.Denot × V.Denot)) → (K.Denot → Bool) → {E : Type 0} →
    Result (MutBor V.Denot) E → Fml
lends_entry K V g map test r =
    LendsSoOk (the_row K V (record { cmp = g.cmp }) (record { eq = g.eq })
    (record { partial_cmp = g.partial_cmp })) V map r (λ new value. new ≡ set_value test map.now value) (λ new. new ≡ map.now)
