use Rattle.std.proofs.Common.{◌≡◌, Vec, Global, length, map, take, drop}
use Rattle.rpq_base.specs.declared.data.Event.{Event}
use Rattle.two_way.specs.Doubled.{doubled}
use Rattle.two_way.specs.Net.{AreAllNet}
use Rattle.two_way.proofs.netting.net_each.Given as goal

-- the lists of the entries so far are behind, and each of these has its net
abbrev pub invariant-loop-entry : goal.invariant-loop-entry
invariant-loop-entry l =
    (l.left ≡ drop (length (doubled (take l.entry-index l.entries))) l.lists)
    × AreAllNet (take l.entry-index l.entries)
    (map (λ (own : Vec Event Global). own.items) l.lists) (map (λ (own : Vec Event Global). own.items) l.netted.items)
