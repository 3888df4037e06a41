use Rattle.std.proofs.Common.{◌≡◌, ◌≤◌, ◌-◌, ℕ, List, Option}
use Rattle.text_items.specs.Progress.{IsTextReader, HasRead, passed}
use Rattle.text_items.proofs.next.next_item.Given as goal

-- nothing but lines that give no item were passed over
abbrev pub invariant-loop-item : goal.invariant-loop-item
invariant-loop-item g l = record {
  sound : IsTextReader g.S.Source.left l.reader;
  forward : passed l.fn.reader ≤ passed l.reader;
  read : (file : Option (List ℕ)) (items : List g.row.L-Item.Denot)
      → HasRead (g.L.LineItems.reading l.lines) g.S.Source.left file items l.fn.reader
      → HasRead (g.L.LineItems.reading l.lines) g.S.Source.left file items l.reader;
  quiet : g.S.Source.faults l.reader.source ≡ g.S.Source.faults l.fn.reader.source;
  limits : l.reader.byte_limit ≡ l.fn.reader.byte_limit;
}

-- how many bytes may still be given
abbrev pub decreases-loop-item : goal.decreases-loop-item
decreases-loop-item g l = l.reader.byte_limit - passed l.reader
