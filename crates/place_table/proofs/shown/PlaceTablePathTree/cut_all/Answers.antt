use Rattle.place_table.proofs.Beside.{beside_same}
use Rattle.place_table.proofs.shown.PlaceTablePathTree.cut_all.Goals as goal

pub returns-clause-same : goal.returns-clause-same
returns-clause-same c = record {
  root = c.take_shown.ensures.beside.root;
  puts = c.take_shown.ensures.beside.puts;
}

pub returns-clause-beside : goal.returns-clause-beside
returns-clause-beside c =
    beside_same c.args.self.now c.take_shown.new.self c.take_shown.ensures.beside.root
    c.take_shown.ensures.beside.others
